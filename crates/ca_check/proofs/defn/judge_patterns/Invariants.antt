use Rattle.std.proofs.Common.{◌≡◌, drop}
use Rattle.ca_reader.specs.View.{form_trees}
use Rattle.ca_forms.specs.Meaning.{Meaning, Env}
use Rattle.ca_forms.specs.Outcome.{Gathered}
use Rattle.ca_forms.specs.Tops.{counted_patterns}
use Rattle.ca_check.specs.TopsView.{total_binders, AreCounted}
use Rattle.ca_check.proofs.defn.judge_patterns.Given as goal

abbrev pub invariant-loop-form : goal.invariant-loop-form
invariant-loop-form l = record {
  same : (m : Meaning) (e : Env) (s : Gathered) → counted_patterns (total_binders (form_trees (drop l.form-index l.forms))) m e s ≡ counted_patterns (total_binders (form_trees l.forms)) m e s;
  short : AreCounted (total_binders (form_trees (drop l.form-index l.forms))) → AreCounted (total_binders (form_trees l.forms));
}
