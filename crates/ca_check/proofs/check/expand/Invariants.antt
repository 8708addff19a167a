use Rattle.std.proofs.Common.{◌≡◌}
use Rattle.ca_value.specs.Seq.{list}
use Rattle.ca_term.specs.View.{bindings}
use Rattle.ca_reader.specs.View.{form_trees}
use Rattle.ca_check.specs.Expansion.{script_tops}
use Rattle.ca_check.specs.ScriptView.{Behind, ahead, rest_of_script, nothing_defined, nothing_gathered}
use Rattle.ca_check.proofs.ScriptLaws.{from_form}
use Rattle.ca_check.proofs.check.expand.Given as goal

abbrev pub invariant-loop-i : goal.invariant-loop-i
invariant-loop-i l = record {
  same : script_tops (form_trees l.forms) nothing_defined nothing_gathered ≡ ahead (bindings (list l.expansion.bindings)) (rest_of_script l.expansion (from_form l.forms l.i));
  behind : Behind l.i l.expansion;
}
