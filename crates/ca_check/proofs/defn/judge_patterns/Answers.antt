use Rattle.std.proofs.Common.{rules, Err, ◌≡◌, ◌+◌, arith, sym, ◌∙◌, drop}
use Rattle.ca_reader.specs.View.{form_trees}
use Rattle.ca_forms.specs.Meaning.{Meaning, Env}
use Rattle.ca_forms.specs.Outcome.{Gathered}
use Rattle.ca_forms.specs.Tops.{counted_patterns}
use Rattle.ca_forms.specs.WalkView.{Fails}
use Rattle.ca_check.specs.TopsView.{total_binders}
use Rattle.ca_check.proofs.DefnLaws.{counted_step, counted_over, patterns_step, patterns_over, fails_same, err_is}
use Rattle.ca_check.proofs.defn.judge_patterns.Goals as goal

pub loop-form-preserved : goal.loop-form-preserved
loop-form-preserved c = record {
  same = λ m e s. sym (c.in_ok-judge_pattern.ensures.ok (total_binders (form_trees (drop (c.loop-form.form-index + 1) c.args.forms.now))) m e s)
      ∙ patterns_step c.args.forms.now c.loop-form.form-index c.form-item.result m e s (omega arith) c.form-item.is ∙ c.loop-form.invariant.same m e s;
  short = λ h. c.loop-form.invariant.short (counted_step c.args.forms.now c.loop-form.form-index c.form-item.result (omega arith) c.form-item.is c.in_ok-judge_pattern.ensures.short h);
}

pub returns-clause-short : goal.returns-clause-short
returns-clause-short c = c.loop-form.invariant.short (counted_over c.args.forms.now c.loop-form.form-index (omega arith))

pub returns-clause-ok : goal.returns-clause-ok
returns-clause-ok c m e s = sym (c.loop-form.invariant.same m e s) ∙ patterns_over c.args.forms.now c.loop-form.form-index m e s (omega arith)

pub returns-in_err-judge_pattern-clause-err : goal.returns-in_err-judge_pattern-clause-err
returns-in_err-judge_pattern-clause-err c =
    let h : (m : Meaning) (e : Env) (s : Gathered) → Fails c.in_err-judge_pattern.field-0.0 (counted_patterns (total_binders (form_trees c.args.forms.now)) m e s)
    = λ m e s. fails_same c.in_err-judge_pattern.field-0.0 _ _
    (patterns_step c.args.forms.now c.loop-form.form-index c.form-item.result m e s (omega arith) c.form-item.is ∙ c.loop-form.invariant.same m e s)
    (c.in_err-judge_pattern.ensures.err (total_binders (form_trees (drop (c.loop-form.form-index + 1) c.args.forms.now))) m e s) in
    let same : c.from_residual.result ≡ Err c.in_err-judge_pattern.field-0.0 = search rules in
    err_is c.from_residual.result c.in_err-judge_pattern.field-0.0 _ same h
