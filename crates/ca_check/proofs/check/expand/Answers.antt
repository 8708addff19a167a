use Rattle.std.proofs.Common.{Err, ◌≡◌, ◌+◌, arith, ap, sym, ◌∙◌, rules}
use Rattle.ca_value.specs.Seq.{list}
use Rattle.ca_term.specs.View.{bindings}
use Rattle.ca_check.specs.TopsView.{tops_of}
use Rattle.ca_check.specs.ScriptView.{ahead, rest_of_script, nothing_defined, nothing_gathered}
use Rattle.ca_forms.specs.WalkView.{gathered, Fails}
use Rattle.ca_check.specs.Expansion.{script_tops}
use Rattle.ca_reader.specs.View.{form_trees}
use Rattle.ca_check.proofs.ScriptLaws.{from_form, from_cut, script_starts, script_ends, ahead_fails}
use Rattle.ca_check.proofs.DefnLaws.{fails_same, err_is}
use Rattle.ca_check.proofs.check.expand.Goals as goal

pub loop-i-init : goal.loop-i-init
loop-i-init c = record {
  same = script_starts c.args.forms.now c.in_ok-first.first (bindings (list c.new-expansion.result.bindings)) (tops_of c.new-expansion.result.definitions) (gathered c.new-expansion.result.definitions.walker.gathered)
      c.new-expansion.ensures.bindings c.new-expansion.ensures.tops c.new-expansion.ensures.gathered (c.in_ok-first.ensures.ok nothing_defined nothing_gathered);
  behind = search rules;
}

pub loop-i-preserved : goal.loop-i-preserved
loop-i-preserved c =
    let t = tops_of c.loop-i.expansion.definitions in
    let s = gathered c.loop-i.expansion.definitions.walker.gathered in
    record {
      same = c.loop-i.invariant.same ∙ ap (ahead (bindings (list c.loop-i.expansion.bindings))) (from_cut c.args.forms.now c.loop-i.i c.index-forms-i.result t s (omega arith) c.index-forms-i.is)
          ∙ c.in_ok-form.ensures.ok (from_form c.args.forms.now (c.loop-i.i + 1));
      behind = c.in_ok-form.ensures.behind;
    }

pub returns-clause-ok : goal.returns-clause-ok
returns-clause-ok c = c.loop-i.invariant.same ∙ script_ends c.args.forms.now c.loop-i.i (bindings (list c.loop-i.expansion.bindings)) (tops_of c.loop-i.expansion.definitions) (gathered c.loop-i.expansion.definitions.walker.gathered) (omega arith)

pub returns-in_err-form-clause-err : goal.returns-in_err-form-clause-err
returns-in_err-form-clause-err c =
    let t = tops_of c.loop-i.expansion.definitions in
    let s = gathered c.loop-i.expansion.definitions.walker.gathered in
    let h : Fails c.in_err-form.field-0.0 (script_tops (form_trees c.args.forms.now) nothing_defined nothing_gathered)
    = ahead_fails c.in_err-form.field-0.0 (bindings (list c.loop-i.expansion.bindings)) (rest_of_script c.loop-i.expansion (from_form c.args.forms.now c.loop-i.i)) (script_tops (form_trees c.args.forms.now) nothing_defined nothing_gathered) c.loop-i.invariant.same
    (fails_same c.in_err-form.field-0.0 _ _ (sym (from_cut c.args.forms.now c.loop-i.i c.index-forms-i.result t s (omega arith) c.index-forms-i.is)) (c.in_err-form.ensures.err (from_form c.args.forms.now (c.loop-i.i + 1)))) in
    let same : c.from_residual-in_err-form.result ≡ Err c.in_err-form.field-0.0 = search rules in
    err_is c.from_residual-in_err-form.result c.in_err-form.field-0.0 (λ e. Fails e (script_tops (form_trees c.args.forms.now) nothing_defined nothing_gathered)) same h
