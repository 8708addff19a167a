use Rattle.std.proofs.Common.{◌≡◌, arith, sym, ◌∙◌, true, is_some}
use Rattle.ca_reader.specs.View.{form_tree}
use Rattle.ca_forms.specs.Binders.{binder}
use Rattle.ca_check.proofs.DefnLaws.{binders_step}
use Rattle.ca_check.proofs.defn.are_binders.Goals as goal

pub loop-form-preserved : goal.loop-form-preserved
loop-form-preserved c =
    let t : is_some (binder (form_tree c.form-item.result)) ≡ true = grind arith in
    sym (binders_step c.args.forms.now c.loop-form.form-index c.form-item.result (omega arith) c.form-item.is t) ∙ c.loop-form.invariant
