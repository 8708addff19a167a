use Rattle.std.proofs.Common.{◌≡◌, arith, sym, ◌∙◌, true, is_some}
use Rattle.ca_reader.specs.View.{form_tree}
use Rattle.ca_forms.specs.Binders.{name_in}
use Rattle.ca_forms.proofs.ShapeLaws.{names_step}
use Rattle.ca_forms.proofs.shapes.are_names.Goals as goal

pub loop-form-preserved : goal.loop-form-preserved
loop-form-preserved c =
    let t : is_some (name_in (form_tree c.form-item.result)) ≡ true = grind arith in
    sym (names_step c.args.forms.now c.loop-form.form-index c.form-item.result (omega arith) c.form-item.is t) ∙ c.loop-form.invariant
