use Rattle.std.proofs.Common.{◌≡◌, arith, sym, true, is_some}
use Rattle.ca_forms.specs.Binders.{bounds}
use Rattle.ca_forms.specs.WalkView.{form_pairs}
use Rattle.ca_forms.proofs.ShapeLaws.{items_many, items_few}
use Rattle.ca_forms.proofs.shapes.items_error.Goals as goal

pub returns-then-forms-gt64 : goal.returns-then-forms-gt64
returns-then-forms-gt64 c =
    let t : is_some (bounds (form_pairs c.args.forms.now)) ≡ true = grind arith in
    sym (items_many c.args.forms.now t (omega arith))

pub returns-else-forms-gt64 : goal.returns-else-forms-gt64
returns-else-forms-gt64 c =
    let t : is_some (bounds (form_pairs c.args.forms.now)) ≡ true = grind arith in
    sym (items_few c.args.forms.now t (omega arith))
