use Rattle.std.proofs.Common.{rules, ◌≡◌, sym, ◌∙◌}
use Rattle.ca_reader.specs.declared.form.Form.{the_lemmas as form_lemmas}
use Rattle.ca_reader.specs.declared.form.Shape.{the_lemmas as shape_lemmas}
use Rattle.ca_reader.specs.View.{form_tree, form_trees}
use Rattle.ca_forms.specs.Tops.{binders_in, parameters_in}
use Rattle.ca_check.proofs.DefnLaws.{binders_total}
use Rattle.ca_check.proofs.defn.parameters.Goals as goal

pub returns-then-are_binders : goal.returns-then-are_binders
returns-then-are_binders c =
    let tree : parameters_in (form_tree c.args.form.now) ≡ binders_in (form_trees c.as_slice-forms.result.now) = search (rules, form_lemmas, shape_lemmas) in
    binders_total (form_trees c.as_slice-forms.result.now) (sym c.are_binders.ensures ∙ c.if-are_binders.true) ∙ sym tree
