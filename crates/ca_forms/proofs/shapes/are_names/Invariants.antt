use Rattle.std.proofs.Common.{◌≡◌, drop, is_some}
use Rattle.ca_reader.specs.View.{form_trees}
use Rattle.ca_forms.specs.Binders.{names_in}
use Rattle.ca_forms.proofs.shapes.are_names.Given as goal

abbrev pub invariant-loop-form : goal.invariant-loop-form
invariant-loop-form l = is_some (names_in (form_trees (drop l.form-index l.forms))) ≡ is_some (names_in (form_trees l.forms))
