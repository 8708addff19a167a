use Rattle.std.proofs.Common.{◌≡◌, drop, is_some}
use Rattle.ca_reader.specs.View.{form_trees}
use Rattle.ca_forms.specs.Tops.{binders_in}
use Rattle.ca_check.proofs.defn.are_binders.Given as goal

abbrev pub invariant-loop-form : goal.invariant-loop-form
invariant-loop-form l = is_some (binders_in (form_trees (drop l.form-index l.forms))) ≡ is_some (binders_in (form_trees l.forms))
