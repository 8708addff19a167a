use Rattle.std.proofs.Common.{◌≡◌, drop}
use Rattle.std.specs.List.{list_any}
use Rattle.ca_reader.specs.View.{form_trees}
use Rattle.ca_forms.specs.Binders.{is_pattern}
use Rattle.ca_check.specs.TopsView.{total_binders}
use Rattle.ca_check.proofs.function_body.have_pattern.Given as goal

abbrev pub invariant-loop-parameter : goal.invariant-loop-parameter
invariant-loop-parameter l = list_any is_pattern (total_binders (form_trees (drop l.parameter-index l.parameters))) ≡ list_any is_pattern (total_binders (form_trees l.parameters))
