use Rattle.std.proofs.Common.{◌≡◌, ◌*◌, drop}
use Rattle.std.specs.List.{list_any}
use Rattle.ca_forms.specs.Binders.{is_pattern}
use Rattle.ca_forms.specs.Judged.{total_bounds}
use Rattle.ca_forms.specs.Plain.{binders}
use Rattle.ca_forms.specs.WalkView.{form_pairs}
use Rattle.ca_forms.proofs.shapes.binds_pattern.Given as goal

abbrev pub invariant-loop-i : goal.invariant-loop-i
invariant-loop-i l = list_any is_pattern (binders (total_bounds (form_pairs (drop (2 * l.i) l.items)))) ≡ list_any is_pattern (binders (total_bounds (form_pairs l.items)))
