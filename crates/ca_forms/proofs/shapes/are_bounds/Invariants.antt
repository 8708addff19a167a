use Rattle.std.proofs.Common.{◌≡◌, ◌≤◌, ◌-◌, drop, is_some, length}
use Rattle.ca_forms.specs.Binders.{bounds}
use Rattle.ca_forms.specs.WalkView.{form_pairs}
use Rattle.ca_forms.proofs.shapes.are_bounds.Given as goal

abbrev pub invariant-loop-i : goal.invariant-loop-i
invariant-loop-i l = record {
  same : is_some (bounds (form_pairs (drop l.i l.forms))) ≡ is_some (bounds (form_pairs l.forms));
  within : l.i ≤ length l.forms;
}

abbrev pub decreases-loop-i : goal.decreases-loop-i
decreases-loop-i l = length l.forms - l.i
