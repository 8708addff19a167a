use Rattle.std.proofs.Common.{◌≡◌, ◌-◌, ◌≤◌, length}
use Rattle.ca_value.specs.View.{views}
use Rattle.ca_states.specs.Machine.{begun}
use Rattle.ca_states.proofs.slots.fill.Given as goal

abbrev pub invariant-loop-slots : goal.invariant-loop-slots
invariant-loop-slots l = record {
  within : length l.slots.items ≤ l.width;
  begun : begun l.width (views l.slots.items) ≡ begun l.width (views l.fn.slots.items);
}

abbrev pub decreases-loop-slots : goal.decreases-loop-slots
decreases-loop-slots l = l.width - length l.slots.items
