use Rattle.std.proofs.Common.{◌≡◌, ◌+◌, ◌-◌, length}
use Rattle.ca_value.specs.View.{views}
use Rattle.ca_states.specs.Machine.{taken_all, slots_from}
use Rattle.ca_states.proofs.slots.clear_row.Given as goal

abbrev pub invariant-loop-i : goal.invariant-loop-i
invariant-loop-i l =
    (length l.slots ≡ length l.fn.slots)
    × (taken_all (views l.slots) (slots_from (l.from + l.i) (l.count - l.i)) ≡ taken_all (views l.fn.slots) (slots_from l.from l.count))
