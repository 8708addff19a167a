use Rattle.std.proofs.Common.{◌≡◌, ◌+◌, ◌-◌}
use Rattle.ca_states.specs.Code.{slots_view}
use Rattle.ca_states.specs.Machine.{slots_from}
use Rattle.ca_states.specs.Valid.{each}
use Rattle.ca_states.specs.Told.{slot_told}
use Rattle.ca_states.proofs.notes.Notes.is_range_known.Given as goal

abbrev pub invariant-loop-i : goal.invariant-loop-i
invariant-loop-i l =
    each (slot_told l.self (slots_view l.entry)) (slots_from l.from l.count) ≡ each (slot_told l.self (slots_view l.entry)) (slots_from (l.from + l.i) (l.count - l.i))
