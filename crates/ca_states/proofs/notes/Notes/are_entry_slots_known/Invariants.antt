use Rattle.std.proofs.Common.{◌≡◌, ◌-◌}
use Rattle.ca_states.specs.Code.{has_slot, slots_view}
use Rattle.ca_states.specs.Machine.{slots_from}
use Rattle.ca_states.specs.Valid.{each, implies}
use Rattle.ca_states.specs.Told.{slot_told}
use Rattle.ca_states.proofs.notes.Notes.are_entry_slots_known.Given as goal

abbrev pub invariant-loop-slot : goal.invariant-loop-slot
invariant-loop-slot l =
    each (λ k. implies (has_slot (slots_view l.others) k) (slot_told l.self (slots_view l.entry) k)) (slots_from 0 l.others.below)
    ≡ each (λ k. implies (has_slot (slots_view l.others) k) (slot_told l.self (slots_view l.entry) k)) (slots_from l.slot (l.others.below - l.slot))
