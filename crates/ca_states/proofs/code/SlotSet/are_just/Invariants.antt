use Rattle.std.proofs.Common.{◌≡◌, ◌-◌}
use Rattle.std.specs.Prelude.{cond, not, nat_lt}
use Rattle.ca_states.specs.Code.{has_slot, slots_view}
use Rattle.ca_states.specs.Machine.{slots_from}
use Rattle.ca_states.specs.Valid.{each}
use Rattle.ca_states.proofs.code.SlotSet.are_just.Given as goal

abbrev pub invariant-loop-slot : goal.invariant-loop-slot
invariant-loop-slot l =
    each (λ k. cond (nat_lt k l.count) (has_slot (slots_view l.self) k) (not (has_slot (slots_view l.self) k))) (slots_from 0 l.self.below)
    ≡ each (λ k. cond (nat_lt k l.count) (has_slot (slots_view l.self) k) (not (has_slot (slots_view l.self) k))) (slots_from l.slot (l.self.below - l.slot))
