use Rattle.std.proofs.Common.{◌≡◌, ℕ, ◌<◌, ◌≤◌, false, true, get_or, length, map, take}
use Rattle.std.specs.Prelude.{Some}
use Rattle.std.specs.Mem.Slots.{slots_filled, slots_items, slots_len}
use Rattle.crossbeam_utils.specs.Padded.{padded_value}
use Rattle.std.specs.Vec.{vec_capacity, vec_ptr}
use Rattle.ca_turns.proofs.ends.emptied.Given as goal

abbrev pub invariant-loop-i : goal.invariant-loop-i
invariant-loop-i g l = ((k : ℕ) → l.i ≤ k → k < slots_len l.closed.slots → get_or (slots_filled l.closed.slots) k false ≡ true) × ((k : ℕ) → k < l.i → get_or (slots_filled l.closed.slots) k false ≡ false)
    × (slots_items l.closed.slots ≡ slots_items l.initial.closed.slots) × (slots_len l.closed.slots ≡ slots_len l.initial.closed.slots) × (map Some l.rest.items ≡ take l.i (map padded_value (slots_items l.initial.closed.slots))) × (length l.rest.items ≡ l.i) × (vec_capacity l.rest ≡ vec_capacity l.initial.rest)
    × (vec_ptr l.rest ≡ vec_ptr l.initial.rest)
