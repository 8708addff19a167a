use Rattle.std.proofs.Common.{◌≡◌, ◌+◌, ◌≤◌, ◌++◌, length, map}
use Rattle.std.specs.Prelude.{Some}
use Rattle.crossbeam_utils.specs.Padded.{padded_value}
use Rattle.std.specs.Vec.{vec_capacity, vec_ptr}
use Rattle.ca_turns.proofs.ends.slots_of.Given as goal

abbrev pub invariant-loop-slots : goal.invariant-loop-slots
invariant-loop-slots g l = (map Some l.initial.parts.items ≡ map padded_value l.slots.items ++ map Some l.parts.items) × (length l.slots.items + length l.parts.items ≤ vec_capacity l.slots) × (vec_capacity l.parts ≡ vec_capacity l.initial.parts) × (vec_ptr l.parts ≡ vec_ptr l.initial.parts)

abbrev pub decreases-loop-slots : goal.decreases-loop-slots
decreases-loop-slots g l = length l.parts.items
