use Rattle.std.proofs.Common.{◌≡◌, drop}
use Rattle.ca_states.specs.Code.{is_slot_among}
use Rattle.ca_states.proofs.notes.is_hole.Given as goal

abbrev pub invariant-loop-hole : goal.invariant-loop-hole
invariant-loop-hole l = is_slot_among l.slot l.holes ≡ is_slot_among l.slot (drop l.hole-index l.holes)
