use Rattle.std.proofs.Common.{◌≡◌, ◌+◌, length, drop}
use Rattle.ca_value.specs.Seq.{list}
use Rattle.ca_states.specs.Valid.{are_valid_blocks}
use Rattle.ca_states.specs.Views.{texts_view}
use Rattle.ca_states.specs.Told.{IsBefore}
use Rattle.ca_states.proofs.range.Texts.are_valid_blocks.Given as goal

abbrev pub invariant-loop-number : goal.invariant-loop-number
invariant-loop-number l =
    (length (list l.notes.marks) ≡ length (list l.fn.notes.marks)) × IsBefore l.notes (l.number + 1)
    × (are_valid_blocks (texts_view l.self) 0 (texts_view l.self).blocks ≡ are_valid_blocks (texts_view l.self) l.number (drop l.number (texts_view l.self).blocks))
