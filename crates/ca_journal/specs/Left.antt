-- What is left of lists, on a walk.
use Rattle.std.specs.Prelude.{List, [], Option, Some, None, drop, slice_get}
use Rattle.std.specs.declared.vec.Vec.{Vec}
use Rattle.ca_journal.specs.declared.entries.Entries.{Entries}
use Rattle.ca_journal.specs.declared.entry.Entry.{Entry}
use Rattle.ca_journal.specs.declared.entry.Spot.{Spot}
use Rattle.ca_journal.specs.declared.walk.Front.{Front}
use Rattle.ca_journal.specs.Numbered.{Numbered, laid}

-- the entries of the pieces from a place on
abbrev pub left_from : {Z : Type 0} → List (Vec Entry Z) → Vec Entry Z → Spot → List Numbered
left_from full last s = drop s.place (laid (drop s.piece full) last)

abbrev pub left_of : Option Entries → Spot → List Numbered
left_of None s = []
left_of (Some l) s = left_from l.full.items l.last s

-- the entries of a front's list from its place on
abbrev pub entries_waiting : List Entries → Front → List Numbered
entries_waiting ls f = left_of (slice_get ls f.list) f.spot
