-- What is written of the entries at some places of a list.
use Rattle.std.specs.Prelude.{ℕ, List, [], ◌∷◌, ◌++◌, Option, Some, None, cond, nat_lt, length, map, slice_get, slice_index_or}
use Rattle.std.specs.declared.vec.Vec.{Vec}
use Rattle.ca_meaning.specs.Texts.{output_of}
use Rattle.ca_journal.specs.declared.entry.Entry.{Entry}
use Rattle.ca_journal.specs.declared.entry.Spot.{Spot}
use Rattle.ca_journal.specs.Numbered.{Numbered, piece_entries}

-- the entry at the place; the piece behind the full ones is the last
abbrev pub found_at : {Z : Type 0} → List (Vec Entry Z) → Vec Entry Z → Spot → Option Numbered
found_at full last s = cond (nat_lt s.piece (length full)) (slice_get (slice_index_or (map piece_entries full) s.piece []) s.place) (slice_get (piece_entries last) s.place)

abbrev pub text_at : Option Numbered → List ℕ
text_at None = []
text_at (Some e) = output_of e.event

abbrev pub said_text : (Spot → Option Numbered) → List Spot → List ℕ
said_text f [] = []
said_text f (s ∷ ss) = text_at (f s) ++ said_text f ss
