-- Where the events lie that a run writes, or that end a task.
use Rattle.std.specs.Prelude.{ℕ, suc, List, [], ◌∷◌, ◌++◌, Bool, true, false, cond, map, length}
use Rattle.std.specs.declared.vec.Vec.{Vec}
use Rattle.ca_term.specs.Event.{EventView, printed, over}
use Rattle.ca_journal.specs.declared.entry.Entry.{Entry}
use Rattle.ca_journal.specs.declared.entry.Spot.{Spot}
use Rattle.ca_journal.specs.Numbered.{Numbered, piece_entries}

-- a line of output or the end of a task
abbrev pub is_said : EventView → Bool
is_said (printed t line) = true
is_said (over t how) = true
is_said e = false

-- of the entries of the piece p that lie from place i on
abbrev pub spots_in : ℕ → ℕ → List Numbered → List Spot
spots_in p i [] = []
spots_in p i (e ∷ es) = cond (is_said e.event) (record { piece = p; place = i } ∷ spots_in p (suc i) es) (spots_in p (suc i) es)

-- of the pieces from p on
abbrev pub spots_of : ℕ → List (List Numbered) → List Spot
spots_of p [] = []
spots_of p (es ∷ ps) = spots_in p 0 es ++ spots_of (suc p) ps

-- of the full pieces and the last one
abbrev pub said_spots : {Z : Type 0} → List (Vec Entry Z) → Vec Entry Z → List Spot
said_spots full last = spots_of 0 (map piece_entries full) ++ spots_in (length full) 0 (piece_entries last)
