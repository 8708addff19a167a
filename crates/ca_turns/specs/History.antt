-- Histories: lists of turns in the order of their numbers, and what they leave of the parts.
use Rattle.std.specs.Prelude.{◌≡◌, ◌≢◌, ℕ, ◌<◌, ◌⊎◌, List, [], ◌∷◌, length}
use mathlib.Core.Option.{some}
use lib.ListN.{get_elem?}
use Rattle.ca_turns.specs.declared.rule.Turn.{Turn}
use Rattle.ca_turns.specs.Places.{write, ReadsPlaces}

-- each turn stands at its number
abbrev pub IsNumbered : {C E : Type 0} → List (Turn C E) → Type 0
IsNumbered {C} {E} log = (n : ℕ) (t : Turn C E) → get_elem? log n ≡ some t → t.number ≡ n

module _ {C E : Type 0} (touches : E → List ℕ) where
  -- the turn touches the part p and left the content c there
  abbrev pub LeavesPart : Turn C E → ℕ → C → Type 0
  LeavesPart t p c = (m : ℕ) × (get_elem? (touches t.event) m ≡ some p) × (get_elem? t.after m ≡ some c)

  abbrev pub Untouched : Turn C E → ℕ → Type 0
  Untouched t p = (m : ℕ) → get_elem? (touches t.event) m ≢ some p

  -- c is the content of the part p after the history: what the last turn that touches p left there, or else the opening content
  abbrev pub Replay : List C → List (Turn C E) → ℕ → C → Type 0
  Replay opening log p c =
      ((m : ℕ) × (t : Turn C E) × (get_elem? log m ≡ some t) × LeavesPart t p c × ((k : ℕ) (u : Turn C E) → m < k → get_elem? log k ≡ some u → Untouched u p))
      ⊎ (((k : ℕ) (u : Turn C E) → get_elem? log k ≡ some u → Untouched u p) × (get_elem? opening p ≡ some c))

  module _ (moves : E → List C → List C → Type 0) where
    -- the turn finds the contents that it shows, and its event moves them to those that it leaves
    abbrev pub TurnGoes : List C → Turn C E → Type 0
    TurnGoes now t = ReadsPlaces now (touches t.event) t.before × moves t.event t.before t.after × (length t.after ≡ length (touches t.event))

    -- the turns, one after the other, are a run of the object from the opening contents to the last
    abbrev pub Run : List C → List (Turn C E) → List C → Type 0
    Run opening [] last = opening ≡ last
    Run opening (t ∷ ts) last = TurnGoes opening t × Run (write opening (touches t.event) t.after) ts last
