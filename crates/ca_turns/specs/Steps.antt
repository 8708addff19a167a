-- What each kind of atomic step tells the hand that makes it.
use Rattle.std.specs.Prelude.{◌≡◌, ◌≢◌, ℕ, ◌-◌, ◌^◌, ◌<◌, ◌≤◌, List, [], ◌∷◌, length, Option, Some, None}
use mathlib.Core.Option.{some}
use lib.ListN.{get_elem?}
use Rattle.atomic_table.specs.Table.{State, Me, Step, rest}
use Rattle.ca_turns.specs.declared.rule.Turn.{Turn}
use Rattle.ca_turns.specs.declared.rule.View.{View}
use Rattle.ca_turns.specs.History.{IsNumbered, Run, Replay}
use Rattle.ca_turns.specs.Places.{without_first_pair}
use Rattle.ca_turns.specs.Views.{new_turn, hands_stood_for, holding, missing_part, drawing}
use Rattle.ca_turns.specs.OneHistory.{OneHistory, HandHas, IsDrawn, event_word}

abbrev SeatedHand : Type 0 → Type 0 → Type 0 → Type 0
SeatedHand P C E = Me (Option P) (View C E)

-- The history has each turn of the hand's list and no other
abbrev pub IsWhole : {C E : Type 0} → View C E → List (Turn C E) → Type 0
IsWhole {C} {E} v log = (length v.turns ≡ length log) × ((n : ℕ) (t : Turn C E) → get_elem? log n ≡ some t → (k : ℕ) × (get_elem? v.turns k ≡ some t))

-- The one history so far, a run from the opening contents to those of now, as a hand sees it: all that it drew is in it, and what it holds is settled by it. To a hand that stands for all hands of its table it is that hand's own list
pub record Sees {C E : Type 0} (touches : E → List ℕ) (moves : E → List C → List C → Type 0) (v : View C E) (log : List (Turn C E)) (now : List C) : Type 0 where
  pub run : Run touches moves v.opening log now
  pub numbered : IsNumbered log
  pub last : (p : ℕ) (c : C) → get_elem? now p ≡ some c → Replay touches v.opening log p c
  pub mine : (k : ℕ) (t : Turn C E) → get_elem? v.turns k ≡ some t → get_elem? log t.number ≡ some t
  pub held : (i : ℕ) (c : C) → get_elem? v.held i ≡ some (Some c) → get_elem? now i ≡ some c
  pub alone : hands_stood_for v ≡ v.hands → IsWhole v log

abbrev pub SeesOne : {C E : Type 0} → (E → List ℕ) → (E → List C → List C → Type 0) → View C E → Type 0
SeesOne {C} {E} touches moves v = (log : List (Turn C E)) × (now : List C) × Sees touches moves v log now

-- The law: all turns of the hands' lists, in the order of their numbers, are a run of the object from the opening contents, and the content of each part, at home or as last settled, is that of `Replay`
pub record IsOneRun {P C E : Type 0} (content : P → C) (touches : E → List ℕ) (moves : E → List C → List C → Type 0) (opening : List C) (s : State (Option P) (View C E)) (log : List (Turn C E)) (now : List C) : Type 0 where
  pub run : Run touches moves opening log now
  pub numbered : IsNumbered log
  pub long : length log ≡ event_word s
  pub each : (t : Turn C E) → IsDrawn s.views t → get_elem? log t.number ≡ some t
  pub no_other : (n : ℕ) (t : Turn C E) → get_elem? log n ≡ some t → IsDrawn s.views t
  pub at_home : (i : ℕ) (x : P) → get_elem? s.homes i ≡ some (some (Some x)) → (get_elem? now i ≡ some (content x)) × Replay touches opening log i (content x)
  pub settled : (i j : ℕ) (c : C) → HandHas s.views j i c → (get_elem? now i ≡ some c) × Replay touches opening log i c

abbrev pub OneHistoryIsOneRun : {P C E : Type 0} → (P → C) → (E → List ℕ) → (E → List C → List C → Type 0) → Type 0
OneHistoryIsOneRun {P} {C} {E} content touches moves =
    (opening : List C) (hands : ℕ) (s : State (Option P) (View C E)) → OneHistory content touches moves opening hands s → (log : List (Turn C E)) × (now : List C) × IsOneRun content touches moves opening s log now

module _ {P C E : Type 0} where
  -- The step free: the hand no longer has the part, and its slot is at home
  abbrev pub freed : Step (Option P) → SeatedHand P C E → ℕ → SeatedHand P C E → Type 0
  freed s m r n = (n.0 ≡ holding m.0 (s.word - 1) None) × (n.1 ≡ rest m.1)

  -- The step miss: the part i was found held, by another hand
  abbrev pub Missed : ℕ → SeatedHand P C E → SeatedHand P C E → Type 0
  Missed i m n = (n.0 ≡ missing_part m.0 i) × (n.1 ≡ m.1) × (hands_stood_for m.0 < m.0.hands)

  -- No step on a word: a load in which the hand puts the slot of a part first, of those that are out with it
  abbrev pub fronted : Step (Option P) → SeatedHand P C E → ℕ → SeatedHand P C E → Type 0
  fronted s m r n = (n.0 ≡ m.0) × (n.1 ≡ (s.word - 1, None) ∷ without_first_pair (s.word - 1) m.1)

  -- No step on a word: a load that tells that the list is short
  abbrev pub told_short : Step (Option P) → SeatedHand P C E → ℕ → SeatedHand P C E → Type 0
  told_short s m r n = (n ≡ m) × (length n.0.turns ≤ 2 ^ 63)

  module _ (content : P → C) where
    -- the slot that was taken last is that of the part i, whose content is as settled
    abbrev pub IsGiven : ℕ → SeatedHand P C E → Type 0
    IsGiven i m = (x : P) × (m.1 ≡ (i, Some x) ∷ rest m.1) × (get_elem? m.0.held i ≡ some (Some (content x)))

    module _ (touches : E → List ℕ) (moves : E → List C → List C → Type 0) where
      -- The step take: the hand has the part i, its slot is out with this hand, and its content is as settled by the one history
      abbrev pub TookPart : ℕ → SeatedHand P C E → SeatedHand P C E → Type 0
      TookPart i m n = (x : P) × (n.1 ≡ (i, Some x) ∷ m.1) × (n.0 ≡ holding m.0 i (Some (content x))) × SeesOne touches moves n.0

      -- take or miss, at the part whose word this is
      abbrev pub tried : Step (Option P) → SeatedHand P C E → ℕ → SeatedHand P C E → Type 0
      tried s m r n = (r ≡ s.first → TookPart (s.word - 1) m n) × (r ≢ s.first → Missed (s.word - 1) m n)

  -- The step draw: the turn is in the hand's list, at the number found, which is above all that the hand drew before
  abbrev pub drew : (E → List ℕ) → List (Turn C E) → Step (Option P) → SeatedHand P C E → ℕ → SeatedHand P C E → Type 0
  drew touches [] s m r n = Unit {0}
  drew touches (t ∷ ts) s m r n =
      (n.0 ≡ drawing m.0 (touches t.event) (new_turn r t.event t.before t.after)) × (n.1 ≡ m.1) × ((k : ℕ) (u : Turn C E) → get_elem? m.0.turns k ≡ some u → u.number < r)
