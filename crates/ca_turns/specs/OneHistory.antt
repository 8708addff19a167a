-- The one-history rule: what holds of a table between any two atomic steps of any hands.
-- It speaks of the turns in the hands' lists. No list of all turns stands in it: `Run` of `specs/History.antt` follows from it.
-- The word 0 is the event word, which counts the drawn events. The word i + 1 is that of the part i, 0 while it is free and 1 while it is held.
-- Where in memory a word or a slot stands is said by `InLines` of `specs/Lines.antt` alone.
use Rattle.std.specs.Prelude.{◌≡◌, ℕ, ◌+◌, ◌*◌, ◌^◌, ◌<◌, ◌≤◌, ◌⊎◌, List, length, Option, Some, slice_index_or}
use mathlib.Core.Option.{none, some}
use lib.ListN.{get_elem?}
use Rattle.atomic_table.specs.Table.{State}
use Rattle.ca_turns.specs.declared.rule.Turn.{Turn}
use Rattle.ca_turns.specs.declared.rule.View.{View}
use Rattle.ca_turns.specs.Places.{total}
use Rattle.ca_turns.specs.History.{LeavesPart, Untouched}
use Rattle.ca_turns.specs.Views.{drawn, hands_stood_for}

module _ {C E : Type 0} (views : List (View C E)) where
  -- the turn is the k-th of the list of the hand j
  abbrev pub IsTurnAt : ℕ → ℕ → Turn C E → Type 0
  IsTurnAt j k t = (v : View C E) × (get_elem? views j ≡ some v) × (get_elem? v.turns k ≡ some t)

  -- the turn is in some hand's list
  abbrev pub IsDrawn : Turn C E → Type 0
  IsDrawn t = (j k : ℕ) × (v : View C E) × (get_elem? views j ≡ some v) × (get_elem? v.turns k ≡ some t)

  -- the hand j has the part i, with this content as last settled
  abbrev pub HandHas : ℕ → ℕ → C → Type 0
  HandHas j i c = (v : View C E) × (get_elem? views j ≡ some v) × (get_elem? v.held i ≡ some (Some c))

  -- the k-th of the hands that the hand j stands for is h
  abbrev pub HandStandsFor : ℕ → ℕ → ℕ → Type 0
  HandStandsFor j k h = (v : View C E) × (get_elem? views j ≡ some v) × (get_elem? v.stands_for k ≡ some h)

  -- c is what the turn of the greatest number below n that touches the part p left there, or the opening content where there is none
  abbrev pub LastLeft : (E → List ℕ) → List C → ℕ → ℕ → C → Type 0
  LastLeft touches opening n p c =
      ((t : Turn C E) × IsDrawn t × (t.number < n) × LeavesPart touches t p c × ((u : Turn C E) → IsDrawn u → t.number < u.number → u.number < n → Untouched touches u p))
      ⊎ (((u : Turn C E) → IsDrawn u → u.number < n → Untouched touches u p) × (get_elem? opening p ≡ some c))

  -- A hand stands for hands of the table, and no two hands stand for the same one
  abbrev pub StandApart : ℕ → Type 0
  StandApart hands = ((j k h : ℕ) → HandStandsFor j k h → h < hands) × ((i a j b h : ℕ) → HandStandsFor i a h → HandStandsFor j b h → (i ≡ j) × (a ≡ b))

-- A hand that isn't spent, so stands for one hand or more, knows how the table was opened. Its list has at most 2^59 turns for each hand that it stands for; a spent hand has no part and no turn
pub record HandOk {C E : Type 0} (opening : List C) (hands : ℕ) (v : View C E) : Type 0 where
  pub knows : 0 < hands_stood_for v → (v.opening ≡ opening) × (v.hands ≡ hands) × (length v.held ≡ length opening)
  pub has : (i : ℕ) (c : C) → get_elem? v.held i ≡ some (Some c) → 0 < hands_stood_for v
  pub few : drawn v ≤ 2 ^ 59 * hands_stood_for v

module _ {P C E : Type 0} (s : State (Option P) (View C E)) where
  abbrev pub event_word : ℕ
  event_word = slice_index_or s.words 0 0

  abbrev pub part_word : ℕ → ℕ
  part_word i = slice_index_or s.words (i + 1) 0

  -- no hand has the part, and it is at home in its slot
  abbrev pub IsPartFree : ℕ → Type 0
  IsPartFree i = (part_word i ≡ 0) × ((j : ℕ) (c : C) → HandHas s.views j i c → ⊥) × ((x : P) × (get_elem? s.homes i ≡ some (some (Some x))))

  -- a hand has the part, and its slot is out
  abbrev pub IsPartHeld : ℕ → Type 0
  IsPartHeld i = (part_word i ≡ 1) × ((j : ℕ) × (c : C) × HandHas s.views j i c) × (get_elem? s.homes i ≡ some none)

pub record OneHistory {P C E : Type 0} (content : P → C) (touches : E → List ℕ) (moves : E → List C → List C → Type 0) (opening : List C) (hands : ℕ) (s : State (Option P) (View C E)) : Type 0 where
  -- There is a word for the events and one for each part
  pub wide : length s.words ≡ length s.homes + 1
  pub as_many : length opening ≡ length s.homes
  -- Each number below the event word stands in exactly one turn of exactly one hand's list, and no turn has another number. So the word is the number of all turns
  pub each_number : (n : ℕ) → n < event_word s → (t : Turn C E) × IsDrawn s.views t × (t.number ≡ n)
  pub once : (i a j b : ℕ) (t u : Turn C E) → IsTurnAt s.views i a t → IsTurnAt s.views j b u → t.number ≡ u.number → (i ≡ j) × (a ≡ b)
  pub no_other : (t : Turn C E) → IsDrawn s.views t → t.number < event_word s
  pub all_turns : total drawn s.views ≡ event_word s
  -- Each turn's event moves its parts, which are parts of the table, from the contents before to the contents left
  pub moved : (t : Turn C E) → IsDrawn s.views t → (length t.before ≡ length (touches t.event)) × (length t.after ≡ length (touches t.event)) × moves t.event t.before t.after
  pub inside : (t : Turn C E) → IsDrawn s.views t → (m p : ℕ) → get_elem? (touches t.event) m ≡ some p → p < length opening
  -- The content before that a turn shows for a part is what the turn of the greatest lower number that touches this part left, or the opening content where there is none
  pub shown : (t : Turn C E) → IsDrawn s.views t → (m p : ℕ) (c : C) → get_elem? (touches t.event) m ≡ some p → get_elem? t.before m ≡ some c → LastLeft s.views touches opening t.number p c
  -- A part's word is free exactly where no hand has the part, no two hands have one part, and its slot is out exactly while a hand has it
  pub each_part : (i : ℕ) → i < length s.homes → IsPartFree s i ⊎ IsPartHeld s i
  pub one_holder : (i j k : ℕ) (c d : C) → HandHas s.views j i c → HandHas s.views k i d → j ≡ k
  -- Each hand that isn't spent stands for one or more of the hands that the table was opened for, no two hands for the same one, at most 16 together
  pub each_hand : (j : ℕ) (v : View C E) → get_elem? s.views j ≡ some v → HandOk opening hands v
  pub apart : StandApart s.views hands
  pub together : total hands_stood_for s.views ≡ hands
  pub at_most : hands ≤ 16
  -- The content of a part, at home or as last settled in its hand, is what the turn of the greatest number that touches this part left, or the opening content where there is none
  pub at_home : (i : ℕ) (x : P) → get_elem? s.homes i ≡ some (some (Some x)) → LastLeft s.views touches opening (event_word s) i (content x)
  pub settled : (i j : ℕ) (c : C) → HandHas s.views j i c → LastLeft s.views touches opening (event_word s) i c
