-- What a hand knows, and how its steps change that.
use Rattle.std.specs.Prelude.{◌≢◌, ℕ, zero, suc, List, [], ◌∷◌, ◌++◌, map, length, take, drop, Option, Some, None, slice_set, replicate}
use mathlib.Core.Option.{some}
use lib.ListN.{get_elem?}
use Rattle.ca_turns.specs.declared.rule.Turn.{Turn}
use Rattle.ca_turns.specs.declared.rule.View.{View}
use Rattle.ca_turns.specs.Places.{write}

-- the numbers of the n hands that a table is opened for
abbrev pub hand_numbers : ℕ → List ℕ
hand_numbers zero = []
hand_numbers (suc n) = n ∷ hand_numbers n

module _ {C E : Type 0} where
  abbrev pub new_turn : ℕ → E → List C → List C → Turn C E
  new_turn n e b a = record { number = n; event = e; before = b; after = a }

  -- how many events the hand drew
  abbrev pub drawn : View C E → ℕ
  drawn v = length v.turns

  -- for how many of the hands that the table was opened for it stands
  abbrev pub hands_stood_for : View C E → ℕ
  hands_stood_for v = length v.stands_for

  abbrev pub HoldsNone : View C E → Type 0
  HoldsNone v = (i : ℕ) (c : C) → get_elem? v.held i ≢ some (Some c)

  -- a hand that stands for these hands, holds no part and drew nothing
  abbrev pub idle : List C → ℕ → List ℕ → View C E
  idle cs hands names = record { opening = cs; hands = hands; held = replicate (length cs) None; turns = []; stands_for = names; missed = [] }

  -- the only hand, before the others are split off
  abbrev pub first_view : List C → ℕ → View C E
  first_view cs hands = idle cs hands (hand_numbers hands)

  -- what a hand knows once it holds the part i with this content settled, or no longer holds it
  abbrev pub holding : View C E → ℕ → Option C → View C E
  holding v i c = record { opening = v.opening; hands = v.hands; held = slice_set v.held i c; turns = v.turns; stands_for = v.stands_for; missed = v.missed }

  -- the same but for the parts that it found held
  abbrev pub having_missed : View C E → List ℕ → View C E
  having_missed v is = record { opening = v.opening; hands = v.hands; held = v.held; turns = v.turns; stands_for = v.stands_for; missed = is }

  -- it found the part i held
  abbrev pub missing_part : View C E → ℕ → View C E
  missing_part v i = having_missed v (i ∷ v.missed)

  -- it drew the turn t, which touches these parts
  abbrev pub drawing : View C E → List ℕ → Turn C E → View C E
  drawing v is t = record { opening = v.opening; hands = v.hands; held = write v.held is (map Some t.after); turns = v.turns ++ t ∷ []; stands_for = v.stands_for; missed = v.missed }

  -- a hand from which another was split off, and that other, which stands for one of those that the first stood for
  abbrev pub left_view : View C E → View C E
  left_view v = record { opening = v.opening; hands = v.hands; held = v.held; turns = v.turns; stands_for = drop 1 v.stands_for; missed = v.missed }

  abbrev pub right_view : View C E → View C E
  right_view v = record { opening = v.opening; hands = v.hands; held = replicate (length v.held) None; turns = []; stands_for = take 1 v.stands_for; missed = [] }

  -- a hand that another was joined into, and that other, which is spent
  abbrev pub both_views : View C E → View C E → View C E
  both_views v w = record { opening = v.opening; hands = v.hands; held = v.held; turns = v.turns ++ w.turns; stands_for = v.stands_for ++ w.stands_for; missed = v.missed ++ w.missed }

  abbrev pub spent_view : View C E
  spent_view = record { opening = []; hands = 0; held = []; turns = []; stands_for = []; missed = [] }
