-- The only hand of a table: what its turns left of the parts, and that it holds what they left.
use Rattle.std.specs.Prelude.{◌≡◌, ℕ, List, [], ◌∷◌, ◌++◌, length, Some}
use mathlib.Core.Option.{some}
use lib.ListN.{get_elem?}
use Rattle.ca_turns.specs.declared.rule.Turn.{Turn}
use Rattle.ca_turns.specs.declared.rule.View.{View}
use Rattle.ca_turns.specs.Places.{write}
use Rattle.ca_commit.specs.Touched as said
use Rattle.ca_table.specs.Draws.{turn_view}
use Rattle.ca_table.specs.declared.drawn.Drawn.{Drawn}

-- what a list of turns leaves of the parts
abbrev pub contents_left : {C E : Type 0} → (E → List ℕ) → List C → List (Turn C E) → List C
contents_left touches cs [] = cs
contents_left touches cs (t ∷ ts) = contents_left touches (write cs (touches t.event) t.after) ts

-- what lies in the parts after all that the hand drew, where it is the only one
abbrev pub left_now : {C E : Type 0} → (E → List ℕ) → View C E → List C
left_now touches v = contents_left touches v.opening v.turns

-- what a hand holds, as last settled, is what its turns left there
pub record HoldsLeft {C E : Type 0} (touches : E → List ℕ) (v : View C E) : Type 0 where
  pub long : length v.held ≡ length v.opening
  pub held : (i : ℕ) (c : C) → get_elem? v.held i ≡ some (Some c) → get_elem? (left_now touches v) i ≡ some c

-- the view with one turn more
pub record IsAfter {C E : Type 0} (v v2 : View C E) (t : Turn C E) : Type 0 where
  pub opening : v2.opening ≡ v.opening
  pub turns : v2.turns ≡ v.turns ++ t ∷ []

-- the hand drew one turn more, which is that
pub record DrewTurn {C : Type 0} (what : said.Turn) (v v2 : View C Drawn) : Type 0 where
  pub turn : Turn C Drawn
  pub is : turn_view turn.event.what ≡ what
  pub after : IsAfter v v2 turn
