-- Each kind of step on a word keeps the one-history rule.
use Rattle.std.proofs.Common.{◌≡◌, ℕ, ◌+◌, ◌^◌, ◌%◌, ◌<◌, ◌≤◌, sym, subst, arith, List, [], ◌∷◌, map, length, eqb}
use mathlib.Core.Option.{none, some}
use lib.ListN.{get_elem?}
use prog.Atomic.{either}
use Rattle.std.specs.Prelude.{Option, Some, None}
use Rattle.atomic_table.specs.Table.{State, Me, Step, step, rest, Allows, Splits, Joins}
use Rattle.ca_turns.specs.declared.rule.Turn.{Turn}
use Rattle.ca_turns.specs.declared.rule.View.{View}
use Rattle.ca_turns.specs.Places.{ReadsPlaces, IsDistinct}
use Rattle.ca_turns.specs.Views.{hands_stood_for, left_view, right_view, both_views, spent_view, HoldsNone}
use Rattle.ca_turns.specs.OneHistory.{OneHistory}
use Rattle.ca_turns.specs.Steps.{tried, freed, fronted, drew, told_short}
use Rattle.ca_turns.specs.Hands.{IsOut, places, there, times}
use Rattle.ca_turns.specs.Lines.{Padded, bare, line_address, InLines, in_lines}
use Rattle.ca_turns.proofs.Bridge.{through, through_split, through_join}
use Rattle.ca_turns.proofs.Parts.{tries, frees}
use Rattle.ca_turns.proofs.Draws.{draws, looks}
use Rattle.ca_turns.proofs.Fronts.{fronts}
use Rattle.ca_turns.proofs.Joins.{splits, merges}
use Rattle.ca_turns.proofs.Spread.{eighth, spread, spread_split, spread_join}

module _ {P C E : Type 0} (content : P → C) (touches : E → List ℕ) (moves : E → List C → List C → Type 0) (opening : List C) (hands : ℕ) (apart : (e : E) → IsDistinct (touches e)) where
  abbrev M : Type 0
  M = Me (Padded P) (View C E)

  abbrev Rule : State (Option P) (View C E) → Type 0
  Rule = OneHistory content touches moves opening hands

  -- a step on the word k of the rule, which stands at w
  at_word : (n id k w : ℕ) (me : M) (f : ℕ → ℕ) (then : Step (Option P) → Me (Option P) (View C E) → ℕ → Me (Option P) (View C E) → Type 0) (a b : ℕ) → w ≡ line_address k → k ≤ n
      → Allows Rule n id (bare me) k f (then (step n k a b none) (bare me)) → Allows (InLines Rule) n id me w f (in_lines then (step n w a b none) me)
  at_word n id k w me f then a b is near go = subst (λ (z : ℕ). Allows (InLines Rule) n id me z f (in_lines then (step n z a b none) me)) (sym is)
      (subst (λ (z : ℕ). Allows (InLines Rule) n id me (line_address k) f (λ r m. then (step n z a b none) (bare me) r (bare m))) (sym (eighth k)) (spread Rule n id k me f (then (step n k a b none) (bare me)) near go))

  pub may_try : (n id i w : ℕ) (me : M) → w ≡ line_address (i + 1) → i < n → get_elem? me.0.held i ≡ some None → 0 < hands_stood_for me.0
      → Allows (InLines Rule) n id me w (λ y. either (eqb y 0) 1 y) (in_lines (tried content touches moves) (step n w 0 1 none) me)
  may_try n id i w me is near free may = at_word n id (i + 1) w me (λ y. either (eqb y 0) 1 y) (tried content touches moves) 0 1 is (omega arith)
      (through content touches moves opening hands apart n id (bare me) (i + 1) (λ y. either (eqb y 0) 1 y) (tried content touches moves (step n (i + 1) 0 1 none) (bare me)) (tries content touches moves opening hands n id i (bare me) near free may))

  pub may_free : (n id i w : ℕ) (me : M) (x : P) → w ≡ line_address (i + 1) → i < n → (bare me).1 ≡ (i, Some x) ∷ rest (bare me).1 → get_elem? me.0.held i ≡ some (Some (content x)) → 0 < hands_stood_for me.0
      → Allows (InLines Rule) n id me w (λ _. 0) (λ _. in_lines freed (step n w 0 0 none) me 0)
  may_free n id i w me x is near out held may = at_word n id (i + 1) w me (λ _. 0) (λ s m _. freed s m 0) 0 0 is (omega arith)
      (through content touches moves opening hands apart n id (bare me) (i + 1) (λ _. 0) (λ _. freed (step n (i + 1) 0 0 none) (bare me) 0) (frees content touches moves opening hands n id i (bare me) x near out held may))

  pub may_front : (n id i w : ℕ) (me : M) → w ≡ line_address (i + 1) → i < n → 0 < times i (places (bare me).1) → IsOut (there me.0.held) (bare me).1 → 0 < hands_stood_for me.0
      → Allows (InLines Rule) n id me w (λ y. y) (in_lines fronted (step n w 0 0 none) me)
  may_front n id i w me is near listed out may = at_word n id (i + 1) w me (λ y. y) fronted 0 0 is (omega arith) (fronts content touches moves opening hands n id i (bare me) listed out may)

  pub may_draw : (n id w : ℕ) (me : M) (t : Turn C E) (ts : List (Turn C E)) → w ≡ line_address 0 → ts ≡ t ∷ [] → ReadsPlaces me.0.held (touches t.event) (map Some t.before) → moves t.event t.before t.after → length t.after ≡ length (touches t.event) → length me.0.turns < 2 ^ 59 → 0 < hands_stood_for me.0
      → Allows (InLines Rule) n id me w (λ y. (y + 1) % 2 ^ 64) (in_lines (drew touches ts) (step n w 1 0 none) me)
  may_draw n id w me t ts is one reads goes fits room may = at_word n id 0 w me (λ y. (y + 1) % 2 ^ 64) (drew touches ts) 1 0 is (omega arith)
      (through content touches moves opening hands apart n id (bare me) 0 (λ y. (y + 1) % 2 ^ 64) (drew touches ts (step n 0 1 0 none) (bare me)) (draws content touches moves opening hands n id (bare me) t ts one reads goes fits room may))

  pub may_look : (n id w : ℕ) (me : M) → w ≡ line_address 0 → Allows (InLines Rule) n id me w (λ y. y) (in_lines told_short (step n w 0 0 none) me)
  may_look n id w me is = at_word n id 0 w me (λ y. y) told_short 0 0 is (omega arith)
      (through content touches moves opening hands apart n id (bare me) 0 (λ y. y) (told_short (step n 0 0 0 none) (bare me)) (looks content touches moves opening hands n id (bare me)))

  pub may_split : (id : ℕ) (v : View C E) → v.turns ≡ [] → 1 < hands_stood_for v → Splits (InLines {P = P} Rule) id v (left_view v) (right_view v)
  may_split id v blank two = spread_split Rule id v (left_view v) (right_view v) (through_split content touches moves opening hands apart id v (left_view v) (right_view v) (splits content touches moves opening hands id v blank two))

  pub may_join : (id : ℕ) (v : View C E) (other : ℕ) (w : View C E) → 0 < hands_stood_for v → 0 < hands_stood_for w → HoldsNone w → Joins (InLines {P = P} Rule) id v other w (both_views v w) spent_view
  may_join id v other w may may' none_held = spread_join Rule id v other w (both_views v w) spent_view (through_join content touches moves opening hands apart id v other w (both_views v w) spent_view (merges content touches moves opening hands id v other w may may' none_held))
