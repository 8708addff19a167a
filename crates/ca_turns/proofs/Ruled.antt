-- The one-history rule with its witnesses: the history, the contents now, who has each part, and where each turn stands. `Bridge` shows that it and `OneHistory` are the same.
use Rattle.std.proofs.Common.{◌≡◌, ℕ, zero, suc, ◌+◌, ◌*◌, ◌^◌, ◌<◌, ◌≤◌, List, length, get_or}
use mathlib.Core.Option.{none, some}
use mathlib.Core.Option as maybe
use lib.ListN.{get_elem?}
use Rattle.std.specs.Prelude.{Option, Some}
use Rattle.atomic_table.specs.Table.{State}
use Rattle.ca_turns.specs.declared.rule.Turn.{Turn}
use Rattle.ca_turns.specs.declared.rule.View.{View}
use Rattle.ca_turns.specs.Places.{total}
use Rattle.ca_turns.specs.History.{Run}
use Rattle.ca_turns.specs.Views.{drawn, hands_stood_for}
use Rattle.ca_turns.specs.OneHistory.{StandApart}

module _ {P C E : Type 0} (content : P → C) (words : List ℕ) (homes : List (maybe.Option (Option P))) (views : List (View C E)) (now : List C) (i : ℕ) where
  -- who has the part i: nobody at 0, the hand j at suc j
  abbrev pub Kept : ℕ → Type 0
  Kept zero = (get_or words (i + 1) 0 ≡ 0) × ((x : P) × (get_elem? homes i ≡ some (some (Some x))) × (get_elem? now i ≡ some (content x)))
  Kept (suc j) = (get_or words (i + 1) 0 ≡ 1) × ((v : View C E) × (c : C) × (get_elem? views j ≡ some v) × (get_elem? v.held i ≡ some (Some c))) × (get_elem? homes i ≡ some none)

pub record ViewOk {C E : Type 0} (opening : List C) (hands : ℕ) (now : List C) (log : List (Turn C E)) (keeper : ℕ → ℕ) (owner : ℕ → ℕ × ℕ) (j : ℕ) (v : View C E) : Type 0 where
  pub knows : 0 < hands_stood_for v → (v.opening ≡ opening) × (v.hands ≡ hands) × (length v.held ≡ length opening)
  pub holds : (i : ℕ) (c : C) → get_elem? v.held i ≡ some (Some c) → (keeper i ≡ suc j) × (get_elem? now i ≡ some c) × (0 < hands_stood_for v)
  pub drew : (k : ℕ) (t : Turn C E) → get_elem? v.turns k ≡ some t → (get_elem? log t.number ≡ some t) × (owner t.number ≡ (j, k))
  pub few : drawn v ≤ 2 ^ 59 * hands_stood_for v

pub record Ruled {P C E : Type 0} (content : P → C) (touches : E → List ℕ) (moves : E → List C → List C → Type 0) (opening : List C) (hands : ℕ) (s : State (Option P) (View C E)) : Type 0 where
  pub log : List (Turn C E)
  pub now : List C
  pub keeper : ℕ → ℕ
  pub owner : ℕ → ℕ × ℕ
  pub wide : length s.words ≡ length s.homes + 1
  pub as_long : length now ≡ length s.homes
  pub as_many : length opening ≡ length s.homes
  pub at_most : hands ≤ 16
  pub count : get_or s.words 0 0 ≡ length log
  pub runs : Run touches moves opening log now
  pub owned : (n : ℕ) → n < length log → (v : View C E) × (t : Turn C E) × (get_elem? s.views (owner n).0 ≡ some v) × (get_elem? v.turns (owner n).1 ≡ some t) × (t.number ≡ n)
  pub all_drawn : total drawn s.views ≡ length log
  pub all_stand : total hands_stood_for s.views ≡ hands
  pub apart : StandApart s.views hands
  pub each_part : (i : ℕ) → i < length s.homes → Kept content s.words s.homes s.views now i (keeper i)
  pub each_view : (j : ℕ) (v : View C E) → get_elem? s.views j ≡ some v → ViewOk opening hands now log keeper owner j v
