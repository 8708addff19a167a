-- What the only worker holds is what its turns left, also once it holds a part more, or gives one back.
use Rattle.std.proofs.Common.{◌≡◌, ◌∙◌, ℕ, List, sym, ap, subst, length, Some, None}
use Rattle.ca_value.specs.Tree.{Tree}
use Rattle.ca_term.specs.Operation.{SeedView}
use Rattle.ca_term.specs.Program.{ProgramView}
use Rattle.ca_meaning.specs.Body.{At}
use Rattle.ca_states.specs.Code.{CodeView}
use Rattle.ca_turns.specs.declared.rule.Turn.{Turn}
use Rattle.ca_turns.specs.declared.rule.View.{View}
use Rattle.ca_turns.specs.Steps.{SeesOne}
use Rattle.ca_turns.specs.Views.{having_missed, holding, missing_part}
use Rattle.ca_table.specs.Draws.{drawn_moves, drawn_touches}
use Rattle.ca_table.specs.LoneHands.{HoldsLeft}
use Rattle.ca_table.specs.Seen.{PartSeen}
use Rattle.ca_table.specs.Workers.{AllAbove, KeepsLeft}
use Rattle.ca_table.specs.declared.drawn.Drawn.{Drawn}
use Rattle.ca_table.proofs.OwnTurns.{give_left, hold_more}

module _ {A : Type 0} where
  pub kept_left : (v w : View (PartSeen A) Drawn) → w ≡ v → KeepsLeft v w
  kept_left v w e alone up h = subst (λ (x : View (PartSeen A) Drawn). HoldsLeft drawn_touches x) (sym e) h

  pub left_both : (x y z : View (PartSeen A) Drawn) → y.stands_for ≡ x.stands_for → y.hands ≡ x.hands → y.turns ≡ x.turns → KeepsLeft x y → KeepsLeft y z → KeepsLeft x z
  left_both x y z stand hands turns a b alone up h = b (ap (λ (l : List ℕ). length l) stand ∙ alone ∙ sym hands) (subst (λ (ts : List (Turn (PartSeen A) Drawn)). AllAbove 0 ts) (sym turns) up) (a alone up h)

  -- it found the part held
  pub missed_left : (v w : View (PartSeen A) Drawn) (i : ℕ) → w ≡ missing_part v i → KeepsLeft v w
  missed_left v w i e alone up h = subst (λ (x : View (PartSeen A) Drawn). HoldsLeft drawn_touches x) (sym e) (record { long = h.long; held = h.held })

  -- it gave the part back
  pub gave_left : (v w : View (PartSeen A) Drawn) (i : ℕ) → w ≡ holding v i None → KeepsLeft v w
  gave_left v w i e alone up h = subst (λ (x : View (PartSeen A) Drawn). HoldsLeft drawn_touches x) (sym e) (give_left drawn_touches v i h)

  module _ (over : CodeView → A → Type 0) (place : A → At) (advances : ProgramView → A → A → Type 0) (gives : A → Tree → A → Type 0) (starts : ProgramView → SeedView → A → Type 0) where
    -- it holds the part, which it found held some times before
    pub held_left : (v w : View (PartSeen A) Drawn) (missed : List ℕ) (i : ℕ) (c : PartSeen A) → w ≡ holding (having_missed v missed) i (Some c) → SeesOne drawn_touches (drawn_moves over place advances gives starts) w → KeepsLeft v w
    held_left v w missed i c e sees alone up h = subst (λ (x : View (PartSeen A) Drawn). HoldsLeft drawn_touches x) (sym e)
        (hold_more drawn_touches (drawn_moves over place advances gives starts) v missed i c h (subst (λ (x : View (PartSeen A) Drawn). SeesOne drawn_touches (drawn_moves over place advances gives starts) x) e sees) alone up)
