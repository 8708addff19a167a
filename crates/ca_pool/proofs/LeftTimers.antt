-- Where the only worker draws an event over the clockwork that it laid back, its turns leave that as it is now.
use Rattle.std.proofs.Common.{◌≡◌, ◌∙◌, ℕ, ◌+◌, List, length, sym, ap, ap₂, true, false, Option, Some, None, is_some}
use Rattle.std.specs.Prelude.{IfSome}
use mathlib.Core.Option as core
use lib.ListN.{get_elem?}
use Rattle.ca_term.specs.Program.{ProgramView}
use Rattle.ca_meaning.specs.Task.{TaskBody}
use Rattle.ca_states.specs.Code.{CodeView}
use Rattle.ca_states.specs.declared.valid_code.ValidCode.{ValidCode}
use Rattle.ca_turns.specs.Hands.{Held as HandHeld, TableId}
use Rattle.ca_turns.specs.Views.{hands_stood_for}
use Rattle.ca_turns.specs.declared.rule.Turn.{Turn}
use Rattle.ca_turns.specs.declared.rule.View.{View}
use Rattle.ca_commit.specs.declared.held.Held.{Held}
use Rattle.ca_table.specs.Carriers.{IsCarrying}
use Rattle.ca_table.specs.Carrying.{Carries, at_places}
use Rattle.ca_table.specs.Draws.{drawn_touches}
use Rattle.ca_table.specs.Grips.{SameHand, SameTurns}
use Rattle.ca_table.specs.LoneHands.{contents_left, left_now}
use Rattle.ca_table.specs.Parts.{part_of}
use Rattle.ca_table.specs.Seen.{PartSeen}
use Rattle.ca_table.specs.declared.drawn.Drawn.{Drawn}
use Rattle.ca_table.specs.declared.part.Contents.TheVariants as V
use Rattle.ca_table.specs.declared.part.Lane.{Lane}
use Rattle.ca_table.specs.declared.part.Part.{Part}
use Rattle.ca_table.specs.declared.worker.Worker.{Worker}
use Rattle.ca_table.proofs.Carrying.{at_timers}
use Rattle.ca_table.proofs.Gripping.{fit}
use Rattle.ca_pool.specs.Desk.{ClockBox, laid_again, settled_as}
use Rattle.ca_pool.proofs.Desk.{desk_after}

-- the only hand is so after a call, too
pub lone_now : {P C E : Type 0} (old new : HandHeld P C E) → SameHand old new → hands_stood_for old.view ≡ old.view.hands → hands_stood_for new.view ≡ new.view.hands
lone_now old new same alone = ap (λ (l : List ℕ). length l) same.stands_for ∙ alone ∙ sym same.hands

-- it left the same of the parts
pub left_same : {A : Type 0} (v w : View (PartSeen A) Drawn) → w.opening ≡ v.opening → w.turns ≡ v.turns → left_now drawn_touches w ≡ left_now drawn_touches v
left_same {A} v w opening turns = ap₂ (λ (cs : List (PartSeen A)) (ts : List (Turn (PartSeen A) Drawn)). contents_left drawn_touches cs ts) opening turns

module _ {A C : Type 0} (over : CodeView → A → Type 0) (stands_as : ProgramView → A → TaskBody → Type 0) (seen : Part A C → PartSeen A) (code : ValidCode) (id : TableId) (program : ProgramView) (n k : ℕ) (l : Lane A) where
  -- the parts as they are once that is drawn
  abbrev After : Option (ClockBox C) → Option (ClockBox C) → Held A → Held A → ℕ → Carries (Part A C × PartSeen A)
  After clock0 clock held0 held = desk_after seen n code k l clock0 clock held0 held (laid_again seen n code k l clock0 held0 clock held).lane

  pub timers_drawn : (clock0 clock : Option (ClockBox C)) (held0 held : Held A) (w v : Worker A C) → IsCarrying over stands_as program code id n w (After clock0 clock held0 held k) → hands_stood_for w.hand.view ≡ w.hand.view.hands → SameTurns w.hand v.hand → is_some clock ≡ is_some clock0
      → IfSome clock (λ t. get_elem? (left_now drawn_touches v.hand.view) (n + 32) ≡ core.some (settled_as seen n code (V.Timers t)))
  timers_drawn clock0 None held0 held w v s alone same there = tt
  timers_drawn None (Some t) held0 held w v s alone same there = absurd (let z : true ≡ false = there in cc)
  timers_drawn (Some t0) (Some t) held0 held w v s alone same there =
      let x : Part A C × PartSeen A = (part_of n code (V.Timers t), settled_as seen n code (V.Timers t)) in
      let lies = fit w.hand (at_places n w.number (After (Some t0) (Some t) held0 held k)) (n + 32) x s.grips (at_timers n w.number (After (Some t0) (Some t) held0 held k)) in
      ap (λ (cs : List (PartSeen A)). get_elem? cs (n + 32)) (left_same w.hand.view v.hand.view same.same.opening same.turns) ∙ (s.one.left alone).held (n + 32) x.1 lies.1
