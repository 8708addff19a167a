-- Each move of the one worker keeps the schedule; the first position, and the last.
use Rattle.std.proofs.Common.{◌≡◌, ℕ, List, [], ◌++◌, refl, sym, ap, ◌∙◌, subst, Some, None, append-nil}
use Rattle.ca_term.specs.Program.{ProgramView}
use Rattle.ca_term.specs.Event.{EventView}
use Rattle.ca_meaning.specs.State.{State, Opening}
use Rattle.ca_meaning.specs.Solo.{Desk, opening_desk, Solo}
use Rattle.ca_solo.specs.Stirs.{OnlyThese}
use Rattle.ca_solo.specs.Positions.{Phase, settling, free, picked, in_time, Position, first_position, HasUsed}
use Rattle.ca_solo.specs.Moves.{SoloMove, picks, is_in_time, is_late, waits_idle, makes_one, settles_one, passes_one, yields, rests}
use Rattle.ca_solo.specs.Alone.{PhaseFollows, Alone}
use Rattle.ca_solo.proofs.Eventing.{makes_one_kept, settles_one_kept}
use Rattle.ca_solo.proofs.Turning.{picks_kept, in_time_kept, late_kept, waits_idle_kept, passes_one_kept, yields_kept, rests_kept}

module _ (program : ProgramView) (readings : List ℕ) (journal : List EventView) where
  pub move_kept : (w w2 : Position) (es : List EventView) → Alone program readings journal w → SoloMove program w w2 es → Alone program readings (journal ++ es) w2
  move_kept w w2 es a (picks x e) = subst (λ z. Alone program readings (journal ++ z) w2) (sym e) (subst (λ z. Alone program readings z w2) (sym (append-nil journal)) (picks_kept program readings journal w w2 a x))
  move_kept w w2 es a (is_in_time x e) = subst (λ z. Alone program readings (journal ++ z) w2) (sym e) (subst (λ z. Alone program readings z w2) (sym (append-nil journal)) (in_time_kept program readings journal w w2 a x))
  move_kept w w2 es a (is_late m ports x e) = subst (λ z. Alone program readings (journal ++ z) w2) (sym e) (late_kept program readings journal w w2 m ports a x)
  move_kept w w2 es a (waits_idle m ports x e) = subst (λ z. Alone program readings (journal ++ z) w2) (sym e) (waits_idle_kept program readings journal w w2 m ports a x)
  move_kept w w2 es a (makes_one h x e) = subst (λ z. Alone program readings (journal ++ z) w2) (sym e) (makes_one_kept program readings journal w w2 h a x)
  move_kept w w2 es a (settles_one h x e) = subst (λ z. Alone program readings (journal ++ z) w2) (sym e) (settles_one_kept program readings journal w w2 h a x)
  move_kept w w2 es a (passes_one x e) = subst (λ z. Alone program readings (journal ++ z) w2) (sym e) (subst (λ z. Alone program readings z w2) (sym (append-nil journal)) (passes_one_kept program readings journal w w2 a x))
  move_kept w w2 es a (yields x e) = subst (λ z. Alone program readings (journal ++ z) w2) (sym e) (subst (λ z. Alone program readings z w2) (sym (append-nil journal)) (yields_kept program readings journal w w2 a x))
  move_kept w w2 es a (rests x e) = subst (λ z. Alone program readings (journal ++ z) w2) (sym e) (subst (λ z. Alone program readings z w2) (sym (append-nil journal)) (rests_kept program readings journal w w2 a x))

-- at an opening no channel can settle
pub none_at_opening : (program : ProgramView) (s : State) → Opening program s → OnlyThese s []
none_at_opening program s o q can = let k : None ≡ Some can.0 = sym (ap (λ (z : State). z.channels q) o.2) ∙ can.1 in cc

-- the first position, and the last
pub starts_alone : (program : ProgramView) (readings : List ℕ) (s : State) → Opening program s → Alone program readings [] (first_position readings s)
starts_alone program readings s o = record { opening = s; opens = o; desk = opening_desk readings; steps = (refl, refl); follows = (refl, tt, none_at_opening program s o) }

pub ends_solo : (program : ProgramView) (readings : List ℕ) (journal : List EventView) (w : Position) → Alone program readings journal w → HasUsed w.phase → w.desk.readings ≡ [] → Solo program readings journal
ends_solo program readings journal w a m none = record { opening = a.opening; state = w.state; desk = a.desk; opens = a.opens; steps = a.steps; none_left = by w.phase a.follows m } where
  by : (f : Phase) → PhaseFollows w.state a.desk w.desk f → HasUsed f → a.desk.readings ≡ []
  by (settling us) x m = ap (λ (z : Desk). z.readings) x.0 ∙ none
  by free x m = sym (ap (λ (z : Desk). z.readings) x.0.2) ∙ none
  by picked x m = sym (ap (λ (z : Desk). z.readings) x.0.3) ∙ none
  by in_time x m = absurd m
