-- One event more of the schedule, and what a position says of it.
use Rattle.std.proofs.Common.{◌≡◌, ℕ, List, [], ◌∷◌, ◌++◌, refl, sym, ap, ◌∙◌, subst, true, false, Option, Some, None, eqb-true}
use Rattle.ca_term.specs.Program.{ProgramView}
use Rattle.ca_term.specs.Event.{EventView, made, spawned, done, met, parked, posted, settled, defaulted, closed, registered, printed, ticked, over as is_over}
use Rattle.ca_meaning.specs.State.{State}
use Rattle.ca_meaning.specs.Steps.{Step, Steps}
use Rattle.ca_meaning.specs.Sound.{Sound}
use Rattle.ca_meaning.specs.EndsLaw.{is_of}
use Rattle.ca_meaning.specs.Legal.{Reaches}
use Rattle.ca_meaning.specs.Solo.{Lane, Desk, opening_desk, IsFree, TaskTurn, IsNext, SoloSteps}
use Rattle.ca_meaning.proofs.Soundness.{reached_sound}
use Rattle.ca_solo.specs.Positions.{Phase, Position}
use Rattle.ca_solo.specs.Alone.{IsFreed, PhaseFollows, Alone}

-- one step more
pub one_step_more : (program : ProgramView) (es : List EventView) (s a b : State) (d i j : Desk) (e : EventView) → SoloSteps program s d es a i → Step program a e b → IsNext a i e j → SoloSteps program s d (es ++ e ∷ []) b j
one_step_more program [] s a b d i j e x step next = (b, j, subst (λ z. Step program z e b) x.0 step, subst (λ z. IsNext z d e j) x.0 (subst (λ z. IsNext a z e j) x.1 next), (refl, refl))
one_step_more program (h ∷ es) s a b d i j e x step next = (x.0, x.1, x.2, x.3, one_step_more program es x.0 a b x.1 i j e x.4 step next)

pub steps_of : (program : ProgramView) (es : List EventView) (s a : State) (d i : Desk) → SoloSteps program s d es a i → Steps program s es a
steps_of program [] s a d i x = x.0
steps_of program (e ∷ es) s a d i x = (x.0, x.2, steps_of program es x.0 a x.1 i x.4)

-- an event of a task is next
pub next_of : (s : State) (d d2 : Desk) (t : ℕ) (e : EventView) → is_of t e ≡ true → TaskTurn s d t e d2 → IsNext s d e d2
next_of s d d2 t (made u p what moment) is x = subst (λ n. TaskTurn s d n (made u p what moment) d2) (sym (eqb-true u t is)) x
next_of s d d2 t (spawned u v kind result) is x = subst (λ n. TaskTurn s d n (spawned u v kind result) d2) (sym (eqb-true u t is)) x
next_of s d d2 t (done u k b a) is x = subst (λ n. TaskTurn s d n (done u k b a) d2) (sym (eqb-true u t is)) x
next_of s d d2 t (met u k side p v w o) is x = subst (λ n. TaskTurn s d n (met u k side p v w o) d2) (sym (eqb-true u t is)) x
next_of s d d2 t (parked u w bs) is x = subst (λ n. TaskTurn s d n (parked u w bs) d2) (sym (eqb-true u t is)) x
next_of s d d2 t (posted u w p v) is x = subst (λ n. TaskTurn s d n (posted u w p v) d2) (sym (eqb-true u t is)) x
next_of s d d2 t (settled w k side p v) is x = absurd (let k : false ≡ true = is in cc)
next_of s d d2 t (defaulted u v) is x = subst (λ n. TaskTurn s d n (defaulted u v) d2) (sym (eqb-true u t is)) x
next_of s d d2 t (closed u p) is x = subst (λ n. TaskTurn s d n (closed u p) d2) (sym (eqb-true u t is)) x
next_of s d d2 t (registered u name args v) is x = subst (λ n. TaskTurn s d n (registered u name args v) d2) (sym (eqb-true u t is)) x
next_of s d d2 t (printed u line) is x = subst (λ n. TaskTurn s d n (printed u line) d2) (sym (eqb-true u t is)) x
next_of s d d2 t (ticked m ports) is x = absurd (let k : false ≡ true = is in cc)
next_of s d d2 t (is_over u how) is x = subst (λ n. TaskTurn s d n (is_over u how) d2) (sym (eqb-true u t is)) x

pub alone_reaches : (program : ProgramView) (readings : List ℕ) (journal : List EventView) (w : Position) → Alone program readings journal w → Reaches program journal w.state
alone_reaches program readings journal w a = record { opening = a.opening; opens = a.opens; steps = steps_of program journal a.opening w.state (opening_desk readings) a.desk a.steps }

pub no_ready : (l : Option Lane) (before : List ℕ) → IsFree l before [] → before ≡ []
no_ready None before x = sym x
no_ready (Some lane) [] x = absurd (let k : [] ≡ lane.task ∷ [] = x.1 in cc)
no_ready (Some lane) (t ∷ ts) x = absurd (let k : [] ≡ t ∷ (ts ++ lane.task ∷ []) = x.1 in cc)

pub is_free_of : (d desk : Desk) (r : List ℕ) → (f : IsFreed d desk) → desk.ready ≡ r → IsFree d.lane d.ready r
is_free_of d desk r f e = subst (IsFree d.lane d.ready) (sym (ap (λ (z : Desk). z.ready) f.2) ∙ e) f.1

module _ (program : ProgramView) (readings : List ℕ) (journal : List EventView) where
  pub sound : (w : Position) → Alone program readings journal w → Sound w.state
  sound w a = reached_sound program journal w.state (record { opening = a.opening; opens = a.opens; steps = steps_of program journal a.opening w.state (opening_desk readings) a.desk a.steps })

  -- nothing is shown
  pub silent : (w w2 : Position) → (a : Alone program readings journal w) → w2.state ≡ w.state → PhaseFollows w2.state a.desk w2.desk w2.phase → Alone program readings journal w2
  silent w w2 a same f = record { opening = a.opening; opens = a.opens; desk = a.desk; steps = subst (λ z. SoloSteps program a.opening (opening_desk readings) journal z a.desk) (sym same) a.steps; follows = f }

  pub shows : (w w2 : Position) → (a : Alone program readings journal w) → (e : EventView) (d2 : Desk) → Step program w.state e w2.state → IsNext w.state a.desk e d2 → PhaseFollows w2.state d2 w2.desk w2.phase → Alone program readings (journal ++ e ∷ []) w2
  shows w w2 a e d2 step next f = record { opening = a.opening; opens = a.opens; desk = d2; steps = one_step_more program journal a.opening w.state w2.state (opening_desk readings) a.desk d2 e a.steps step next; follows = f }

  -- what is known in each phase
  pub follows_in : (w : Position) (f : Phase) → (a : Alone program readings journal w) → w.phase ≡ f → PhaseFollows w.state a.desk w.desk f
  follows_in w f a e = subst (PhaseFollows w.state a.desk w.desk) e a.follows
