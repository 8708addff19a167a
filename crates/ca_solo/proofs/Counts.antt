-- A task that isn't there has made no alts.
use Rattle.std.proofs.Common.{◌≡◌, ℕ, List, refl, sym, ap, ◌∙◌, subst, Bool, true, false, cond, Option, Some, None, eqb, eqb-true}
use Rattle.ca_term.specs.Program.{ProgramView}
use Rattle.ca_term.specs.Event.{EventView, made, spawned, done, met, parked, posted, settled, defaulted, closed, registered, printed, ticked, over as is_over}
use Rattle.ca_meaning.specs.Wait.{owner_of}
use Rattle.ca_meaning.specs.Task.{TaskBody}
use Rattle.ca_meaning.specs.State.{State, Tasks}
use Rattle.ca_meaning.specs.Steps.{Step}
use Rattle.ca_meaning.specs.Sound.{Sound}
use Rattle.ca_meaning.specs.Solo.{Desk, alts_counted, joined_by, made_one, ReadsMoment, CountsAlts, Leaves}
use Rattle.ca_solo.specs.Positions.{Position, first_position}
use Rattle.ca_solo.specs.Moves.{SoloMove, picks, is_in_time, is_late, waits_idle, makes_one, settles_one, passes_one, yields, rests}
use Rattle.ca_solo.specs.Seats.{Uncounted}
use Rattle.ca_meaning.proofs.Tasks.{Puts, nothing, one, IsRested, rested_kept, step_puts}

pub not_before : {P : TaskBody → Type 0} (f g : Tasks) → Puts P f g → (u : ℕ) → g u ≡ None → f u ≡ None
not_before f g (nothing e) u n = sym (ap (λ (z : Tasks). z u) e) ∙ n
not_before f g (one m p t y ny e) u n = not_before f m p u (by (eqb t u) (sym (ap (λ (z : Tasks). z u) e) ∙ n)) where
  by : (b : Bool) → cond b (Some y) (m u) ≡ None → m u ≡ None
  by true k = absurd (let j : Some y ≡ None = k in cc)
  by false k = k

alts_of_desk : (d d2 : Desk) → d ≡ d2 → (u : ℕ) → d.alts u ≡ d2.alts u
alts_of_desk d d2 e u = ap (λ (z : Desk). z.alts u) e

counts_alts : (s : State) (d : Desk) (t : ℕ) (d2 : Desk) → CountsAlts s d t d2 → (u : ℕ) → s.tasks u ≡ None → d2.alts u ≡ d.alts u
counts_alts s d t d2 x u n = alts_of_desk d2 _ x.4 u ∙ by (eqb t u) refl where
  by : (b : Bool) → eqb t u ≡ b → cond b (alts_counted x.1 (d.alts u)) (d.alts u) ≡ d.alts u
  by true is = absurd (let k : None ≡ Some x.0 = sym n ∙ ap s.tasks (sym (eqb-true t u is)) ∙ x.2 in cc)
  by false is = refl

pub joined_alts : (o : Option ℕ) (d : Desk) (u : ℕ) → (joined_by o d).alts u ≡ d.alts u
joined_alts None d u = refl
joined_alts (Some v) d u = refl

reads_alts : (m : Option ℕ) (d d2 : Desk) → ReadsMoment m d d2 → (u : ℕ) → d2.alts u ≡ d.alts u
reads_alts None d d2 x u = alts_of_desk d2 d x u
reads_alts (Some m) d d2 x u = alts_of_desk d2 _ x.2 u

pub leaves_alts : (s : State) (d : Desk) (e : EventView) (d2 : Desk) → Leaves s d e d2 → (u : ℕ) → s.tasks u ≡ None → d2.alts u ≡ d.alts u
leaves_alts s d (made t p what moment) d2 x u n = alts_of_desk d2 _ x.3 u ∙ reads_alts moment d x.0 x.2 u
leaves_alts s d (spawned t v kind result) d2 x u n = alts_of_desk d2 _ x.1 u
leaves_alts s d (done t k b a) d2 x u n = alts_of_desk d2 _ x.3 u ∙ counts_alts s d t x.0 x.2 u n
leaves_alts s d (met t k side p v w o) d2 x u n = alts_of_desk d2 _ x.3 u ∙ joined_alts (owner_of w s.waits) (made_one x.0) u ∙ counts_alts s d t x.0 x.2 u n
leaves_alts s d (parked t w bs) d2 x u n = alts_of_desk d2 _ x.3 u ∙ counts_alts s d t x.0 x.2 u n
leaves_alts s d (posted t w p v) d2 x u n = alts_of_desk d2 _ x.1 u
leaves_alts s d (settled w k side p v) d2 x u n = absurd x
leaves_alts s d (defaulted t v) d2 x u n = alts_of_desk d2 _ x.2 u ∙ counts_alts s d t x.0 x.1 u n
leaves_alts s d (closed t p) d2 x u n = alts_of_desk d2 _ x u
leaves_alts s d (registered t name args v) d2 x u n = alts_of_desk d2 _ x u
leaves_alts s d (printed t line) d2 x u n = alts_of_desk d2 _ x u
leaves_alts s d (ticked m ports) d2 x u n = absurd x
leaves_alts s d (is_over t how) d2 x u n = alts_of_desk d2 _ x u

module _ (program : ProgramView) (w : Position) (sound : Sound w.state) where
  gone : (e : EventView) (s2 : State) → Step program w.state e s2 → (u : ℕ) → s2.tasks u ≡ None → w.state.tasks u ≡ None
  gone e s2 x u n = not_before w.state.tasks s2.tasks (step_puts program IsRested (rested_kept program) w.state s2 e sound.rested x) u n

  pub move_uncounted : Uncounted w → (w2 : Position) (es : List EventView) → SoloMove program w w2 es → Uncounted w2
  move_uncounted all w2 es (picks x e) = subst Uncounted (sym x.4) all
  move_uncounted all w2 es (is_in_time x e) = subst Uncounted (sym x.3) all
  move_uncounted all w2 es (is_late m ports x e) = subst Uncounted (sym x.7) (λ u n. all u (gone (ticked m ports) x.2 x.5 u n))
  move_uncounted all w2 es (waits_idle m ports x e) = subst Uncounted (sym x.8) (λ u n. all u (gone (ticked m ports) x.2 x.6 u n))
  move_uncounted all w2 es (makes_one h x e) = subst Uncounted (sym x.9) (λ u n. let k = gone h x.1 x.7 u n in leaves_alts w.state w.desk h x.2 x.8 u k ∙ all u k)
  move_uncounted all w2 es (settles_one h x e) = subst Uncounted (sym x.10) (λ u n. let k = gone (settled x.2 x.3 x.4 x.0 x.5) x.6 x.9 u n in joined_alts (owner_of x.2 w.state.waits) w.desk u ∙ all u k)
  move_uncounted all w2 es (passes_one x e) = subst Uncounted (sym x.4) all
  move_uncounted all w2 es (yields x e) = subst Uncounted (sym x.4) all
  move_uncounted all w2 es (rests x e) = subst Uncounted (sym x.2) all

pub starts_uncounted : (readings : List ℕ) (s : State) → Uncounted (first_position readings s)
starts_uncounted readings s u n = refl
