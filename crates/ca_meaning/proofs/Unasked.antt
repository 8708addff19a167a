-- One worker whose run makes no timeout asks the clock for nothing.
use Rattle.std.proofs.Common.{◌≡◌, ◌⊎◌, inl, inr, ◌∙◌, ℕ, List, [], ◌∷◌, refl, sym, ap, subst, Some, None, Option, true, false}
use Rattle.ca_term.specs.declared.event.Ending.TheVariants.{Ended, Faulted}
use Rattle.ca_term.specs.Operation.{WhatView, unbuffered, fixed, dropping, sliding, promise, timeout, mult, mix, publication}
use Rattle.ca_term.specs.Program.{ProgramView}
use Rattle.ca_term.specs.Event.{EventView, made, spawned, done, met, parked, posted, settled, defaulted, closed, registered, printed, ticked, over}
use Rattle.ca_meaning.specs.Wait.{owner_of}
use Rattle.ca_meaning.specs.State.{State, Deadline, due}
use Rattle.ca_meaning.specs.TaskSteps.{IsMoment, with_deadline}
use Rattle.ca_meaning.specs.Steps.{Step}
use Rattle.ca_meaning.specs.Solo.{Desk, AsksAfter, AsksBefore, IsNext, IsTurnOf, Leaves, Solo, SoloSteps, TicksAtPick, TicksIdle, TaskTurn, joined_by, opening_desk, makes_timeout, NoTimeouts}

-- what is made without a moment opens no deadline
undated : (p now : ℕ) (what : WhatView) (ds : List Deadline) → IsMoment now what None → with_deadline p what now ds ≡ ds
undated p now unbuffered ds h = refl
undated p now (fixed n) ds h = refl
undated p now (dropping n) ds h = refl
undated p now (sliding n) ds h = refl
undated p now promise ds h = refl
undated p now (timeout n) ds h = absurd h
undated p now (mult s) ds h = refl
undated p now (mix o c) ds h = refl
undated p now (publication s) ds h = refl

abbrev dates : State → List Deadline
dates s = s.deadlines

abbrev told : Desk → List ℕ
told d = d.readings

no_tick : {G : Type 0} (m : ℕ) (ds : List Deadline) (ports : List ℕ) → ds ≡ [] → due m ds ≡ ports → (ports ≡ [] → ⊥) → G
no_tick m ds ports e is some = absurd (some (sym is ∙ ap (due m) e))

-- without deadlines none is opened but by a timeout
pub stay_undated : (program : ProgramView) (s : State) (e : EventView) (s2 : State) → Step program s e s2 → s.deadlines ≡ [] → makes_timeout e ≡ false → s2.deadlines ≡ []
stay_undated program s (made t p what None) s2 h none free = ap dates h.7 ∙ undated p s.now what s.deadlines h.5 ∙ none
stay_undated program s (made t p what (Some m)) s2 h none free = absurd (let k : true ≡ false = free in cc)
stay_undated program s (spawned t u kind r) s2 h none free = ap dates h.10 ∙ none
stay_undated program s (done t k b a) s2 h none free = ap dates h.8 ∙ none
stay_undated program s (met t k side p v w o) s2 h none free = ap dates h.15 ∙ none
stay_undated program s (parked t w bs) s2 h none free = ap dates h.8 ∙ none
stay_undated program s (posted t w p v) s2 h none free = ap dates h.6 ∙ none
stay_undated program s (settled w k side p v) s2 h none free = ap dates h.9 ∙ none
stay_undated program s (defaulted t v) s2 h none free = ap dates h.7 ∙ none
stay_undated program s (closed t p) s2 h none free = ap dates h.4 ∙ none
stay_undated program s (registered t name args v) s2 h none free = ap dates h.6 ∙ none
stay_undated program s (printed t line) s2 h none free = ap dates h.4 ∙ none
stay_undated program s (ticked m ports) s2 h none free = no_tick m s.deadlines ports none h.2 h.3
stay_undated program s (over t Ended) s2 h none free = ap dates h.4 ∙ none
stay_undated program s (over t (Faulted f p r)) s2 h none free = ap dates h.4 ∙ none

-- a pick without deadlines asks nothing, and none brings a Tick
turn_unasked : (s : State) (d : Desk) (t : ℕ) (d1 : Desk) → s.deadlines ≡ [] → IsTurnOf s d t d1 → told d1 ≡ told d
turn_unasked s d t d1 none (inl h) = ap told h.4
turn_unasked s d t d1 none (inr h) = ap told h.4 ∙ subst (λ ds. AsksBefore ds d.readings h.1) none h.3

no_asking : {G : Type 0} (ds : List Deadline) (m : ℕ) (r later : List ℕ) → ds ≡ [] → AsksAfter ds m r later → G
no_asking ds m r later none h = absurd (subst (λ es. AsksAfter es m r later) none h)

joined_told : (o : Option ℕ) (d : Desk) → told (joined_by o d) ≡ told d
joined_told None d = refl
joined_told (Some u) d = refl

leaves_told : (s : State) (d : Desk) (e : EventView) (d2 : Desk) → Leaves s d e d2 → makes_timeout e ≡ false → told d2 ≡ told d
leaves_told s d (made t p what None) d2 h free = ap told h.3 ∙ ap told h.2
leaves_told s d (made t p what (Some m)) d2 h free = absurd (let k : true ≡ false = free in cc)
leaves_told s d (spawned t u kind r) d2 h free = ap told h.1
leaves_told s d (done t k b a) d2 h free = ap told h.3 ∙ ap told h.2.4
leaves_told s d (met t k side p v w o) d2 h free = ap told h.3 ∙ joined_told (owner_of w s.waits) _ ∙ ap told h.2.4
leaves_told s d (parked t w bs) d2 h free = ap told h.3 ∙ ap told h.2.4
leaves_told s d (posted t w p v) d2 h free = ap told h.1
leaves_told s d (settled w k side p v) d2 h free = absurd h
leaves_told s d (defaulted t v) d2 h free = ap told h.2 ∙ ap told h.1.4
leaves_told s d (closed t p) d2 h free = ap told h
leaves_told s d (registered t name args v) d2 h free = ap told h
leaves_told s d (printed t line) d2 h free = ap told h
leaves_told s d (ticked m ports) d2 h free = absurd h
leaves_told s d (over t how) d2 h free = ap told h

task_told : (s : State) (d : Desk) (t : ℕ) (e : EventView) (d2 : Desk) → TaskTurn s d t e d2 → s.deadlines ≡ [] → makes_timeout e ≡ false → told d2 ≡ told d
task_told s d t e d2 h none free = leaves_told s h.0 e d2 h.3 free ∙ turn_unasked s d t h.0 none h.2

next_told : (s : State) (d : Desk) (e : EventView) (d2 : Desk) → IsNext s d e d2 → s.deadlines ≡ [] → makes_timeout e ≡ false → told d2 ≡ told d
next_told s d (settled w k side p v) d2 h none free = ap told h.1 ∙ joined_told (owner_of w s.waits) d
next_told s d (ticked m ports) d2 h none free = ticks h.1 where
  ticks : TicksAtPick s d m d2 ⊎ TicksIdle s d m d2 → told d2 ≡ told d
  ticks (inl x) = no_asking s.deadlines m d.readings x.2 none x.4
  ticks (inr x) = no_asking s.deadlines m d.readings x.0 none x.2
next_told s d (made t p what moment) d2 h none free = task_told s d t (made t p what moment) d2 h none free
next_told s d (spawned t u kind r) d2 h none free = task_told s d t (spawned t u kind r) d2 h none free
next_told s d (done t k b a) d2 h none free = task_told s d t (done t k b a) d2 h none free
next_told s d (met t k side p v w o) d2 h none free = task_told s d t (met t k side p v w o) d2 h none free
next_told s d (parked t w bs) d2 h none free = task_told s d t (parked t w bs) d2 h none free
next_told s d (posted t w p v) d2 h none free = task_told s d t (posted t w p v) d2 h none free
next_told s d (defaulted t v) d2 h none free = task_told s d t (defaulted t v) d2 h none free
next_told s d (closed t p) d2 h none free = task_told s d t (closed t p) d2 h none free
next_told s d (registered t name args v) d2 h none free = task_told s d t (registered t name args v) d2 h none free
next_told s d (printed t line) d2 h none free = task_told s d t (printed t line) d2 h none free
next_told s d (over t how) d2 h none free = task_told s d t (over t how) d2 h none free

steps_told : (program : ProgramView) (s : State) (d : Desk) (es : List EventView) (s2 : State) (d2 : Desk) → SoloSteps program s d es s2 d2 → s.deadlines ≡ [] → NoTimeouts es → told d2 ≡ told d
steps_told program s d [] s2 d2 h none free = ap told h.1
steps_told program s d (e ∷ es) s2 d2 h none free =
    steps_told program h.0 h.1 es s2 d2 h.4 (stay_undated program s e h.0 h.2 none free.0) free.1 ∙ next_told s d e h.1 h.3 none free.0

pub unasked : (program : ProgramView) (readings : List ℕ) (journal : List EventView) → Solo program readings journal → NoTimeouts journal → readings ≡ []
unasked program readings journal h free =
    sym (steps_told program h.opening (opening_desk readings) journal h.state h.desk h.steps (ap dates h.opens.2) free) ∙ h.none_left
