-- Further answers of the clock change nothing of what was done over the first ones.
use Rattle.std.proofs.Common.{◌≡◌, ◌⊎◌, inl, inr, ℕ, List, [], ◌∷◌, ◌++◌, refl, ap, ◌∙◌, Option, Some, None}
use Rattle.ca_term.specs.Program.{ProgramView}
use Rattle.ca_term.specs.Event.{EventView, made, spawned, done, met, parked, posted, settled, defaulted, closed, registered, printed, ticked, over as is_over}
use Rattle.ca_meaning.specs.Wait.{owner_of}
use Rattle.ca_meaning.specs.State.{State, Deadline}
use Rattle.ca_meaning.specs.Solo.{Desk, opening_desk, AsksBefore, AsksAfter, IsPicked, IsTurnOf, TicksAtPick, TicksIdle, CountsAlts, ReadsMoment, Leaves, joined_by, made_one, TaskTurn, IsNext, SoloSteps}
use Rattle.ca_solo.specs.Positions.{Phase, settling, free, picked, in_time, Position, and_later, also_later}
use Rattle.ca_solo.specs.Alone.{PhaseFollows, Alone}

module _ (rs : List ℕ) where
  before_later : (ds : List Deadline) (r l : List ℕ) → AsksBefore ds r l → AsksBefore ds (r ++ rs) (l ++ rs)
  before_later [] r l x = ap (λ z. z ++ rs) x
  before_later (d ∷ ds) r l x = (x.0, ap (λ z. z ++ rs) x.1, x.2)

  after_later : (ds : List Deadline) (m : ℕ) (r l : List ℕ) → AsksAfter ds m r l → AsksAfter ds m (r ++ rs) (l ++ rs)
  after_later [] m r l x = absurd x
  after_later (d ∷ ds) m r l x = (ap (λ z. z ++ rs) x.0, x.1)

  picked_later : (s : State) (d : Desk) (t : ℕ) (d2 : Desk) → IsPicked s d t d2 → IsPicked s (and_later rs d) t (and_later rs d2)
  picked_later s d t d2 x = (x.0, x.1 ++ rs, x.2, before_later s.deadlines d.readings x.1 x.3, ap (and_later rs) x.4)

  turn_later : (s : State) (d : Desk) (t : ℕ) (d2 : Desk) → IsTurnOf s d t d2 → IsTurnOf s (and_later rs d) t (and_later rs d2)
  turn_later s d t d2 (inl x) = inl (x.0, x.1, x.2, x.3, ap (and_later rs) x.4)
  turn_later s d t d2 (inr x) = inr (picked_later s d t d2 x)

  joined_later : (o : Option ℕ) (d : Desk) → and_later rs (joined_by o d) ≡ joined_by o (and_later rs d)
  joined_later None d = refl
  joined_later (Some u) d = refl

  counts_later : (s : State) (d : Desk) (t : ℕ) (d2 : Desk) → CountsAlts s d t d2 → CountsAlts s (and_later rs d) t (and_later rs d2)
  counts_later s d t d2 x = (x.0, x.1, x.2, x.3, ap (and_later rs) x.4)

  reads_later : (m : Option ℕ) (d d2 : Desk) → ReadsMoment m d d2 → ReadsMoment m (and_later rs d) (and_later rs d2)
  reads_later None d d2 x = ap (and_later rs) x
  reads_later (Some m) d d2 x = (x.0 ++ rs, ap (λ z. z ++ rs) x.1, ap (and_later rs) x.2)

  leaves_later : (s : State) (d : Desk) (e : EventView) (d2 : Desk) → Leaves s d e d2 → Leaves s (and_later rs d) e (and_later rs d2)
  leaves_later s d (made t p what moment) d2 x = (and_later rs x.0, x.1, reads_later moment d x.0 x.2, ap (and_later rs) x.3)
  leaves_later s d (spawned t u kind result) d2 x = (x.0, ap (and_later rs) x.1)
  leaves_later s d (done t k b a) d2 x = (and_later rs x.0, x.1, counts_later s d t x.0 x.2, ap (and_later rs) x.3)
  leaves_later s d (met t k side p v w o) d2 x = (and_later rs x.0, x.1, counts_later s d t x.0 x.2, ap (and_later rs) x.3 ∙ joined_later (owner_of w s.waits) (made_one x.0))
  leaves_later s d (parked t w bs) d2 x = (and_later rs x.0, x.1, counts_later s d t x.0 x.2, ap (and_later rs) x.3)
  leaves_later s d (posted t w p v) d2 x = (x.0, ap (and_later rs) x.1)
  leaves_later s d (defaulted t v) d2 x = (and_later rs x.0, counts_later s d t x.0 x.1, ap (and_later rs) x.2)
  leaves_later s d (closed t p) d2 x = ap (and_later rs) x
  leaves_later s d (registered t name args v) d2 x = ap (and_later rs) x
  leaves_later s d (printed t line) d2 x = ap (and_later rs) x
  leaves_later s d (is_over t how) d2 x = ap (and_later rs) x
  leaves_later s d (settled w k side p v) d2 x = absurd x
  leaves_later s d (ticked m ports) d2 x = absurd x

  task_later : (s : State) (d : Desk) (t : ℕ) (e : EventView) (d2 : Desk) → TaskTurn s d t e d2 → TaskTurn s (and_later rs d) t e (and_later rs d2)
  task_later s d t e d2 x = (and_later rs x.0, x.1, turn_later s d t x.0 x.2, leaves_later s x.0 e d2 x.3)

  ticks_later : (s : State) (d : Desk) (m : ℕ) (d2 : Desk) → TicksAtPick s d m d2 ⊎ TicksIdle s d m d2 → TicksAtPick s (and_later rs d) m (and_later rs d2) ⊎ TicksIdle s (and_later rs d) m (and_later rs d2)
  ticks_later s d m d2 (inl x) = inl (x.0, x.1, x.2 ++ rs, x.3, after_later s.deadlines m d.readings x.2 x.4, ap (and_later rs) x.5)
  ticks_later s d m d2 (inr x) = inr (x.0 ++ rs, x.1, after_later s.deadlines m d.readings x.0 x.2, ap (and_later rs) x.3)

  next_later : (s : State) (d : Desk) (e : EventView) (d2 : Desk) → IsNext s d e d2 → IsNext s (and_later rs d) e (and_later rs d2)
  next_later s d (settled w k side p v) d2 x = (x.0, ap (and_later rs) x.1 ∙ joined_later (owner_of w s.waits) d)
  next_later s d (ticked m ports) d2 x = (x.0, ticks_later s d m d2 x.1)
  next_later s d (made t p what moment) d2 x = task_later s d t (made t p what moment) d2 x
  next_later s d (spawned t u kind result) d2 x = task_later s d t (spawned t u kind result) d2 x
  next_later s d (done t k b a) d2 x = task_later s d t (done t k b a) d2 x
  next_later s d (met t k side p v w o) d2 x = task_later s d t (met t k side p v w o) d2 x
  next_later s d (parked t w bs) d2 x = task_later s d t (parked t w bs) d2 x
  next_later s d (posted t w p v) d2 x = task_later s d t (posted t w p v) d2 x
  next_later s d (defaulted t v) d2 x = task_later s d t (defaulted t v) d2 x
  next_later s d (closed t p) d2 x = task_later s d t (closed t p) d2 x
  next_later s d (registered t name args v) d2 x = task_later s d t (registered t name args v) d2 x
  next_later s d (printed t line) d2 x = task_later s d t (printed t line) d2 x
  next_later s d (is_over t how) d2 x = task_later s d t (is_over t how) d2 x

  pub steps_later : (program : ProgramView) (es : List EventView) (s : State) (d : Desk) (s2 : State) (d2 : Desk) → SoloSteps program s d es s2 d2 → SoloSteps program s (and_later rs d) es s2 (and_later rs d2)
  steps_later program [] s d s2 d2 x = (x.0, ap (and_later rs) x.1)
  steps_later program (e ∷ es) s d s2 d2 x = (x.0, and_later rs x.1, x.2, next_later s d e x.1 x.3, steps_later program es x.0 x.1 s2 d2 x.4)

  follows_later : (s : State) (d desk : Desk) (f : Phase) → PhaseFollows s d desk f → PhaseFollows s (and_later rs d) (and_later rs desk) f
  follows_later s d desk (settling us) x = (ap (and_later rs) x.0, x.1, x.2)
  follows_later s d desk free x = ((x.0.0, x.0.1, ap (and_later rs) x.0.2), x.1)
  follows_later s d desk picked x = ((x.0.0, x.0.1, x.0.2, ap (and_later rs) x.0.3), x.1)
  follows_later s d desk in_time x = (x.0, picked_later s d x.0 desk x.1, x.2)

  pub alone_later : (program : ProgramView) (readings : List ℕ) (journal : List EventView) (w : Position) → Alone program readings journal w → Alone program (readings ++ rs) journal (also_later rs w)
  alone_later program readings journal w a = record {
    opening = a.opening;
    opens = a.opens;
    desk = and_later rs a.desk;
    steps = steps_later program journal a.opening (opening_desk readings) w.state a.desk a.steps;
    follows = follows_later w.state a.desk w.desk w.phase a.follows;
  }
