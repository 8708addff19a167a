-- The schedule with one worker: which of the free choices it makes, and when it asks the clock.
use Rattle.std.specs.Prelude.{◌≡◌, ◌≢◌, ◌⊎◌, ℕ, suc, ◌+◌, ◌-◌, ◌%◌, ◌<◌, ◌≤◌, List, [], ◌∷◌, ◌++◌, length, slice_get, Option, Some, None, Bool, true, false, cond, eqb, nat_lt}
use Rattle.ca_term.specs.declared.event.Side.TheVariants.{Take, Put}
use Rattle.ca_term.specs.Operation.{OpView, choosing}
use Rattle.ca_term.specs.Program.{ProgramView}
use Rattle.ca_term.specs.Event.{BranchView, EventView, made, spawned, done, met, parked, posted, settled, defaulted, closed, registered, printed, ticked, over}
use Rattle.ca_meaning.specs.Channel.{Channel}
use Rattle.ca_meaning.specs.Wait.{front, owner_of}
use Rattle.ca_meaning.specs.Row.{not_ready, unsettled, settle_row}
use Rattle.ca_meaning.specs.State.{State, Task, Deadline, Opening}
use Rattle.ca_meaning.specs.Choice.{branches_of, has_priority, row}
use Rattle.ca_meaning.specs.Going.{IsAtOp}
use Rattle.ca_meaning.specs.Steps.{Step}

-- the task that was picked, and how many events it has made since
pub record Lane : Type 0 where
  pub task : ℕ
  pub events : ℕ

-- what the one worker has before it
pub record Desk : Type 0 where
  -- the ready tasks, in the order in which they will run
  pub ready : List ℕ
  pub lane : Option Lane
  -- how many alts operations each task completed or parked
  pub alts : ℕ → ℕ
  -- the numbers given last
  pub tasks : ℕ
  pub ports : ℕ
  pub waits : ℕ
  -- the answers that the clock will give
  pub readings : List ℕ

-- main is ready, and no number was given but its own
abbrev pub opening_desk : List ℕ → Desk
opening_desk readings = record { ready = 0 ∷ []; lane = None; alts = λ t. 0; tasks = 0; ports = 0; waits = 0; readings = readings }

abbrev pub CanSettle : State → ℕ → Type 0
CanSettle s p = (c : Channel) × (s.channels p ≡ Some c) × (settle_row c (front Take p s.waits) (front Put p s.waits) ≢ unsettled)

abbrev pub NoneSettles : State → Type 0
NoneSettles s = (p : ℕ) → CanSettle s p → ⊥

-- p is the least channel that can settle
abbrev pub SettlesFirst : State → ℕ → Type 0
SettlesFirst s p = (q : ℕ) → q < p → CanSettle s q → ⊥

-- the picked task may make 64 events
abbrev pub patience : ℕ
patience = 64

-- nobody is picked: the last one left, or it has made its events and now stands behind the others
abbrev pub IsFree : Option Lane → List ℕ → List ℕ → Type 0
IsFree None before ready = ready ≡ before
IsFree (Some lane) before ready = (patience ≤ lane.events) × (ready ≡ before ++ lane.task ∷ [])

-- at a pick the clock is asked where a deadline is open: its answer is before the first deadline ..
abbrev pub AsksBefore : List Deadline → List ℕ → List ℕ → Type 0
AsksBefore [] readings later = later ≡ readings
AsksBefore (d ∷ ds) readings later = (m : ℕ) × (readings ≡ m ∷ later) × (m < d.moment)

-- .. or it isn't, and is the moment of a Tick
abbrev pub AsksAfter : List Deadline → ℕ → List ℕ → List ℕ → Type 0
AsksAfter [] m readings later = ⊥
AsksAfter (d ∷ ds) m readings later = (readings ≡ m ∷ later) × (d.moment ≤ m)

-- it is task t's turn, and the desk is then so: it was picked before, or it is picked now
abbrev pub GoesOnLane : Desk → ℕ → Desk → Type 0
GoesOnLane d t d2 = (lane : Lane) × (d.lane ≡ Some lane) × (lane.events < patience) × (lane.task ≡ t) × (d2 ≡ d)

abbrev pub IsPicked : State → Desk → ℕ → Desk → Type 0
IsPicked s d t d2 =
    (rest later : List ℕ)
    × IsFree d.lane d.ready (t ∷ rest)
    × AsksBefore s.deadlines d.readings later
    × (d2 ≡ record d { ready = rest; lane = Some (record { task = t; events = 0 }); readings = later })

abbrev pub IsTurnOf : State → Desk → ℕ → Desk → Type 0
IsTurnOf s d t d2 = GoesOnLane d t d2 ⊎ IsPicked s d t d2

-- a Tick stands where a picked task's asking, or the wait of a worker without a ready task, passes the
-- first deadline
abbrev pub TicksAtPick : State → Desk → ℕ → Desk → Type 0
TicksAtPick s d m d2 =
    (t : ℕ) × (rest later : List ℕ)
    × IsFree d.lane d.ready (t ∷ rest)
    × AsksAfter s.deadlines m d.readings later
    × (d2 ≡ record d { ready = rest; lane = Some (record { task = t; events = 0 }); readings = later })

abbrev pub TicksIdle : State → Desk → ℕ → Desk → Type 0
TicksIdle s d m d2 = (later : List ℕ) × IsFree d.lane d.ready [] × AsksAfter s.deadlines m d.readings later × (d2 ≡ record d { lane = None; readings = later })

-- how far branch k lies from the start, going round n branches
abbrev pub distance : ℕ → ℕ → ℕ → ℕ
distance n start k = cond (nat_lt k start) (k + (n - start)) (k - start)

-- without priority the first ready branch is taken, from the number of the task's earlier alts on
abbrev pub IsFirstFrom : State → List BranchView → ℕ → ℕ → Type 0
IsFirstFrom s bs turns k =
    (j : ℕ) (o : BranchView) → slice_get bs j ≡ Some o → distance (length bs) (turns % length bs) j < distance (length bs) (turns % length bs) k → row s o ≡ not_ready

abbrev pub Chooses : State → Desk → ℕ → ℕ → Type 0
Chooses s d t k = (x : Task) × (op : OpView) × (s.tasks t ≡ Some x) × IsAtOp x.body op × (has_priority op ≡ false → IsFirstFrom s (branches_of op) (d.alts t) k)

-- an event more on the lane
abbrev pub event_counted : Option Lane → Option Lane
event_counted None = None
event_counted (Some lane) = Some (record lane { events = suc lane.events })

abbrev pub made_one : Desk → Desk
made_one d = record d { lane = event_counted d.lane }

abbrev pub left : Desk → Desk
left d = record d { lane = None }

-- one more alts of the task, where its operation is one
abbrev pub alts_counted : OpView → ℕ → ℕ
alts_counted (choosing ports priority default) n = suc n
alts_counted op n = n

abbrev pub CountsAlts : State → Desk → ℕ → Desk → Type 0
CountsAlts s d t d2 = (x : Task) × (op : OpView) × (s.tasks t ≡ Some x) × IsAtOp x.body op × (d2 ≡ record d { alts = λ u. cond (eqb t u) (alts_counted op (d.alts u)) (d.alts u) })

-- a task that comes to run stands behind the others
abbrev pub joined_by : Option ℕ → Desk → Desk
joined_by None d = d
joined_by (Some u) d = record d { ready = d.ready ++ u ∷ [] }

-- a timeout's Make asks the clock
abbrev pub ReadsMoment : Option ℕ → Desk → Desk → Type 0
ReadsMoment None d d2 = d2 ≡ d
ReadsMoment (Some m) d d2 = (later : List ℕ) × (d.readings ≡ m ∷ later) × (d2 ≡ record d { readings = later })

-- what the event of the task whose turn it is leaves of the desk
abbrev pub Leaves : State → Desk → EventView → Desk → Type 0
Leaves s d (made t p what moment) d2 = (d1 : Desk) × (p ≡ suc d.ports) × ReadsMoment moment d d1 × (d2 ≡ made_one (record d1 { ports = p }))
Leaves s d (spawned t u kind result) d2 = (u ≡ suc d.tasks) × (d2 ≡ joined_by (Some u) (made_one (record d { tasks = u })))
Leaves s d (done t k b a) d2 = (d1 : Desk) × Chooses s d t k × CountsAlts s d t d1 × (d2 ≡ made_one d1)
Leaves s d (met t k side p v w o) d2 = (d1 : Desk) × Chooses s d t k × CountsAlts s d t d1 × (d2 ≡ joined_by (owner_of w s.waits) (made_one d1))
Leaves s d (parked t w bs) d2 = (d1 : Desk) × (w ≡ suc d.waits) × CountsAlts s d t d1 × (d2 ≡ left (record d1 { waits = w }))
Leaves s d (posted t w p v) d2 = (w ≡ suc d.waits) × (d2 ≡ made_one (record d { waits = w }))
Leaves s d (defaulted t v) d2 = (d1 : Desk) × CountsAlts s d t d1 × (d2 ≡ made_one d1)
Leaves s d (closed t p) d2 = d2 ≡ made_one d
Leaves s d (registered t name args v) d2 = d2 ≡ made_one d
Leaves s d (printed t line) d2 = d2 ≡ made_one d
Leaves s d (over t how) d2 = d2 ≡ left d
Leaves s d (settled w k side p v) d2 = ⊥
Leaves s d (ticked m ports) d2 = ⊥

abbrev pub TaskTurn : State → Desk → ℕ → EventView → Desk → Type 0
TaskTurn s d t e d2 = (d1 : Desk) × NoneSettles s × IsTurnOf s d t d1 × Leaves s d1 e d2

-- the event is next on the desk: first channels settle, the least first
abbrev pub IsNext : State → Desk → EventView → Desk → Type 0
IsNext s d (settled w k side p v) d2 = SettlesFirst s p × (d2 ≡ joined_by (owner_of w s.waits) d)
IsNext s d (ticked m ports) d2 = NoneSettles s × (TicksAtPick s d m d2 ⊎ TicksIdle s d m d2)
IsNext s d (made t p what moment) d2 = TaskTurn s d t (made t p what moment) d2
IsNext s d (spawned t u kind result) d2 = TaskTurn s d t (spawned t u kind result) d2
IsNext s d (done t k b a) d2 = TaskTurn s d t (done t k b a) d2
IsNext s d (met t k side p v w o) d2 = TaskTurn s d t (met t k side p v w o) d2
IsNext s d (parked t w bs) d2 = TaskTurn s d t (parked t w bs) d2
IsNext s d (posted t w p v) d2 = TaskTurn s d t (posted t w p v) d2
IsNext s d (defaulted t v) d2 = TaskTurn s d t (defaulted t v) d2
IsNext s d (closed t p) d2 = TaskTurn s d t (closed t p) d2
IsNext s d (registered t name args v) d2 = TaskTurn s d t (registered t name args v) d2
IsNext s d (printed t line) d2 = TaskTurn s d t (printed t line) d2
IsNext s d (over t how) d2 = TaskTurn s d t (over t how) d2

-- the events lead, one after the other, from a state and a desk to a state and a desk
abbrev pub SoloSteps : ProgramView → State → Desk → List EventView → State → Desk → Type 0
SoloSteps program s d [] s2 d2 = (s2 ≡ s) × (d2 ≡ d)
SoloSteps program s d (e ∷ es) s2 d2 = (mid : State) × (desk : Desk) × Step program s e mid × IsNext s d e desk × SoloSteps program mid desk es s2 d2

-- the journal is that of one worker, whose clock gave these answers and no more
pub record Solo (program : ProgramView) (readings : List ℕ) (journal : List EventView) : Type 0 where
  pub opening : State
  pub state : State
  pub desk : Desk
  pub opens : Opening program opening
  pub steps : SoloSteps program opening (opening_desk readings) journal state desk
  pub none_left : desk.readings ≡ []

-- the event makes a timeout, which alone has a moment
abbrev pub makes_timeout : EventView → Bool
makes_timeout (made t p what (Some m)) = true
makes_timeout e = false

abbrev pub NoTimeouts : List EventView → Type 0
NoTimeouts [] = Unit {0}
NoTimeouts (e ∷ es) = (makes_timeout e ≡ false) × NoTimeouts es
