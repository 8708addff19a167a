-- How the other events move the parts that they touch: what is made and started, registries, lines, the clock,
-- and the ends of tasks.
use Rattle.std.specs.Prelude.{◌⊎◌, ◌≡◌, ◌≢◌, ℕ, ◌+◌, ◌*◌, ◌<◌, ◌≤◌, List, [], ◌∷◌, ◌++◌, Option, Some, None, option_map, Bool, true, false, eqb}
use Rattle.ca_value.specs.Tree.{Tree, Trees, nil, port}
use Rattle.ca_term.specs.declared.place.Place.{Place}
use Rattle.ca_term.specs.declared.fault.Fault.{Fault}
use Rattle.ca_term.specs.declared.head.RegisterName.{RegisterName}
use Rattle.ca_term.specs.declared.event.TaskKind.{TaskKind}
use Rattle.ca_term.specs.Program.{ProgramView}
use Rattle.ca_term.specs.Operation.{OpView, WhatView, SeedView, making, spawning, registering, printing}
use Rattle.ca_meaning.specs.Body.{At, at_op, ended, faulted}
use Rattle.ca_meaning.specs.Channel.{channel_made}
use Rattle.ca_meaning.specs.Registry.{Registry, registry_made, answers}
use Rattle.ca_meaning.specs.Operands.{port_of_value, first_of}
use Rattle.ca_meaning.specs.Wait.{is_among}
use Rattle.ca_meaning.specs.State.{State, due, open_after}
use Rattle.ca_meaning.specs.TaskSteps.{moments, IsMoment, with_deadline, kind_of, result_of}
use Rattle.ca_meaning.specs.Choice.{branches_of}
use Rattle.ca_meaning.specs.Refusal.{has_no_default, registering_gives}
use Rattle.ca_commit.specs.Contents.{Kept, LaneView, StopMark, Parts, TimersPart, clock_failed, home, main_over, stopped, unmarked, whole}
use Rattle.ca_commit.specs.Holds.{empty_kept, shut_in, shut_kept}
use Rattle.ca_commit.specs.Moves.{Alters, Answers, Becomes, CrowdedIn, FitIn, NoneReadyIn, Shows, Stays, Stood, UnfitIn}

-- told answers of the clock go on by one
abbrev pub GoOnBy : ℕ → Option (List ℕ) → Option (List ℕ) → Type 0
GoOnBy m None new = Unit {0}
GoOnBy m (Some told) new = new ≡ Some (told ++ m ∷ [])

-- the clock answered the moment m, which is now
pub record ReadsClock (m : ℕ) (c c2 : TimersPart) : Type 0 where
  pub now : c2.now ≡ m
  -- no answer lies below an earlier one
  pub later : c.least ≤ m
  pub least : c2.least ≡ m
  pub faults : c2.faults ≡ c.faults
  pub readings : GoOnBy m c.readings c2.readings
  pub mark : c2.mark ≡ c.mark

-- the clock is read where a timeout is made, and its deadline opened
abbrev pub MakesTimed : ℕ → WhatView → Option ℕ → Option TimersPart → Option TimersPart → Type 0
MakesTimed p what None old new = IsMoment 0 what None × (new ≡ old)
MakesTimed p what (Some m) old new = (c c2 : TimersPart) × (old ≡ Some c) × (new ≡ Some c2) × IsMoment c.now what (Some m) × ReadsClock m c c2 × (c2.deadlines ≡ with_deadline p what m c.deadlines)

abbrev pub stop_marked : StopMark → StopMark → StopMark
stop_marked unmarked m = m
stop_marked main_over m = main_over
stop_marked clock_failed m = clock_failed
stop_marked stopped m = stopped

-- a mark is set once
abbrev pub with_mark : StopMark → TimersPart → TimersPart
with_mark m c = record { deadlines = c.deadlines; now = c.now; least = c.least; faults = c.faults; readings = c.readings; mark = stop_marked c.mark m }

-- the end of the main text marks the run; that of another task doesn't touch the timers
abbrev pub MarksEnd : Bool → Option TimersPart → Option TimersPart → Type 0
MarksEnd true old new = (c : TimersPart) × (old ≡ Some c) × (new ≡ Some (with_mark main_over c))
MarksEnd false old new = new ≡ old

-- the channel of the port, if there is one, is closed in its bank
abbrev pub ShutsAt : Option ℕ → (ℕ → Option (ℕ → Option Kept)) → (ℕ → Option (ℕ → Option Kept)) → Type 0
ShutsAt None old new = Stays old new
ShutsAt (Some p) old new = Alters old new p (option_map shut_kept (whole old p))

module _ {A : Type 0} (place : A → At) (advances : ProgramView → A → A → Type 0) (gives : A → Tree → A → Type 0) where
  -- the new port is the next of the worker, and its bank gets what is made
  pub record MovesMake (w n t p : ℕ) (what : WhatView) (moment : Option ℕ) (old new : Parts A) : Type 0 where
    pub answers : Answers place advances gives w t (making what) (port p) old new
    pub next : p ≡ 1 + w + n * answers.stands.lane.counts.ports
    pub counts : answers.stands.lane2.counts ≡ record { tasks = answers.stands.lane.counts.tasks; ports = answers.stands.lane.counts.ports + 1; waits = answers.stands.lane.counts.waits }
    pub banks : Alters old.bank new.bank p (option_map empty_kept (channel_made what))
    pub registries : Alters old.registry new.registry p (registry_made what)
    pub shards : Stays old.shard new.shard
    pub readys : Stays old.ready new.ready
    pub timers : MakesTimed p what moment old.timers new.timers

  -- the new task stands last in the worker's own ready part
  pub record MovesSpawn (starts : ProgramView → SeedView → A → Type 0) (w n t u : ℕ) (kind : TaskKind) (result : Option ℕ) (old new : Parts A) : Type 0 where
    pub seed : SeedView
    pub answers : Answers place advances gives w t (spawning seed) nil old new
    pub kind_is : kind_of seed ≡ kind
    pub result_is : result_of seed ≡ result
    pub next : u ≡ 1 + w + n * answers.stands.lane.counts.tasks
    pub counts : answers.stands.lane2.counts ≡ record { tasks = answers.stands.lane.counts.tasks + 1; ports = answers.stands.lane.counts.ports; waits = answers.stands.lane.counts.waits }
    pub agent : A
    pub started : starts answers.stands.lane.program seed agent
    pub queue : List (ℕ × A)
    pub readys : Becomes old.ready new.ready w queue (queue ++ (u, agent) ∷ [])
    pub banks : Stays old.bank new.bank
    pub registries : Stays old.registry new.registry
    pub shards : Stays old.shard new.shard
    pub timers : new.timers ≡ old.timers

  -- the registry that the first argument names is what the table makes of it
  pub record MovesRegister (w t : ℕ) (name : RegisterName) (args : Trees) (v : Tree) (old new : Parts A) : Type 0 where
    pub acts : Answers place advances gives w t (registering name args) v old new
    pub counts : acts.stands.lane2.counts ≡ acts.stands.lane.counts
    pub registry : Registry
    pub by_table : (s : State) → Shows old s → registering_gives s name args ≡ answers v registry
    pub banks : Stays old.bank new.bank
    pub registries : Alters old.registry new.registry (port_of_value (first_of args)) (Some registry)
    pub shards : Stays old.shard new.shard
    pub readys : Stays old.ready new.ready
    pub timers : new.timers ≡ old.timers

  pub record MovesPrint (w t : ℕ) (line : List ℕ) (old new : Parts A) : Type 0 where
    pub answers : Answers place advances gives w t (printing line) nil old new
    pub counts : answers.stands.lane2.counts ≡ answers.stands.lane.counts
    pub banks : Stays old.bank new.bank
    pub registries : Stays old.registry new.registry
    pub shards : Stays old.shard new.shard
    pub readys : Stays old.ready new.ready
    pub timers : new.timers ≡ old.timers

module _ {A : Type 0} (place : A → At) (advances : ProgramView → A → A → Type 0) where
  -- task t halts at that place, and leaves the lane
  pub record Halts (w t : ℕ) (at : At) (old new : Parts A) : Type 0 where
    pub stands : Stood place advances w t at old new
    pub empty : stands.lane2.task ≡ None
    pub counts : stands.lane2.counts ≡ stands.lane.counts
    pub registries : Stays old.registry new.registry
    pub shards : Stays old.shard new.shard
    pub readys : Stays old.ready new.ready
    pub timers : MarksEnd (eqb t 0) old.timers new.timers

  -- by a value
  pub record MovesEnd (w t : ℕ) (old new : Parts A) : Type 0 where
    pub v : Tree
    pub halts : Halts w t (ended v) old new
    pub banks : Stays old.bank new.bank

  -- at an operation whose operands are refused
  abbrev pub IsAtRefused : ℕ → ℕ → Fault → Place → Parts A → Parts A → Type 0
  IsAtRefused w t fault at old new = (op : OpView) × (Halts w t (at_op (record { op = op; place = at })) old new) × UnfitIn old op fault

  -- or at one whose wait would be one too many
  abbrev pub Crowded : ℕ → ℕ → Fault → Place → Parts A → Parts A → Type 0
  Crowded w t fault at old new = (op : OpView) × (Halts w t (at_op (record { op = op; place = at })) old new)
      × FitIn old op × (has_no_default op ≡ true) × NoneReadyIn old (branches_of op) × CrowdedIn old (branches_of op) fault

  -- by a fault: the task's result port, if it has one, is closed
  pub record MovesFault (result : A → Option ℕ) (w t : ℕ) (fault : Fault) (at : Place) (r : Option ℕ) (old new : Parts A) : Type 0 where
    pub halts : Halts w t (faulted fault at) old new ⊎ (IsAtRefused w t fault at old new ⊎ Crowded w t fault at old new)
    pub result_is : (l : LaneView A) (a : A) → old.lane w ≡ Some l → l.task ≡ Some (t, a) → result a ≡ r
    pub banks : ShutsAt r old.bank new.bank

-- the due timeouts close their channels
pub record MovesTick {A : Type 0} (m : ℕ) (ports : List ℕ) (old new : Parts A) : Type 0 where
  pub clock : TimersPart
  pub clock2 : TimersPart
  pub was : old.timers ≡ Some clock
  pub is : new.timers ≡ Some clock2
  pub late : clock.now ≤ m
  pub bound : m < moments
  pub due_are : due m clock.deadlines ≡ ports
  pub some : ports ≢ []
  pub left : clock2.deadlines ≡ open_after m clock.deadlines
  pub reads : ReadsClock m clock clock2
  pub there : (p : ℕ) → is_among p ports ≡ true → (f : ℕ → Option Kept) × (old.bank (home p) ≡ Some f)
  pub banks : (i : ℕ) → new.bank i ≡ option_map (shut_in ports) (old.bank i)
  pub registries : Stays old.registry new.registry
  pub lanes : Stays old.lane new.lane
  pub shards : Stays old.shard new.shard
  pub readys : Stays old.ready new.ready
