-- What an event of a plan needs beside the plan's banks and shards: the clock for a timeout, and the worker's ready part.
use Rattle.std.specs.Prelude.{◌≡◌, ℕ, ◌≤◌, ◌<◌, List, Option, Some, None, IsSome, option_map}
use Rattle.ca_timers.specs.Timers.{TimersView}
use Rattle.ca_term.specs.Operation.{SeedView, WantView, spawning}
use Rattle.ca_term.specs.Program.{ProgramView}
use Rattle.ca_term.specs.declared.place.Place.{Place}
use Rattle.ca_meaning.specs.Body.{At, at_op}
use Rattle.ca_meaning.specs.TaskSteps.{moments}
use Rattle.ca_commit.specs.Agents.{starts_of}
use Rattle.ca_commit.specs.Contents.{TimersPart, home}
use Rattle.ca_commit.specs.Planning.{Planned, to_make, to_park, to_post, to_spawn}
use Rattle.ca_commit.specs.Showing.{channels_held, waits_held}
use Rattle.ca_commit.specs.TaskMoves.{GoOnBy}
use Rattle.ca_commit.specs.Tasks.{agent_of}
use Rattle.ca_commit.specs.declared.held.Held.{Held}
use Rattle.ca_commit.specs.declared.task.Task.{Task}
use Rattle.ca_pool.specs.Desk.{ClockBox, SameNumbers}
use Rattle.ca_table.specs.Parts.{clockwork_seen}

-- the same with these timers in place of its own
abbrev pub in_place : TimersPart → Option TimersView → TimersPart
in_place c None = c
in_place c (Some t) = record { deadlines = t.deadlines; now = t.moment; least = c.least; faults = c.faults; readings = c.readings; mark = c.mark }

module _ {C : Type 0} (least faults : C → ℕ) (readings : C → Option (List ℕ)) where
  -- what a clockwork shows
  abbrev pub clock_seen : Option (ClockBox C) → Option TimersPart
  clock_seen o = option_map (λ t. clockwork_seen least faults readings t.value) o

  -- what a clockwork shows whose timers are held
  abbrev pub clock_with : Option (ClockBox C) → Option TimersView → Option TimersPart
  clock_with None o = None
  clock_with (Some t) o = Some (in_place (clockwork_seen least faults readings t.value) o)

-- the clock answered moment m, and nothing else happened
pub record ClockAnswered (m : ℕ) (c c2 : TimersPart) : Type 0 where
  pub deadlines : c2.deadlines ≡ c.deadlines
  pub now : c2.now ≡ c.now
  pub later : c.least ≤ m
  pub bound : m < moments
  pub least : c2.least ≡ m
  pub faults : c2.faults ≡ c.faults
  pub readings : GoOnBy m c.readings c2.readings
  pub mark : c2.mark ≡ c.mark

-- if there is a clock
abbrev pub AskedFor : ℕ → Option TimersPart → Option TimersPart → Type 0
AskedFor m None new = new ≡ None
AskedFor m (Some c) new = (c2 : TimersPart) × (new ≡ Some c2) × ClockAnswered m c c2

-- no answer of the clock lies before its timers' moment
abbrev pub AreTimersTimely : Option TimersPart → Type 0
AreTimersTimely None = Unit {0}
AreTimersTimely (Some c) = c.now ≤ c.least

-- all is as before but the timers
pub record ButTimers {A : Type 0} (old new : Held A) : Type 0 where
  pub banks : new.banks ≡ old.banks
  pub shards : new.shards ≡ old.shards
  pub ready : new.ready ≡ old.ready
  pub numbers : SameNumbers old new

-- the banks and shards that the plan's event needs are held
abbrev pub HasRest : {A : Type 0} → Held A → Planned → Type 0
HasRest h (to_park bs) = IsSome (waits_held h.shards (home h.new_wait))
HasRest h (to_post bs) = IsSome (waits_held h.shards (home h.new_wait))
HasRest h (to_make what) = IsSome (channels_held h.banks (home h.new_port))
HasRest h other = Unit {0}

-- a task is started only where an operation spawns it
abbrev pub SpawnsAt : At → Planned → Type 0
SpawnsAt at (to_spawn kind r) = (seed : SeedView) × (place : Place) × (at ≡ at_op (record { op = spawning seed; place = place }))
SpawnsAt at other = Unit {0}

module _ {A : Type 0} (place : A → At) (starts : ProgramView → SeedView → A → Type 0) (program : ProgramView) where
  -- the new task is the one that the operation starts
  abbrev pub StartsFor : Task A → Task A → Type 0
  StartsFor task s = (want : WantView) → place task.agent ≡ at_op want → (seed : SeedView) → want.op ≡ spawning seed → starts_of starts program seed (agent_of s)
