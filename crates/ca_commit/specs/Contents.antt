-- What the parts of a run have in them. An agent is of any type.
use Rattle.std.specs.Prelude.{◌%◌, ℕ, List, Option, Some, None, Bool, is_some}
use Rattle.ca_term.specs.Program.{ProgramView}
use Rattle.ca_meaning.specs.Registry.{Registry}
use Rattle.ca_meaning.specs.State.{Deadline}
-- a channel with the queues of its two sides
pub use Rattle.ca_bank.specs.Kept.{Kept, on, put_on}
pub use Rattle.ca_bank.specs.Holds.{with_channel, channel_of}

-- how many numbers a worker gave to tasks, ports and waits
pub record Counts : Type 0 where
  pub tasks : ℕ
  pub ports : ℕ
  pub waits : ℕ

-- a worker's lane: the task that it runs, by its number, and that task's events since it was picked
pub record LaneView (A : Type 0) : Type 0 where
  pub program : ProgramView
  pub task : Option (ℕ × A)
  pub since : ℕ
  pub counts : Counts

-- channels and registries share their numbers
pub record BankView : Type 0 where
  pub channels : ℕ → Option Kept
  pub registries : ℕ → Option Registry

-- who waits: a task by its number, or nobody
pub data Parked (A : Type 0) : Type 0 where
  owner : (u : ℕ) (a : A) → Parked A
  nobody : Parked A

-- why the workers stop before all is done
pub data StopMark : Type 0 where
  unmarked : StopMark
  -- the main text has ended or faulted
  main_over : StopMark
  clock_failed : StopMark
  stopped : StopMark

-- the open deadlines and the moment, the clock, and the mark
pub record TimersPart : Type 0 where
  pub deadlines : List Deadline
  pub now : ℕ
  -- a moment that no later answer of the clock is below
  pub least : ℕ
  pub faults : ℕ
  -- the clock's answers so far, where it tells them
  pub readings : Option (List ℕ)
  pub mark : StopMark

-- what is in a part; away stands where a worker has moved the part out
pub data PartContents (A : Type 0) : Type 0 where
  a_lane : LaneView A → PartContents A
  a_bank : BankView → PartContents A
  a_shard : (ℕ → Option (Parked A)) → PartContents A
  the_timers : TimersPart → PartContents A
  a_ready : List (ℕ × A) → PartContents A
  away : PartContents A

-- a part, which tells how many workers there are
pub record Content (A : Type 0) : Type 0 where
  pub workers : ℕ
  pub held : PartContents A

-- The parts of a run, sorted. One that isn't there is None: what an event touches is the same with fewer parts.
pub record Parts (A : Type 0) : Type 0 where
  pub lane : ℕ → Option (LaneView A)
  pub bank : ℕ → Option (ℕ → Option Kept)
  pub registry : ℕ → Option (ℕ → Option Registry)
  pub shard : ℕ → Option (ℕ → Option (Parked A))
  pub ready : ℕ → Option (List (ℕ × A))
  pub timers : Option TimersPart

-- the bank of a port and the shard of a wait
abbrev pub home : ℕ → ℕ
home n = n % 16

abbrev pub at_key : {X : Type 0} → Option (ℕ → Option X) → ℕ → Option X
at_key None k = None
at_key (Some f) k = f k

-- several banks or shards as one map
abbrev pub whole : {X : Type 0} → (ℕ → Option (ℕ → Option X)) → ℕ → Option X
whole parts n = at_key (parts (home n)) n

abbrev pub alive : {A : Type 0} → (ℕ → Option (Parked A)) → ℕ → Bool
alive parked w = is_some (parked w)

abbrev pub alive_in : {A : Type 0} → Parts A → ℕ → Bool
alive_in h = alive (whole h.shard)
