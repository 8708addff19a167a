-- How the silent events move the parts that they touch. They are in no journal, and leave the state as it is.
use Rattle.std.specs.Prelude.{◌≡◌, ◌≢◌, ℕ, ◌≤◌, List, [], ◌∷◌, ◌++◌, Option, Some, None}
use Rattle.ca_term.specs.declared.event.Side.{Side}
use Rattle.ca_meaning.specs.Wait.{Handler, head}
use Rattle.ca_meaning.specs.Row.{unsettled, settle_row}
use Rattle.ca_timers.specs.Causes.{Rose}
use Rattle.ca_commit.specs.Contents.{Kept, LaneView, Parked, Parts, TimersPart, alive_in, clock_failed, home, on, put_on, stopped, unmarked, whole}
use Rattle.ca_commit.specs.Holds.{live_of}
use Rattle.ca_commit.specs.Moves.{Alters, Becomes, Stays}
use Rattle.ca_commit.specs.TaskMoves.{GoOnBy, stop_marked, with_mark}

-- a task's program and counts stay
abbrev pub SameLane : {A : Type 0} → LaneView A → LaneView A → Type 0
SameLane l m = (m.program ≡ l.program) × (m.counts ≡ l.counts)

-- the banks, the shards and the timers stay
pub record StayPut {A : Type 0} (old new : Parts A) : Type 0 where
  pub banks : Stays old.bank new.bank
  pub registries : Stays old.registry new.registry
  pub shards : Stays old.shard new.shard
  pub timers : new.timers ≡ old.timers

-- the first task of the ready part r comes into the empty lane
pub record MovesPick {A : Type 0} (w r : ℕ) (old new : Parts A) : Type 0 where
  pub lane : LaneView A
  pub lane2 : LaneView A
  pub x : ℕ × A
  pub rest : List (ℕ × A)
  pub lanes : Becomes old.lane new.lane w lane lane2
  pub empty : lane.task ≡ None
  pub task : lane2.task ≡ Some x
  pub since : lane2.since ≡ 0
  pub same : SameLane lane lane2
  pub readys : Becomes old.ready new.ready r (x ∷ rest) rest
  pub others : StayPut old new

-- the lane's task stands last in the worker's own ready part
pub record MovesYield {A : Type 0} (w : ℕ) (old new : Parts A) : Type 0 where
  pub lane : LaneView A
  pub lane2 : LaneView A
  pub t : ℕ
  pub agent : A
  pub queue : List (ℕ × A)
  pub lanes : Becomes old.lane new.lane w lane lane2
  pub task : lane.task ≡ Some (t, agent)
  pub empty : lane2.task ≡ None
  pub same : SameLane lane lane2
  pub readys : Becomes old.ready new.ready w queue (queue ++ (t, agent) ∷ [])
  pub others : StayPut old new

-- a handler of that wait, which is gone from its shard, is taken out, wherever it stands in its queue
pub record MovesPrune {A : Type 0} (side : Side) (p wait : ℕ) (old new : Parts A) : Type 0 where
  pub h : Handler
  pub front : List Handler
  pub rest : List Handler
  pub kept : Kept
  pub there : whole old.bank p ≡ Some kept
  pub in_queue : on side kept ≡ front ++ h ∷ rest
  pub wait_is : h.wait ≡ wait
  pub from : ℕ → Option (Parked A)
  pub shard : old.shard (home h.wait) ≡ Some from
  pub gone : from h.wait ≡ None
  pub banks : Alters old.bank new.bank p (Some (put_on side (front ++ rest) kept))
  pub registries : Stays old.registry new.registry
  pub shards : Stays old.shard new.shard
  pub lanes : Stays old.lane new.lane
  pub readys : Stays old.ready new.ready
  pub timers : new.timers ≡ old.timers

-- told answers stay
abbrev pub StayTold : Option (List ℕ) → Option (List ℕ) → Type 0
StayTold None new = Unit {0}
StayTold (Some told) new = new ≡ Some told

-- a count of faults doesn't fall, and rose
abbrev pub HasFault : ℕ → ℕ → Type 0
HasFault before now = (before ≤ now) × Rose before now

-- what an asking of the clock does to the timers, with an answer or without; the moment of the run stays
abbrev pub Asked : TimersPart → TimersPart → Type 0
Asked c c2 = (c2.faults ≡ c.faults) × GoOnBy c2.least c.readings c2.readings × (c2.mark ≡ c.mark)

abbrev pub Failed : TimersPart → TimersPart → Type 0
Failed c c2 = StayTold c.readings c2.readings × HasFault c.faults c2.faults × (c2.mark ≡ stop_marked c.mark clock_failed)

-- the timers alone are touched; deadlines and the moment of the run stay, and the clock never falls
pub record MovesTimers {A : Type 0} (How : TimersPart → TimersPart → Type 0) (old new : Parts A) : Type 0 where
  pub clock : TimersPart
  pub clock2 : TimersPart
  pub was : old.timers ≡ Some clock
  pub is : new.timers ≡ Some clock2
  pub deadlines : clock2.deadlines ≡ clock.deadlines
  pub now : clock2.now ≡ clock.now
  pub least : clock.least ≤ clock2.least
  pub how : How clock clock2
  pub banks : Stays old.bank new.bank
  pub registries : Stays old.registry new.registry
  pub lanes : Stays old.lane new.lane
  pub shards : Stays old.shard new.shard
  pub readys : Stays old.ready new.ready

abbrev pub Stopped : TimersPart → TimersPart → Type 0
Stopped c c2 = c2 ≡ with_mark stopped c

-- the run is marked, and nothing changes
abbrev pub Marked : TimersPart → TimersPart → Type 0
Marked c c2 = (c2 ≡ c) × (c.mark ≢ unmarked)

-- nothing changes, and nothing can go on: no task is in a lane or a ready part, no channel settles, no deadline is open
pub record MovesStall {A : Type 0} (old new : Parts A) : Type 0 where
  pub idle : (w : ℕ) (l : LaneView A) → old.lane w ≡ Some l → l.task ≡ None
  pub none_ready : (r : ℕ) (q : List (ℕ × A)) → old.ready r ≡ Some q → q ≡ []
  pub none_settles : (p : ℕ) (k : Kept) → whole old.bank p ≡ Some k → settle_row k.channel (head (live_of (alive_in old) k.takes)) (head (live_of (alive_in old) k.puts)) ≡ unsettled
  pub none_open : (c : TimersPart) → old.timers ≡ Some c → c.deadlines ≡ []
  pub lanes : Stays old.lane new.lane
  pub readys : Stays old.ready new.ready
  pub others : StayPut old new
