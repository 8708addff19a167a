-- The desk of the schedule, read off the parts of a run with one worker.
use Rattle.std.specs.Prelude.{◌≡◌, ℕ, List, Option, Some, None, map}
use Rattle.ca_meaning.specs.Sound.{Each}
use Rattle.ca_meaning.specs.Solo.{Lane, Desk}
use Rattle.ca_commit.specs.Agents.{TaskAgent}
use Rattle.ca_commit.specs.Contents.{LaneView, Parked, Parts, owner, whole}

-- the task in the lane, with its events since the pick
abbrev pub lane_read : {A : Type 0} → Option (ℕ × A) → ℕ → Option Lane
lane_read None since = None
lane_read (Some x) since = Some (record { task = x.0; events = since })

-- a task by its number
abbrev pub task_number : {A : Type 0} → ℕ × A → ℕ
task_number x = x.0

-- The lane, the ready part in its order, and the counters; and wherever a task sits, its agent tells how many alts
-- it made.
pub record ReadsOff {A : Type 0} (lane : LaneView (TaskAgent A)) (queue : List (ℕ × TaskAgent A)) (parked : ℕ → Option (Parked (TaskAgent A))) (d : Desk) : Type 0 where
  pub lane_is : d.lane ≡ lane_read lane.task lane.since
  pub ready_is : d.ready ≡ map task_number queue
  pub tasks : d.tasks ≡ lane.counts.tasks
  pub ports : d.ports ≡ lane.counts.ports
  pub waits : d.waits ≡ lane.counts.waits
  pub lane_counts : (t : ℕ) (a : TaskAgent A) → lane.task ≡ Some (t, a) → a.alts ≡ d.alts t
  pub ready_counts : Each (λ x. x.1.alts ≡ d.alts x.0) queue
  pub parked_counts : (w u : ℕ) (a : TaskAgent A) → parked w ≡ Some (owner u a) → a.alts ≡ d.alts u

-- of worker 0, who is the only one
pub record DeskReads {A : Type 0} (h : Parts (TaskAgent A)) (d : Desk) : Type 0 where
  pub lane : LaneView (TaskAgent A)
  pub in_lane : h.lane 0 ≡ Some lane
  pub queue : List (ℕ × TaskAgent A)
  pub in_ready : h.ready 0 ≡ Some queue
  pub reads : ReadsOff lane queue (whole h.shard) d
