-- A call of `in_place` is the event of the plan of its task's operation, which `plan` and `apply` make over all that is held.
use Rattle.std.specs.Prelude.{◌≡◌, ℕ, [], ◌∷◌, None, Some, true}
use Rattle.ca_value.specs.Tree.{Tree, bool}
use Rattle.ca_term.specs.declared.place.Place.{Place}
use Rattle.ca_term.specs.Program.{ProgramView}
use Rattle.ca_term.specs.Operation.{OpView, SeedView}
use Rattle.ca_meaning.specs.Body.{At, at_op}
use Rattle.ca_meaning.specs.ChannelSteps.{other_side}
use Rattle.ca_meaning.specs.Wait.{brought, port_of, side_of, told}
use Rattle.ca_bank.specs.Bank.{kept_at}
use Rattle.ca_bank.specs.Kept.{enqueued, pruned}
use Rattle.ca_bank.specs.declared.bank.Bank.{Bank}
use Rattle.ca_bank.specs.declared.shard.Shard.{Shard}
use Rattle.ca_commit.specs.Agents.{TaskAgent, advances_of, place_of}
use Rattle.ca_commit.specs.Contents.{Parts, home, nobody, owner}
use Rattle.ca_commit.specs.Deciding.{seen_in}
use Rattle.ca_commit.specs.EventMoves.{one_wait_more}
use Rattle.ca_commit.specs.InPlace.{GoesOnAnswered, GoesWithAnswer, IsBranchDone, Sets, Turns, BranchWakes}
use Rattle.ca_commit.specs.Moves.{Becomes, Stays, Stood}
use Rattle.ca_commit.specs.Parking.{waiting_as}
use Rattle.ca_commit.specs.PlanMoves.{IsApplied, next_port, next_wait}
use Rattle.ca_commit.specs.Planning.{Planned, planned, to_do, to_meet, to_park, to_post}
use Rattle.ca_commit.specs.Running.{Placed}
use Rattle.ca_commit.specs.Showing.{waits_of}
use Rattle.ca_commit.specs.Standing.{branch_no, is_alts_at, op_at}
use Rattle.ca_commit.specs.Tasks.{agent_of, task_view, tasks_in}
use Rattle.ca_commit.specs.Waking.{passing}
use Rattle.ca_commit.specs.declared.task.Ready.{Ready}
use Rattle.ca_commit.specs.declared.task.Task.{Task}

module _ {A : Type 0} (place : A → At) (advances : ProgramView → A → A → Type 0) where
  -- Worker w's task, which lies in its lane, stands at an operation; p and v are the numbers of the next port and wait.
  -- Registries and timers stay.
  pub record StandsIn (w n p v : ℕ) (task : Task A) (old new : Parts (TaskAgent A)) : Type 0 where
    pub op : OpView
    pub at : Place
    pub stood : Stood (place_of place) (advances_of advances) w task.number (at_op (record { op = op; place = at })) old new
    pub task_is : stood.agent1 ≡ agent_of task
    pub placed : Placed old.bank
    pub port_is : p ≡ next_port w n stood.lane.counts
    pub wait_is : v ≡ next_wait w n stood.lane.counts
    pub registries : Stays old.registry new.registry
    pub timers : new.timers ≡ old.timers

  -- its operation becomes q over these parts, looked at from branch `start` on
  abbrev pub IsPlanned : Parts (TaskAgent A) → Task A → ℕ → Planned → Type 0
  IsPlanned old task start q = planned (seen_in old) (op_at (place task.agent)) start ≡ q

module _ {A : Type 0} (place : A → At) (advances : ProgramView → A → A → Type 0) (gives : A → Tree → A → Type 0) (starts : ProgramView → SeedView → A → Type 0) where
  -- branch k is done at once, in a bank that lies among the parts
  abbrev pub DoneApplies : Type 0
  DoneApplies = (old new : Parts (TaskAgent A)) (w n p v u m start k : ℕ) (task task2 : Task A) (bank bank2 : Bank)
      → let b = branch_no (place task.agent) k in
      (s : StandsIn place advances w n p v task old new) → s.stood.lane2.counts ≡ s.stood.lane.counts → s.stood.lane2.task ≡ Some (task_view task2)
      → IsPlanned place advances old task start (to_do k b (is_alts_at (place task.agent)))
      → Becomes old.bank new.bank (home (port_of b)) (kept_at bank) (kept_at bank2) → Stays old.shard new.shard → Stays old.ready new.ready
      → IsBranchDone place gives k bank bank2 task task2
      → IsApplied place advances gives starts w n task.number u p v m (to_do k b (is_alts_at (place task.agent))) old new

  -- it meets a wait of a shard that lies among them
  abbrev pub MeetApplies : Type 0
  MeetApplies = (old new : Parts (TaskAgent A)) (w n p v u m start k wait o : ℕ) (task task2 : Task A) (bank bank2 : Bank) (shard shard2 : Shard (Task A)) (ready ready2 : Ready A)
      → let b = branch_no (place task.agent) k in
      (s : StandsIn place advances w n p v task old new) → s.stood.lane2.counts ≡ s.stood.lane.counts → s.stood.lane2.task ≡ Some (task_view task2)
      → IsPlanned place advances old task start (to_meet k b (is_alts_at (place task.agent)) wait o)
      → Becomes old.bank new.bank (home (port_of b)) (kept_at bank) (kept_at bank2)
      → Becomes old.shard new.shard (home wait) (waits_of shard) (waits_of shard2)
      → Becomes old.ready new.ready w (tasks_in ready) (tasks_in ready2)
      → Turns (port_of b) (pruned (other_side (side_of b)) 0) bank bank2 → Sets wait None shard shard2
      → BranchWakes place gives b wait bank shard ready ready2
      → GoesOnAnswered place gives (port_of b) (told (side_of b) (passing (kept_at bank (port_of b)) b)) task task2
      → IsApplied place advances gives starts w n task.number u p v m (to_meet k b (is_alts_at (place task.agent)) wait o) old new

  -- it waits by its one branch
  abbrev pub ParkApplies : Type 0
  ParkApplies = (old new : Parts (TaskAgent A)) (w n p v u m start : ℕ) (task : Task A) (bank bank2 : Bank) (shard shard2 : Shard (Task A))
      → let b = branch_no (place task.agent) 0 in
      (s : StandsIn place advances w n p v task old new) → s.stood.lane2.counts ≡ one_wait_more s.stood.lane.counts → s.stood.lane2.task ≡ None
      → IsPlanned place advances old task start (to_park (b ∷ []))
      → Becomes old.bank new.bank (home (port_of b)) (kept_at bank) (kept_at bank2)
      → Becomes old.shard new.shard (home v) (waits_of shard) (waits_of shard2) → Stays old.ready new.ready
      → Turns (port_of b) (enqueued (side_of b) (record { wait = v; branch = 0; value = brought b })) bank bank2
      → Sets v (Some (owner task.number (waiting_as place (agent_of task)))) shard shard2
      → IsApplied place advances gives starts w n task.number u p v m (to_park (b ∷ [])) old new

  -- or, of a posted put, without its task
  abbrev pub PostApplies : Type 0
  PostApplies = (old new : Parts (TaskAgent A)) (w n p v u m start : ℕ) (task task2 : Task A) (bank bank2 : Bank) (shard shard2 : Shard (Task A))
      → let b = branch_no (place task.agent) 0 in
      (s : StandsIn place advances w n p v task old new) → s.stood.lane2.counts ≡ one_wait_more s.stood.lane.counts → s.stood.lane2.task ≡ Some (task_view task2)
      → IsPlanned place advances old task start (to_post (b ∷ []))
      → Becomes old.bank new.bank (home (port_of b)) (kept_at bank) (kept_at bank2)
      → Becomes old.shard new.shard (home v) (waits_of shard) (waits_of shard2) → Stays old.ready new.ready
      → Turns (port_of b) (enqueued (side_of b) (record { wait = v; branch = 0; value = brought b })) bank bank2
      → Sets v (Some nobody) shard shard2 → GoesWithAnswer gives (bool true) task task2
      → IsApplied place advances gives starts w n task.number u p v m (to_post (b ∷ [])) old new
