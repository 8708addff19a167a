-- What the calls of a plan's event promise of what a worker holds, with what the worker knows before them.
use Rattle.std.specs.Prelude.{◌≡◌, ℕ, ◌+◌, ◌^◌, ◌<◌, Option, Some, None, option_map}
use Rattle.ca_value.specs.Tree.{Tree}
use Rattle.ca_term.specs.Operation.{SeedView, WantView, spawning}
use Rattle.ca_term.specs.Program.{ProgramView}
use Rattle.ca_meaning.specs.Body.{At, at_op}
use Rattle.ca_commit.specs.Agents.{TaskAgent, advances_of, starts_of}
use Rattle.ca_commit.specs.Applying.{HasParts, IsEvent, IsPlanFor, ReadyBy, RunsBy, channels_by, registries_by, waits_by}
use Rattle.ca_commit.specs.Contents.{Counts, LaneView, nobody, owner, whole}
use Rattle.ca_commit.specs.Parking.{waiting_as}
use Rattle.ca_commit.specs.PlanMoves.{counts_by, next_port, next_task, next_wait}
use Rattle.ca_commit.specs.Planning.{Planned}
use Rattle.ca_commit.specs.Running.{Placed}
use Rattle.ca_commit.specs.Showing.{channels_held, registries_held, waits_held}
use Rattle.ca_commit.specs.Tasks.{agent_of, task_view}
use Rattle.ca_commit.specs.declared.held.Held.{Held}
use Rattle.ca_commit.specs.declared.task.Task.{Task}

module _ {A : Type 0} (place : A → At) (advances : ProgramView → A → A → Type 0) (gives : A → Tree → A → Type 0) (starts : ProgramView → SeedView → A → Type 0) where
  -- Plan q is what `plan` answers from some start for the lane's task, which has advanced, over what is held, and all
  -- that its event needs is there: the numbers that worker w of n gives next, and the task that a spawn starts.
  pub record IsPlanDue (w n : ℕ) (q : Planned) (lane : LaneView (TaskAgent A)) (held : Held A) (task : Task A) (spawned : Option (Task A)) : Type 0 where
    pub agent : TaskAgent A
    pub has_task : lane.task ≡ Some (task.number, agent)
    pub advanced : advances_of advances lane.program agent (agent_of task)
    pub plan_for : IsPlanFor place held q (agent_of task)
    pub is_event : IsEvent q
    pub placed : Placed (channels_held held.banks)
    pub has_parts : HasParts held q
    pub port_is : held.new_port ≡ next_port w n lane.counts
    pub wait_is : held.new_wait ≡ next_wait w n lane.counts
    pub new_port : (whole (channels_held held.banks) held.new_port ≡ None) × (whole (registries_held held.banks) held.new_port ≡ None)
    pub new_task : (s : Task A) → spawned ≡ Some s → s.number ≡ next_task w n lane.counts
    pub started : (s : Task A) → spawned ≡ Some s → (want : WantView) → place task.agent ≡ at_op want → (seed : SeedView) → want.op ≡ spawning seed → starts_of starts lane.program seed (agent_of s)

  -- It was applied: how it leaves what is held, and the lane.
  pub record IsDone (q : Planned) (lane lane2 : LaneView (TaskAgent A)) (old new : Held A) (task : Task A) (spawned running : Option (Task A)) : Type 0 where
    pub channels : (i : ℕ) → channels_held new.banks i ≡ channels_by old.new_port old.new_wait q (channels_held old.banks) i
    pub registries : (i : ℕ) → registries_held new.banks i ≡ registries_by old.new_port q (registries_held old.banks) i
    pub waits : (i : ℕ) → waits_held new.shards i ≡ waits_by old.new_wait (owner task.number (waiting_as place (agent_of task))) nobody q (waits_held old.shards) i
    pub ready : ReadyBy place gives old new spawned q
    pub runs : RunsBy gives old task q running
    pub in_lane : lane2.task ≡ option_map task_view running
    pub program : lane2.program ≡ lane.program
    pub since : lane2.since ≡ lane.since + 1
    pub counts : lane2.counts ≡ counts_by q lane.counts

-- one more of each can be counted
abbrev pub CanCount : Counts → Type 0
CanCount c = (c.tasks + 1 < 2 ^ 64) × (c.ports + 1 < 2 ^ 64) × (c.waits + 1 < 2 ^ 64)
