-- How a task halts in its lane, and leaves it.
use Rattle.std.specs.Prelude.{◌≡◌, ℕ, ◌+◌, List, [], ◌∷◌, Option, Some, None}
use Rattle.ca_value.specs.declared.value.PortId.{PortId}
use Rattle.ca_term.specs.Event.{port_number}
use Rattle.ca_term.specs.Program.{ProgramView}
use Rattle.ca_meaning.specs.Body.{At}
use Rattle.ca_commit.specs.Agents.{TaskAgent, advances_of}
use Rattle.ca_commit.specs.Contents.{LaneView}
use Rattle.ca_commit.specs.Showing.{registries_held, waits_held}
use Rattle.ca_commit.specs.Tasks.{agent_of}
use Rattle.ca_commit.specs.Waking.{ready_in}
use Rattle.ca_commit.specs.declared.held.Held.{Held}
use Rattle.ca_commit.specs.declared.task.Task.{Task}

-- the channel of a result, if a task has one
abbrev pub result_ports : Option PortId → List ℕ
result_ports None = []
result_ports (Some p) = port_number p ∷ []

module _ {A : Type 0} (place : A → At) (advances : ProgramView → A → A → Type 0) where
  -- the lane's task has advanced to where it halts, and leaves the lane
  pub record LeavesLane (at : At) (lane lane2 : LaneView (TaskAgent A)) (task : Task A) : Type 0 where
    pub agent : TaskAgent A
    pub has_task : lane.task ≡ Some (task.number, agent)
    pub advanced : advances_of advances lane.program agent (agent_of task)
    pub stands : place task.agent ≡ at
    pub empty : lane2.task ≡ None
    pub program : lane2.program ≡ lane.program
    pub since : lane2.since ≡ lane.since + 1
    pub counts : lane2.counts ≡ lane.counts

-- of what is held only channels change
pub record KeepAll {A : Type 0} (old new : Held A) : Type 0 where
  pub registries : (i : ℕ) → registries_held new.banks i ≡ registries_held old.banks i
  pub waits : (i : ℕ) → waits_held new.shards i ≡ waits_held old.shards i
  pub ready : ready_in new.ready ≡ ready_in old.ready
