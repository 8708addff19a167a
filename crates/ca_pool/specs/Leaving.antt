-- A task that was taken out of its lane for its next event.
use Rattle.std.specs.Prelude.{◌≡◌, Some, option_map}
use Rattle.ca_term.specs.Program.{ProgramView}
use Rattle.ca_commit.specs.Agents.{TaskAgent, advances_of}
use Rattle.ca_commit.specs.Tasks.{agent_of, task_view}
use Rattle.ca_commit.specs.declared.task.Task.{Task}
use Rattle.ca_states.specs.Code.{CodeView}
use Rattle.ca_states.specs.ValidCode.{valid_code}
use Rattle.ca_states.specs.declared.valid_code.ValidCode.{ValidCode}
use Rattle.ca_table.specs.OneCode.{advances_over}
use Rattle.ca_table.specs.declared.part.Lane.{Lane}

-- the lane's task, if it has one, is over the code
abbrev pub TaskOver : {A : Type 0} → (CodeView → A → Type 0) → ValidCode → Lane A → Type 0
TaskOver {A} over code lane = (t : Task A) → lane.task ≡ Some t → over (valid_code code) t.agent

-- The task was taken out of the lane, which was settled as l, and has advanced. The lane is as it was but for that.
pub record HasLeft {A : Type 0} (over : CodeView → A → Type 0) (advances : ProgramView → A → A → Type 0) (program : ProgramView) (code : ValidCode) (l lane : Lane A) (task : Task A) : Type 0 where
  pub agent : TaskAgent A
  pub was : option_map task_view l.task ≡ Some (task.number, agent)
  pub advanced : advances_of (advances_over over (valid_code code) advances) program agent (agent_of task)
  pub program_is : lane.program ≡ l.program
  pub since_is : lane.since ≡ l.since
  pub counts_are : lane.counts ≡ l.counts
