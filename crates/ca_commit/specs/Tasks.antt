-- What a task and a ready part show.
use Rattle.std.specs.Prelude.{ℕ, ◌-◌, List, option_map, map}
use Rattle.std.specs.VecDeque.{deque_len, deque_capacity}
use Rattle.ca_term.specs.Event.{port_number}
use Rattle.ca_commit.specs.Agents.{TaskAgent}
use Rattle.ca_commit.specs.declared.task.Task.{Task}
use Rattle.ca_commit.specs.declared.task.Ready.{Ready}

abbrev pub agent_of : {A : Type 0} → Task A → TaskAgent A
agent_of t = record { result = option_map port_number t.result; alts = t.alts; agent = t.agent }

abbrev pub task_view : {A : Type 0} → Task A → ℕ × TaskAgent A
task_view t = (t.number, agent_of t)

abbrev pub tasks_in : {A : Type 0} → Ready A → List (ℕ × TaskAgent A)
tasks_in r = map task_view r.tasks.value.items

-- how many more tasks fit with no growth
abbrev pub ready_spare : {A : Type 0} → Ready A → ℕ
ready_spare r = deque_capacity r.tasks.value - deque_len r.tasks.value
