-- The state of a run.
use Rattle.std.specs.Prelude.{◌≡◌, ℕ, List, [], ◌∷◌, Option, Some, None, option_map, eqb}
use Rattle.std.specs.Map.{update}
pub use Rattle.ca_value.specs.Deadlines.{Deadline, is_before, opened, due, open_after}
use Rattle.ca_term.specs.Program.{ProgramView}
use Rattle.ca_meaning.specs.Body.{new_body}
use Rattle.ca_meaning.specs.Task.{TaskBody, script, BodyRest}
use Rattle.ca_meaning.specs.Channel.{Channel, shut}
use Rattle.ca_meaning.specs.Registry.{Registry}
use Rattle.ca_meaning.specs.Wait.{Wait}

pub data Mode : Type 0 where
  running : Mode
  -- on the wait of that number
  waiting : ℕ → Mode
  over : Mode

-- a task, with the port of its result if it has one
pub record Task : Type 0 where
  pub result : Option ℕ
  pub body : TaskBody
  pub mode : Mode

abbrev pub Tasks : Type 0
Tasks = ℕ → Option Task

abbrev pub Channels : Type 0
Channels = ℕ → Option Channel

-- Tasks, channels and registries stand by number; the main text is task 0. Channels and registries
-- share their numbers.
pub record State : Type 0 where
  pub tasks : Tasks
  pub channels : Channels
  pub registries : ℕ → Option Registry
  -- in order of moment, then number
  pub deadlines : List Deadline
  pub now : ℕ
  -- in order of arrival
  pub waits : List Wait
  -- the numbers given to waits so far
  pub used : List ℕ

abbrev pub runs : Option ℕ → TaskBody → Task
runs result b = record { result = result; body = b; mode = running }

-- only task 0, which runs
abbrev pub opening_state : TaskBody → State
opening_state b = record {
  tasks = update eqb (λ n. None) 0 (Some (runs None b));
  channels = λ n. None;
  registries = λ n. None;
  deadlines = [];
  now = 0;
  waits = [];
  used = [];
}

-- task 0 stands after the local steps of the main text, and there is nothing else
abbrev pub Opening : ProgramView → State → Type 0
Opening program s = (b : TaskBody) × BodyRest program (script (new_body program.main)) b × (s ≡ opening_state b)

-- the channel is closed, if it is there
abbrev pub shut_at : ℕ → Channels → Channels
shut_at p channels = update eqb channels p (option_map shut (channels p))

abbrev pub shut_all : List ℕ → Channels → Channels
shut_all [] channels = channels
shut_all (p ∷ ps) channels = shut_all ps (shut_at p channels)

abbrev pub shut_result : Option ℕ → Channels → Channels
shut_result None channels = channels
shut_result (Some p) channels = shut_at p channels
