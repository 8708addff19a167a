-- The state that a scene stands for, and what it holds beside it.
use Rattle.std.specs.Prelude.{◌≡◌, ℕ, List, [], ◌∷◌, ◌++◌, map, Option, Some, None, option_map, nat_eq}
use Rattle.std.specs.List.{IsDistinct}
use Rattle.indexmap.specs.IndexMap.{get, keys}
use Rattle.ca_value.specs.Seq.{list}
use Rattle.ca_value.specs.View.{view}
use Rattle.ca_term.specs.declared.event.Side.{Side}
use Rattle.ca_term.specs.declared.event.Side.TheVariants.{Take, Put}
use Rattle.ca_term.specs.Event.{branch_view, port_number}
use Rattle.ca_meaning.specs.BodyViews.{body_view}
use Rattle.ca_meaning.specs.Channel.{Channel}
use Rattle.ca_meaning.specs.RowViews.{policy_view}
use Rattle.ca_meaning.specs.Wait.{Wait, Handler, handlers}
use Rattle.ca_meaning.specs.Task.{TaskBody, script, system_task, body_at}
use Rattle.ca_meaning.specs.State.{State, Task, Tasks, Mode, running, waiting, over}
use Rattle.ca_registry.specs.declared.registry.Registry.{Registry}
use Rattle.ca_registry.specs.Registry.{registry_view}
use Rattle.ca_system_tasks.specs.Tables.{table_body}
use Rattle.ca_scene.specs.declared.task.Task.{Task as TaskCode}
use Rattle.ca_scene.specs.declared.task.TaskBody.{TaskBody as TaskBodyCode}
use Rattle.ca_scene.specs.declared.task.Mode.{Mode as ModeCode}
use Rattle.ca_scene.specs.declared.room.Room.{Room}
use Rattle.ca_scene.specs.declared.room.Handler.{Handler as HandlerCode}
use Rattle.ca_scene.specs.declared.scene.Scene.{Scene}
use Rattle.ca_scene.specs.declared.scene.Waiting.{Waiting}
pub use Rattle.ca_scene.specs.Standing.{Shown, shown_op, shown_end, shown_fault, elsewhere, shown_at, standing_view}

abbrev pub mode_view : ModeCode → Mode
mode_view ModeCode.Running = running
mode_view (ModeCode.Waiting w) = waiting w
mode_view ModeCode.Over = over

abbrev pub task_body : TaskBodyCode → TaskBody
task_body (TaskBodyCode.Script b) = script (body_view b)
task_body (TaskBodyCode.System t) = system_task (table_body t)

abbrev pub task_code_view : TaskCode → Task
task_code_view x = record { result = option_map port_number x.result; body = task_body x.body; mode = mode_view x.mode }

abbrev pub task_at : Scene → ℕ → Option TaskCode
task_at s t = get nat_eq s.tasks t

abbrev pub room_at : Scene → ℕ → Option Room
room_at s p = get nat_eq s.rooms p

abbrev pub scene_registry : Scene → ℕ → Option Registry
scene_registry s p = get nat_eq s.registries p

abbrev pub tasks_of : Scene → Tasks
tasks_of s t = option_map task_code_view (task_at s t)

abbrev pub handler_code_view : HandlerCode → Handler
handler_code_view h = record { wait = h.wait; branch = h.branch; value = view h.value }

abbrev pub room_channel : Room → Channel
room_channel r = record { policy = policy_view r.policy; capacity = r.capacity; held = map view r.held.items; closed = r.closed }

abbrev pub room_queue : Side → Room → List Handler
room_queue Take r = map handler_code_view r.takes.items
room_queue Put r = map handler_code_view r.puts.items

abbrev pub wait_or : ℕ → Option Waiting → List Wait → List Wait
wait_or n None ws = ws
wait_or n (Some x) ws = record { number = n; owner = x.owner; branches = map branch_view (list x.branches) } ∷ ws

-- the waits that aren't gone, in order of arrival
abbrev pub waits_in : List (ℕ × Option Waiting) → List Wait
waits_in [] = []
waits_in (e ∷ es) = wait_or e.0 e.1 (waits_in es)

-- the numbers, the last first
abbrev pub used_from : List ℕ → List (ℕ × Option Waiting) → List ℕ
used_from ns [] = ns
used_from ns (e ∷ es) = used_from (e.0 ∷ ns) es

-- the owner of a wait that is there
abbrev pub owner_in : Option (Option Waiting) → Option ℕ
owner_in None = None
owner_in (Some None) = None
owner_in (Some (Some x)) = x.owner

abbrev pub scene_state : Scene → State
scene_state s = record {
  tasks = tasks_of s;
  channels = λ p. option_map room_channel (room_at s p);
  registries = λ p. option_map registry_view (scene_registry s p);
  deadlines = s.timers.deadlines;
  now = s.timers.moment;
  waits = waits_in s.waits.entries;
  used = used_from [] s.waits.entries;
}

-- The queues of the channels: of each wait the first branch on that side alone, since no other one is ever served.
abbrev pub first_handlers : List Handler → List Handler
first_handlers [] = []
first_handlers (h ∷ hs) = h ∷ []

abbrev pub firsts : Side → ℕ → List Wait → List Handler
firsts side p [] = []
firsts side p (x ∷ xs) = first_handlers (handlers side p x.number 0 x.branches) ++ firsts side p xs

abbrev pub queues_at : Side → Option Room → List Handler
queues_at side None = []
queues_at side (Some r) = room_queue side r

-- the queue of each channel is that of the waits, and nobody waits where there is no channel
abbrev pub IsQueued : (ℕ → Option Room) → List Wait → Type 0
IsQueued rooms ws = (side : Side) (p : ℕ) → queues_at side (rooms p) ≡ firsts side p ws

-- where the task stands is told
abbrev pub IsStandingShown : TaskCode → Type 0
IsStandingShown x = standing_view x.standing ≡ shown_at (body_at (task_body x.body))

abbrev pub TasksAreShown : (ℕ → Option TaskCode) → Type 0
TasksAreShown tasks = (t : ℕ) (x : TaskCode) → tasks t ≡ Some x → IsStandingShown x

-- what is kept beside the state agrees with it
pub record IsScene (s : Scene) : Type 0 where
  pub shown : TasksAreShown (task_at s)
  pub queued : IsQueued (room_at s) (waits_in s.waits.entries)
  pub distinct : IsDistinct nat_eq (keys s.waits)
