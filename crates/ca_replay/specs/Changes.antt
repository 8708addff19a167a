-- Small changes of a scene, and what they are in its state.
use Rattle.std.specs.Prelude.{◌≡◌, ℕ, List, [], Option, Some, None, option_map, unwrap_or, eqb, true}
use Rattle.std.specs.Map.{update}
use Rattle.ca_term.specs.Operation.{WhatView}
use Rattle.ca_meaning.specs.Channel.{Channel}
use Rattle.ca_meaning.specs.Registry.{Registry}
use Rattle.ca_meaning.specs.State.{State, Task, over, shut_at, shut_all, shut_result, open_after}
use Rattle.ca_meaning.specs.TaskSteps.{with_deadline}
use Rattle.ca_scene.specs.declared.room.Room.{Room}
use Rattle.ca_scene.specs.declared.task.Task.{Task as TaskCode}
use Rattle.ca_scene.specs.declared.task.Mode.{Mode}

-- the map with f done at p
abbrev pub mapped_at : {X : Type 0} → (ℕ → Option X) → ℕ → (X → X) → ℕ → Option X
mapped_at m p f q = update eqb m p (option_map f (m p)) q

abbrev pub finished : TaskCode → TaskCode
finished x = record x { mode = Mode.Over }

abbrev pub finished_task : Task → Task
finished_task x = record x { mode = over }

abbrev pub room_closed : Room → Room
room_closed r = record r { closed = true }

-- task t is over
abbrev pub Finishes : State → ℕ → State → Type 0
Finishes s t s2 = s2 ≡ record s { tasks = update eqb s.tasks t (option_map finished_task (s.tasks t)) }

abbrev pub Shuts : State → ℕ → State → Type 0
Shuts s p s2 = s2 ≡ record s { channels = shut_at p s.channels }

abbrev pub ShutsAll : State → List ℕ → State → Type 0
ShutsAll s ps s2 = s2 ≡ record s { channels = shut_all ps s.channels }

abbrev pub ShutsResult : State → Option ℕ → State → Type 0
ShutsResult s r s2 = s2 ≡ record s { channels = shut_result r s.channels }

-- channel p is there, where there is one
abbrev pub PutsChannel : State → ℕ → Option Channel → State → Type 0
PutsChannel s p c s2 = s2 ≡ record s { channels = update eqb s.channels p c }

abbrev pub PutsRegistry : State → ℕ → Option Registry → State → Type 0
PutsRegistry s p r s2 = s2 ≡ record s { registries = update eqb s.registries p r }

-- what is made at port p opens its deadline, and the moment is reached, where one is shown
abbrev pub OpensDeadline : State → ℕ → WhatView → Option ℕ → State → Type 0
OpensDeadline s p what m s2 = s2 ≡ record s { deadlines = with_deadline p what (unwrap_or m s.now) s.deadlines; now = unwrap_or m s.now }

-- the moment is reached, and what is due is gone
abbrev pub Passes : State → ℕ → State → Type 0
Passes s m s2 = s2 ≡ record s { deadlines = open_after m s.deadlines; now = m }

-- nobody waits on the channel
abbrev pub IsUnattended : Room → Type 0
IsUnattended r = (r.takes.items ≡ []) × (r.puts.items ≡ [])

abbrev pub AreUnattended : Option Room → Type 0
AreUnattended None = Unit {0}
AreUnattended (Some r) = IsUnattended r
