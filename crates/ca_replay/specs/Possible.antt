-- By what a run goes on.
use Rattle.std.specs.Prelude.{◌≡◌, ◌≢◌, ◌⊎◌, ◌||◌, ℕ, [], Bool, true, false, Option, Some, None, slice_get}
use Rattle.ca_term.specs.declared.event.Side.TheVariants.{Take, Put}
use Rattle.ca_meaning.specs.Going.{Runs}
use Rattle.ca_meaning.specs.Row.{Settling, unsettled, settles, settle_row}
use Rattle.ca_meaning.specs.State.{State, Task}
use Rattle.ca_meaning.specs.Wait.{head}
use Rattle.ca_scene.specs.Admits.{settling_at}
use Rattle.ca_scene.specs.Scene.{room_channel, room_queue}
use Rattle.ca_scene.specs.declared.room.Room.{Room}
use Rattle.ca_scene.specs.declared.scene.Scene.{Scene}
use Rattle.ca_scene.specs.declared.task.Mode.{Mode}
use Rattle.ca_scene.specs.declared.task.Task.{Task as TaskCode}

abbrev pub does_settle : Settling → Bool
does_settle unsettled = false
does_settle (settles side h v after) = true

-- some task runs
abbrev pub SomeRuns : State → Type 0
SomeRuns s = (t : ℕ) × (x : Task) × Runs s.tasks t x

-- some channel completes a wait by itself
abbrev pub SomeSettles : State → Type 0
SomeSettles s = (p : ℕ) × (does_settle (settling_at s p) ≡ true)

-- a task runs, or a channel completes a wait by itself, or a deadline is open
abbrev pub CanGoOn : State → Type 0
CanGoOn s = SomeRuns s ⊎ SomeSettles s ⊎ (s.deadlines ≢ [])

-- the task that stands there, if one does, runs
abbrev pub is_running : Mode → Bool
is_running Mode.Running = true
is_running (Mode.Waiting w) = false
is_running Mode.Over = false

abbrev pub runs_there : Option (ℕ × TaskCode) → Bool
runs_there None = false
runs_there (Some e) = is_running e.1.mode

-- the channel that stands there, if one does, completes a wait
abbrev pub room_settles : Room → Bool
room_settles r = does_settle (settle_row (room_channel r) (head (room_queue Take r)) (head (room_queue Put r)))

abbrev pub settles_there : Option (ℕ × Room) → Bool
settles_there None = false
settles_there (Some e) = room_settles e.1

-- at that place of both tables
abbrev pub goes_at : Scene → ℕ → Bool
goes_at s k = runs_there (slice_get s.tasks.entries k) || settles_there (slice_get s.rooms.entries k)
