-- A scene of a program: each task's body is one of the program, and whoever waits stands at an operation.
use Rattle.std.specs.Prelude.{◌≡◌, ℕ, Option, Some, None, Bool, true}
use Rattle.ca_term.specs.declared.head.PlainFunction.{PlainFunction}
use Rattle.ca_term.specs.Fits.{IsApplicable}
use Rattle.ca_term.specs.Program.{ProgramView, known_in}
use Rattle.ca_term.specs.View.{kernel}
use Rattle.ca_meaning.specs.Body.{At}
use Rattle.ca_meaning.specs.BodyViews.{is_at_op}
use Rattle.ca_meaning.specs.IsBody.{IsBodyOf}
use Rattle.ca_meaning.specs.Task.{body_at}
use Rattle.ca_system.specs.Applications.{function_of}
use Rattle.ca_system_tasks.specs.Tables.{table_body}
use Rattle.ca_scene.specs.declared.task.Task.{Task}
use Rattle.ca_scene.specs.declared.task.TaskBody.{TaskBody}
use Rattle.ca_scene.specs.declared.task.Mode.{Mode}
use Rattle.ca_scene.specs.declared.scene.Scene.{Scene}
use Rattle.ca_scene.specs.Scene.{IsScene, TasksAreShown, task_at, task_body}

-- the function that a table applies, if it applies one, is in the program and takes one value
abbrev pub HasFunction : ProgramView → Option PlainFunction → Type 0
HasFunction program None = Unit {0}
HasFunction program (Some f) = (plain : ℕ → Bool) × IsApplicable (known_in plain program) f

-- the body is one of the program
abbrev pub IsKnown : ProgramView → TaskBody → Type 0
IsKnown program (TaskBody.Script b) = IsBodyOf program (kernel b.term)
IsKnown program (TaskBody.System t) = HasFunction program (function_of (table_body t))

abbrev pub AreKnown : ProgramView → (ℕ → Option Task) → Type 0
AreKnown program tasks = (t : ℕ) (x : Task) → tasks t ≡ Some x → IsKnown program x.body

-- who waits stands at an operation
abbrev pub WaitsAt : Mode → At → Type 0
WaitsAt Mode.Running a = Unit {0}
WaitsAt (Mode.Waiting w) a = is_at_op a ≡ true
WaitsAt Mode.Over a = Unit {0}

abbrev pub IsFilling : Task → Type 0
IsFilling x = WaitsAt x.mode (body_at (task_body x.body))

abbrev pub AreFilling : (ℕ → Option Task) → Type 0
AreFilling tasks = (t : ℕ) (x : Task) → tasks t ≡ Some x → IsFilling x

pub record IsSceneOf (program : ProgramView) (s : Scene) : Type 0 where
  pub scene : IsScene s
  pub known : AreKnown program (task_at s)
  pub fills : AreFilling (task_at s)

-- what holds of the tasks of a scene
pub record AreTasksOf (program : ProgramView) (tasks : ℕ → Option Task) : Type 0 where
  pub shown : TasksAreShown tasks
  pub known : AreKnown program tasks
  pub fills : AreFilling tasks
