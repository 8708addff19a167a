-- How a task goes on, as the tasks of a scene show it.
use Rattle.std.specs.Prelude.{◌≡◌, ℕ, Option, Some, None, eqb, true, false}
use Rattle.ca_value.specs.Tree.{Tree}
use Rattle.ca_term.specs.Program.{ProgramView}
use Rattle.ca_meaning.specs.BodyViews.{is_at_op}
use Rattle.ca_meaning.specs.Going.{Goes}
use Rattle.ca_meaning.specs.State.{Task as TaskView, Tasks}
use Rattle.ca_meaning.specs.Task.{body_at, body_fill, BodyRest, TaskBody as Body}
use Rattle.ca_scene.specs.declared.task.Task.{Task}
use Rattle.ca_scene.specs.declared.task.Mode.{Mode}
use Rattle.ca_scene.specs.declared.scene.Scene.{Scene}
use Rattle.ca_scene.specs.Scene.{IsStandingShown, task_body}
use Rattle.ca_replay.specs.SceneOf.{IsKnown}

-- the task is there, and stands at an operation
abbrev pub StandsThere : Option Task → Type 0
StandsThere None = ⊥
StandsThere (Some x) = is_at_op (body_at (task_body x.body)) ≡ true

-- the task runs, and is what the body came to rest as
pub record IsRested (program : ProgramView) (b : Body) (x : Task) : Type 0 where
  pub rests : BodyRest program b (task_body x.body)
  pub runs : x.mode ≡ Mode.Running
  pub shown : IsStandingShown x
  pub known : IsKnown program x.body

-- y is x after the answer
pub record IsAnswered (program : ProgramView) (x : Task) (v : Tree) (y : Task) : Type 0 where
  pub rested : IsRested program (body_fill v (task_body x.body)) y
  pub result : y.result ≡ x.result

abbrev pub TaskWentOn : ProgramView → Option Task → Tree → Option Task → Type 0
TaskWentOn program None v o = ⊥
TaskWentOn program (Some x) v o = (y : Task) × (o ≡ Some y) × IsAnswered program x v y

-- nothing but what stands at k has changed
abbrev pub But : {A : Type 0} → ℕ → (ℕ → Option A) → (ℕ → Option A) → Type 0
But k old new = (q : ℕ) → eqb k q ≡ false → new q ≡ old q

-- the task of that number, whatever it is, goes on
abbrev pub TaskGoesOn : ProgramView → Tasks → ℕ → Tree → Tasks → Type 0
TaskGoesOn program tasks t v after = (x : TaskView) → tasks t ≡ Some x → Goes program tasks t x v after

-- nothing but the tasks has changed
abbrev pub SameButTasks : Scene → Scene → Type 0
SameButTasks old new = new ≡ record old { tasks = new.tasks }
