-- What stays of a scene of a program, and where its tasks stand.
use Rattle.std.proofs.Common.{◌≡◌, ℕ, sym, ap, ◌∙◌, subst, Option, Some, None, option_map, nat_eq}
use Rattle.std.specs.List.{IsDistinct}
use Rattle.indexmap.specs.IndexMap.{get, keys}
use Rattle.ca_term.specs.Operation.{OpView}
use Rattle.ca_term.specs.Program.{ProgramView}
use Rattle.ca_meaning.specs.BodyViews.{is_at_op}
use Rattle.ca_meaning.specs.Going.{RunsAtOperation, IsAtOp}
use Rattle.ca_meaning.specs.State.{Task}
use Rattle.ca_meaning.specs.Task.{body_at}
use Rattle.ca_scene.specs.declared.scene.Scene.{Scene}
use Rattle.ca_scene.specs.declared.task.Task.{Task as TaskCode}
use Rattle.ca_scene.specs.Scene.{scene_state, task_at, room_at, task_code_view, waits_in, IsQueued, IsScene}
use Rattle.ca_replay.specs.Goings.{SameButTasks, StandsThere}
use Rattle.ca_replay.specs.SceneOf.{AreTasksOf, IsSceneOf}

one_task : (x : TaskCode) (y : Task) → Some (task_code_view x) ≡ Some y → task_code_view x ≡ y
one_task x y e = cc

-- a task that stands at an operation in the state does so in the code
pub stands_in : (o : Option TaskCode) (x : Task) (op : OpView) → option_map task_code_view o ≡ Some x → IsAtOp x.body op → StandsThere o
stands_in None x op e a = absurd (let j : None ≡ Some x = e in cc)
stands_in (Some y) x op e a = ap is_at_op (ap (λ (z : Task). body_at z.body) (one_task y x e) ∙ a.1)

pub stands_at : (s : Scene) (t : ℕ) (op : OpView) (x : Task) → RunsAtOperation (scene_state s) t op x → StandsThere (task_at s t)
stands_at s t op x st = stands_in (task_at s t) x op st.0 st.2

pub tasks_there : (program : ProgramView) (s : Scene) → IsSceneOf program s → AreTasksOf program (task_at s)
tasks_there program s z = record { shown = z.scene.shown; known = z.known; fills = z.fills }

pub scene_there : (program : ProgramView) (s : Scene) → AreTasksOf program (task_at s) → IsQueued (room_at s) (waits_in s.waits.entries) → IsDistinct nat_eq (keys s.waits) → IsSceneOf program s
scene_there program s z queued distinct = record { scene = record { shown = z.shown; queued = queued; distinct = distinct }; known = z.known; fills = z.fills }

-- only tasks changed
pub scene_went : (program : ProgramView) (s m : Scene) → IsScene s → SameButTasks s m → AreTasksOf program (task_at m) → IsSceneOf program m
scene_went program s m z same tasks =
    scene_there program m tasks (subst (λ (k : Scene). IsQueued (room_at k) (waits_in k.waits.entries)) (sym same) z.queued) (subst (λ (k : Scene). IsDistinct nat_eq (keys k.waits)) (sym same) z.distinct)

-- tasks are the same
pub tasks_kept : (program : ProgramView) (s m : Scene) → IsSceneOf program s → m.tasks ≡ s.tasks → AreTasksOf program (task_at m)
tasks_kept program s m z e = subst (λ T. AreTasksOf program (λ t. get nat_eq T t)) (sym e) (tasks_there program s z)

pub stands_kept : (s m : Scene) (t : ℕ) → m.tasks ≡ s.tasks → StandsThere (task_at s t) → StandsThere (task_at m t)
stands_kept s m t e z = subst (λ T. StandsThere (get nat_eq T t)) (sym e) z

pub scene_kept : (program : ProgramView) (s m : Scene) → IsSceneOf program s → m.tasks ≡ s.tasks → IsScene m → IsSceneOf program m
scene_kept program s m z e scene = let tasks = tasks_kept program s m z e in record { scene = scene; known = tasks.known; fills = tasks.fills }
