-- A wait that is gone, and its owner that goes on.
use Rattle.std.proofs.Common.{◌≡◌, ℕ, refl, sym, ap, ◌∙◌, subst, Option, Some, None, option_map, nat_eq}
use Rattle.indexmap.specs.IndexMap.{get}
use Rattle.ca_value.specs.Tree.{Tree}
use Rattle.ca_term.specs.Program.{ProgramView}
use Rattle.ca_meaning.specs.Going.{Goes, Wakes}
use Rattle.ca_meaning.specs.State.{State, Task, Tasks, running, waiting, over}
use Rattle.ca_meaning.specs.Task.{body_at, body_reply}
use Rattle.ca_scene.specs.declared.scene.Scene.{Scene}
use Rattle.ca_scene.specs.declared.task.Mode.{Mode as ModeCode}
use Rattle.ca_scene.specs.declared.task.Task.{Task as TaskCode}
use Rattle.ca_scene.specs.Admitted.{Woken}
use Rattle.ca_scene.specs.Scene.{scene_state, mode_view, task_at, task_body, task_code_view, tasks_of}
use Rattle.ca_replay.specs.Goings.{SameButTasks, StandsThere}
use Rattle.ca_replay.specs.Moves.{with_tasks, without_wait}
use Rattle.ca_replay.specs.Replies.{GoesReplied}
use Rattle.ca_replay.specs.SceneOf.{WaitsAt, IsFilling, AreFilling}

one_task : (x : TaskCode) (y : Task) → Some (task_code_view x) ≡ Some y → task_code_view x ≡ y
one_task x y e = cc

-- who waits stands at an operation
waits_filled : (m : ModeCode) (x : TaskCode) (w : ℕ) → x.mode ≡ m → mode_view m ≡ waiting w → IsFilling x → StandsThere (Some x)
waits_filled ModeCode.Running x w is e f = absurd (let j : running ≡ waiting w = e in cc)
waits_filled (ModeCode.Waiting v) x w is e f = subst (λ (k : ModeCode). WaitsAt k (body_at (task_body x.body))) is f
waits_filled ModeCode.Over x w is e f = absurd (let j : over ≡ waiting w = e in cc)

stands_filled : (s : Scene) (u w : ℕ) → AreFilling (task_at s) → Woken (scene_state s) w (Some u) → StandsThere (task_at s u)
stands_filled s u w fills z = by (task_at s u) refl z.1 where
  by : (o : Option TaskCode) → task_at s u ≡ o → option_map task_code_view o ≡ Some z.0 → StandsThere o
  by None is e = absurd (let j : None ≡ Some z.0 = e in cc)
  by (Some y) is e = waits_filled y.mode y w refl (ap (λ (k : Task). k.mode) (one_task y z.0 e) ∙ z.2) (fills u y is)

pub woken_stands : (s : Scene) (u w : ℕ) (q : Option ℕ) → AreFilling (task_at s) → Some u ≡ q → Woken (scene_state s) w q → StandsThere (task_at s u)
woken_stands s u w q fills at k = stands_filled s u w fills (subst (Woken (scene_state s) w) (sym at) k)

module _ (s m : Scene) (tasks : m.tasks ≡ s.tasks) where
  same_tasks : tasks_of m ≡ tasks_of s
  same_tasks = ap (λ T q. option_map task_code_view (get nat_eq T q)) tasks

  pub woken_there : (u w p : ℕ) (a : Tree) (program : ProgramView) (after : Tasks) (o : Option ℕ) → Some u ≡ o → Woken (scene_state s) w o → GoesReplied program (tasks_of m) u p a after → Wakes program o (tasks_of s) w p a after
  woken_there u w p a program after o is z goes = subst (λ (k : Option ℕ). Wakes program k (tasks_of s) w p a after) is (by (subst (Woken (scene_state s) w) (sym is) z)) where
    by : Woken (scene_state s) w (Some u) → Wakes program (Some u) (tasks_of s) w p a after
    by z = (z.0, z.1, z.2, subst (λ (f : Tasks). Goes program f u z.0 (body_reply z.0.body p a) after) same_tasks (goes z.0 (ap (λ (f : Tasks). f u) same_tasks ∙ z.1)))

  pub gone_alone : (w : ℕ) → scene_state m ≡ without_wait w (scene_state s) → scene_state m ≡ with_tasks (tasks_of m) (without_wait w (scene_state s))
  gone_alone w state = state ∙ ap (λ (f : Tasks). with_tasks f (without_wait w (scene_state s))) (sym same_tasks)

  pub unwoken : (w p : ℕ) (a : Tree) (program : ProgramView) (o : Option ℕ) → None ≡ o → Wakes program o (tasks_of s) w p a (tasks_of m)
  unwoken w p a program o e = subst (λ (k : Option ℕ). Wakes program k (tasks_of s) w p a (tasks_of m)) e same_tasks

pub gone_with : (s m n : Scene) (w : ℕ) → scene_state m ≡ without_wait w (scene_state s) → SameButTasks m n → scene_state n ≡ with_tasks (tasks_of n) (without_wait w (scene_state s))
gone_with s m n w state went = ap scene_state went ∙ ap (λ (z : State). with_tasks (tasks_of n) z) state
