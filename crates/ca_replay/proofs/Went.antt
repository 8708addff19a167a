-- A task that went on in the code went on in the state.
use Rattle.std.proofs.Common.{◌≡◌, ℕ, refl, sym, ap, ap₂, ◌∙◌, subst, Option, Some, None, option_map, Bool, true, false, cond, eqb, eqb-true}
use Rattle.std.specs.Map.{update}
use Rattle.ca_value.specs.Tree.{Tree}
use Rattle.ca_term.specs.Event.{port_number}
use Rattle.ca_term.specs.Operation.{OpView}
use Rattle.ca_term.specs.Program.{ProgramView}
use Rattle.ca_meaning.specs.BodyViews.{is_at_op}
use Rattle.ca_meaning.specs.Going.{Goes, IsAtOp}
use Rattle.ca_meaning.specs.State.{Task, Tasks, Mode, runs}
use Rattle.ca_meaning.specs.Task.{body_at}
use Rattle.ca_scene.specs.declared.scene.Scene.{Scene}
use Rattle.ca_scene.specs.declared.task.Mode.{Mode as ModeCode}
use Rattle.ca_scene.specs.declared.task.Task.{Task as TaskCode}
use Rattle.ca_scene.specs.Scene.{IsScene, IsStandingShown, mode_view, task_at, task_body, task_code_view}
use Rattle.ca_replay.specs.Goings.{But, TaskGoesOn, IsAnswered, SameButTasks, StandsThere, TaskWentOn}
use Rattle.ca_replay.specs.SceneOf.{AreTasksOf, IsFilling, IsKnown, IsSceneOf, WaitsAt}

abbrev Codes : Type 0
Codes = ℕ → Option TaskCode

abbrev pub as_tasks : Codes → Tasks
as_tasks f t = option_map task_code_view (f t)

no_task : {G : Type 0} (x : Task) → None ≡ Some x → G
no_task x e = absurd cc

one_task : (x : TaskCode) (y : Task) → Some (task_code_view x) ≡ Some y → task_code_view x ≡ y
one_task x y e = cc

one_code : (x y : TaskCode) → Some x ≡ Some y → x ≡ y
one_code x y e = cc

-- a task that stands at an operation in the state does so in the code
pub stands_there : (f : Codes) (t : ℕ) (x : Task) (op : OpView) → as_tasks f t ≡ Some x → IsAtOp x.body op → StandsThere (f t)
stands_there f t x op is at = by (f t) is where
  by : (o : Option TaskCode) → option_map task_code_view o ≡ Some x → StandsThere o
  by None e = no_task x e
  by (Some y) e = ap is_at_op (ap (λ (z : Task). body_at z.body) (one_task y x e) ∙ at.1)

module _ (program : ProgramView) (old new : Codes) (t : ℕ) (v : Tree) (others : But t old new) where
  view_of : (x y : TaskCode) → y.result ≡ x.result → y.mode ≡ ModeCode.Running → task_code_view y ≡ runs (task_code_view x).result (task_body y.body)
  view_of x y r m = ap₂ (λ (a : Option ℕ) (b : Mode). record { result = a; body = task_body y.body; mode = b }) (ap (option_map port_number) r) (ap mode_view m)

  goes_by : (x y : TaskCode) → old t ≡ Some x → new t ≡ Some y → IsAnswered program x v y → Goes program (as_tasks old) t (task_code_view x) v (as_tasks new)
  goes_by x y at is a = (task_body y.body, a.rested.rests, λ i q. (each q) i) where
    each : (q : ℕ) → as_tasks new q ≡ update eqb (as_tasks old) t (Some (runs (task_code_view x).result (task_body y.body))) q
    each q = here (eqb t q) refl where
      here : (b : Bool) → eqb t q ≡ b → as_tasks new q ≡ cond b (Some (runs (task_code_view x).result (task_body y.body))) (as_tasks old q)
      here true e = ap (as_tasks new) (sym (eqb-true t q e)) ∙ ap (option_map task_code_view) is ∙ ap (λ (z : Task). Some z) (view_of x y a.result a.rested.runs)
      here false e = ap (option_map task_code_view) (others q e)

  pub went_goes : TaskWentOn program (old t) v (new t) → TaskGoesOn program (as_tasks old) t v (as_tasks new)
  went_goes w x is = by (old t) refl is w where
    by : (o : Option TaskCode) → old t ≡ o → option_map task_code_view o ≡ Some x → TaskWentOn program o v (new t) → Goes program (as_tasks old) t x v (as_tasks new)
    by None at e w = no_task x e
    by (Some y) at e w = subst (λ (z : Task). Goes program (as_tasks old) t z v (as_tasks new)) (one_task y x e) (goes_by y w.0 at w.1 w.2)

  -- what holds of each task, and of one that went on
  each_of : (Q : TaskCode → Type 0) → ((x y : TaskCode) → IsAnswered program x v y → Q y) → TaskWentOn program (old t) v (new t) → ((q : ℕ) (x : TaskCode) → old q ≡ Some x → Q x) → (q : ℕ) (x : TaskCode) → new q ≡ Some x → Q x
  each_of Q f w all q x e = by (eqb t q) refl where
    new_one : (o : Option TaskCode) → TaskWentOn program o v (new t) → new t ≡ Some x → Q x
    new_one None w e = absurd w
    new_one (Some z) (y, is, a) e = subst Q (one_code y x (sym is ∙ e)) (f z y a)

    by : (b : Bool) → eqb t q ≡ b → Q x
    by true is = new_one (old t) w (ap new (eqb-true t q is) ∙ e)
    by false is = all q x (sym (others q is) ∙ e)

  pub went_tasks : TaskWentOn program (old t) v (new t) → AreTasksOf program old → AreTasksOf program new
  went_tasks w all = record {
    shown = each_of IsStandingShown (λ x y a. a.rested.shown) w all.shown;
    known = each_of (λ x. IsKnown program x.body) (λ x y a. a.rested.known) w all.known;
    fills = each_of IsFilling (λ x y a. subst (λ m. WaitsAt m (body_at (task_body y.body))) (sym a.rested.runs) tt) w all.fills;
  }

pub tasks_of_scene : (program : ProgramView) (s : Scene) → IsSceneOf program s → AreTasksOf program (task_at s)
tasks_of_scene program s x = record { shown = x.scene.shown; known = x.known; fills = x.fills }

pub scene_kept : (program : ProgramView) (s n : Scene) → SameButTasks s n → AreTasksOf program (task_at n) → IsSceneOf program s → IsSceneOf program n
scene_kept program s n same tasks x = record {
  scene = subst IsScene (sym same) (record { shown = tasks.shown; queued = x.scene.queued; distinct = x.scene.distinct });
  known = tasks.known;
  fills = tasks.fills;
}
