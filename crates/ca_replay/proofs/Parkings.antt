-- A task that parks.
use Rattle.std.proofs.Common.{◌≡◌, ℕ, List, refl, sym, ap, ◌∙◌, subst, Option, Some, None, option_map, Bool, true, false, cond, eqb, nat_eq}
use Rattle.std.specs.Map.{update}
use Rattle.indexmap.specs.IndexMap.{get}
use Rattle.ca_term.specs.Event.{BranchView, parked}
use Rattle.ca_term.specs.Program.{ProgramView}
use Rattle.ca_meaning.specs.State.{State, Task, Tasks, waiting}
use Rattle.ca_meaning.specs.Steps.{Step}
use Rattle.ca_meaning.specs.Wait.{is_among}
use Rattle.ca_scene.specs.declared.scene.Scene.{Scene}
use Rattle.ca_scene.specs.declared.task.Task.{Task as TaskCode}
use Rattle.ca_scene.specs.Admits.{admits}
use Rattle.ca_scene.specs.Scene.{scene_state, task_at, task_code_view, tasks_of, IsStandingShown, IsScene}
use Rattle.ca_scene.proofs.Soundly.{admitted}
use Rattle.ca_replay.specs.Changes.{mapped_at}
use Rattle.ca_replay.specs.Goings.{SameButTasks, StandsThere}
use Rattle.ca_replay.specs.Moves.{HaveHomes, with_wait, waiting_on}
use Rattle.ca_replay.specs.SceneOf.{IsKnown, IsFilling, AreTasksOf, IsSceneOf}
use Rattle.ca_replay.proofs.JoinedWaits.{op_homes}
use Rattle.ca_replay.proofs.Kept.{scene_went, stands_in, tasks_kept}

abbrev as_tasks : (ℕ → Option TaskCode) → Tasks
as_tasks f t = option_map task_code_view (f t)

-- a task waits
module _ (w : ℕ) (old new : ℕ → Option TaskCode) (t : ℕ) (is : (q : ℕ) → new q ≡ mapped_at old t (waiting_on w) q) where
  one_task : (y : TaskCode) (x : Task) → Some (task_code_view y) ≡ Some x → task_code_view y ≡ x
  one_task y x e = cc

  parked_task : (o : Option TaskCode) (x : Task) → option_map task_code_view o ≡ Some x → option_map task_code_view (option_map (waiting_on w) o) ≡ Some (record x { mode = waiting w })
  parked_task None x e = absurd (let j : None ≡ Some x = e in cc)
  parked_task (Some y) x e = ap (λ (z : Task). Some (record z { mode = waiting w })) (one_task y x e)

  pub parked_tasks : (x : Task) → as_tasks old t ≡ Some x → as_tasks new ≡ update eqb (as_tasks old) t (Some (record x { mode = waiting w }))
  parked_tasks x e = λ i q. (each q) i where
    each : (q : ℕ) → as_tasks new q ≡ update eqb (as_tasks old) t (Some (record x { mode = waiting w })) q
    each q = ap (option_map task_code_view) (is q) ∙ by (eqb t q) where
      by : (b : Bool) → option_map task_code_view (cond b (option_map (waiting_on w) (old t)) (old q)) ≡ cond b (Some (record x { mode = waiting w })) (as_tasks old q)
      by true = parked_task (old t) x e
      by false = refl

  parked_each : (P : TaskCode → Type 0) → ((x : TaskCode) → old t ≡ Some x → P x → P (waiting_on w x)) → ((q : ℕ) (x : TaskCode) → old q ≡ Some x → P x) → (q : ℕ) (x : TaskCode) → new q ≡ Some x → P x
  parked_each P f all q x e = by (eqb t q) (sym (is q) ∙ e) where
    here : (o : Option TaskCode) → old t ≡ o → option_map (waiting_on w) o ≡ Some x → P x
    here None at e = absurd (let j : None ≡ Some x = e in cc)
    here (Some y) at e = subst P (let j : waiting_on w y ≡ x = cc in j) (f y at (all t y at))

    by : (b : Bool) → cond b (option_map (waiting_on w) (old t)) (old q) ≡ Some x → P x
    by true e = here (old t) refl e
    by false e = all q x e

  pub parked_all : (program : ProgramView) → StandsThere (old t) → AreTasksOf program old → AreTasksOf program new
  parked_all program stands all = record {
    shown = parked_each IsStandingShown (λ x at s. s) all.shown;
    known = parked_each (λ (x : TaskCode). IsKnown program x.body) (λ x at s. s) all.known;
    fills = parked_each IsFilling (λ x at s. subst StandsThere at stands) all.fills;
  }

module _ (s m n : Scene) (t w : ℕ) (bs : List BranchView) (e : admits (scene_state s) (parked t w bs) ≡ true) where
  pub park_new : is_among w (scene_state s).used ≡ false
  park_new = (admitted (scene_state s) (parked t w bs) e).7

  pub park_homes : HaveHomes (scene_state s).channels bs
  park_homes = let a = admitted (scene_state s) (parked t w bs) e in subst (HaveHomes (scene_state s).channels) a.4 (op_homes (scene_state s) a.1 a.2.3)

  module _ (tasks : m.tasks ≡ s.tasks) (went : SameButTasks m n) (is : (q : ℕ) → task_at n q ≡ mapped_at (task_at m) t (waiting_on w) q) where
    pub park_step : (program : ProgramView) → scene_state m ≡ with_wait w (Some t) bs (scene_state s) → Step program (scene_state s) (parked t w bs) (scene_state n)
    park_step program state =
        let a = admitted (scene_state s) (parked t w bs) e in
        let same : tasks_of m ≡ tasks_of s = ap (λ (z : State). z.tasks) state in (
          a.0,
          a.1,
          a.2,
          a.3,
          a.4,
          a.5,
          a.6,
          a.7,
          ap scene_state went
              ∙ ap (λ (z : State). record z { tasks = tasks_of n }) state
              ∙ ap (λ (z : Tasks). record (with_wait w (Some t) bs (scene_state s)) { tasks = z }) (parked_tasks w (task_at m) (task_at n) t is a.0 (ap (λ (f : Tasks). f t) same ∙ a.2.0))
              ∙ ap (λ (z : Tasks). record (with_wait w (Some t) bs (scene_state s)) { tasks = update eqb z t (Some (record a.0 { mode = waiting w })) }) same,
        )

    pub park_scene : (program : ProgramView) → IsScene m → IsSceneOf program s → IsSceneOf program n
    park_scene program scene z =
        let a = admitted (scene_state s) (parked t w bs) e in
        let stands : StandsThere (task_at m t) = subst (λ T. StandsThere (get nat_eq T t)) (sym tasks) (stands_in (task_at s t) a.0 a.1 a.2.0 a.2.2) in
        scene_went program m n scene went (parked_all w (task_at m) (task_at n) t is program stands (tasks_kept program s m z tasks))
