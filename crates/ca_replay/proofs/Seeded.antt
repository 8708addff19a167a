-- A task that the code starts is one that the state has.
use Rattle.std.proofs.Common.{◌≡◌, ℕ, suc, ◌+◌, List, [], ◌∷◌, ◌++◌, map, length, length-append, refl, sym, ap, ap₂, ◌∙◌, subst, arith, Option, Some, None, option_map, Bool, true, false, cond, eqb}
use Rattle.std.proofs.lemmas.List.{length-map}
use Rattle.std.specs.Map.{update}
use Rattle.ca_value.specs.Tree.{Tree, nil, trees_of}
use Rattle.ca_value.specs.View.{view, views, trees}
use Rattle.ca_value.specs.declared.value.Value.{Value}
use Rattle.ca_term.specs.declared.event.TaskKind.{TaskKind}
use Rattle.ca_term.specs.Event.{port_number, spawned as spawned_by}
use Rattle.ca_term.specs.Operation.{OpView, SeedView, spawning}
use Rattle.ca_term.specs.Program.{ProgramView}
use Rattle.ca_meaning.specs.Body.{BodyView, new_body}
use Rattle.ca_meaning.specs.Going.{IsAtOp, RunsAtOperation}
use Rattle.ca_meaning.specs.Operands.{values_in}
use Rattle.ca_meaning.specs.Started.{procedure_at, started}
use Rattle.ca_meaning.specs.State.{State, Task, Tasks, Mode, runs}
use Rattle.ca_meaning.specs.Steps.{Step}
use Rattle.ca_meaning.specs.Task.{BodyRest, body_at, new_task, script}
use Rattle.ca_scene.specs.declared.scene.Scene.{Scene}
use Rattle.ca_scene.specs.declared.task.Mode.{Mode as ModeCode}
use Rattle.ca_scene.specs.declared.task.Task.{Task as TaskCode}
use Rattle.ca_scene.specs.Admits.{admits, asked_by, asked_in, op_of}
use Rattle.ca_scene.specs.Scene.{IsScene, IsStandingShown, mode_view, scene_state, task_at, task_body, task_code_view, tasks_of}
use Rattle.ca_scene.proofs.Soundly.{admitted}
use Rattle.ca_replay.specs.Goings.{TaskGoesOn, IsRested, SameButTasks, StandsThere}
use Rattle.ca_replay.specs.SceneOf.{AreKnown, IsFilling, IsKnown, IsSceneOf, WaitsAt}
use Rattle.ca_replay.specs.Seeds.{IsSeedOf}
use Rattle.ca_replay.proofs.Made.{viewed}
use Rattle.ca_replay.proofs.Spawned.{seed_known}
use Rattle.ca_replay.proofs.Stepped.{stands_at, went_state}

-- the values and the result port of a go block
values_back : (ts : List Tree) → values_in (trees_of ts) ≡ ts
values_back [] = refl
values_back (t ∷ ts) = ap (λ us. t ∷ us) (values_back ts)

views_more : (xs : List Value) (v : Value) → views (xs ++ v ∷ []) ≡ views xs ++ view v ∷ []
views_more [] v = refl
views_more (x ∷ xs) v = ap (λ ts. view x ∷ ts) (views_more xs v)

values_pushed : (xs ys zs : List Value) (v : Value) → zs ≡ ys ++ v ∷ [] → ys ≡ xs → views zs ≡ values_in (trees xs) ++ view v ∷ []
values_pushed xs ys zs v e f = ap views (e ∙ ap (λ us. us ++ v ∷ []) f) ∙ views_more xs v ∙ ap (λ ts. ts ++ view v ∷ []) (sym (values_back (map view xs)))

pub go_count : (program : ProgramView) (n k : ℕ) (xs ys zs : List Value) (v : Value) → zs ≡ ys ++ v ∷ [] → ys ≡ xs → suc (length (values_in (trees xs))) ≡ k → length zs ≡ k
go_count program n k xs ys zs v e f has =
    let many : length zs ≡ length xs + 1 = ap (λ (z : List Value). length z) e ∙ length-append ys (v ∷ []) ∙ ap (λ (z : List Value). length z + 1) f in
    let all : length (values_in (trees xs)) ≡ length xs = ap (λ (z : List Tree). length z) (values_back (map view xs)) ∙ length-map xs view in
    omega (arith, many, all, has)

pub go_begins : (program : ProgramView) (n : ℕ) (xs ys zs : List Value) (v : Value) (b : BodyView) → zs ≡ ys ++ v ∷ [] → ys ≡ xs → b ≡ new_body (started (procedure_at program.bodies n) (views zs)) → script b ≡ script (new_body (started (procedure_at program.bodies n) (values_in (trees xs) ++ view v ∷ [])))
go_begins program n xs ys zs v b e f made = ap script (made ∙ ap (λ us. new_body (started (procedure_at program.bodies n) us)) (values_pushed xs ys zs v e f))

one_task : (y : TaskCode) (x : Task) → Some (task_code_view y) ≡ Some x → task_code_view y ≡ x
one_task y x e = cc

one_code : (x y : TaskCode) → Some x ≡ Some y → x ≡ y
one_code x y e = cc

seed_once : (a b : SeedView) → Some (spawning a) ≡ Some (spawning b) → a ≡ b
seed_once a b e = cc

-- what a task that stands there asks for
asked_there : (s : State) (t : ℕ) (op : OpView) (x : Task) → RunsAtOperation s t op x → asked_by (s.tasks t) ≡ Some op
asked_there s t op x st = ap asked_by st.0 ∙ ap (λ m. asked_in m x.body) st.1 ∙ ap op_of st.2.1

module _ (s : Scene) (t u : ℕ) (kind : TaskKind) (result : Option ℕ) (e : admits (scene_state s) (spawned_by t u kind result) ≡ true) where
  pub spawn_stands : StandsThere (task_at s t)
  spawn_stands = let a = admitted (scene_state s) (spawned_by t u kind result) e in stands_at s t (spawning a.1) a.0 a.2

  pub spawn_asked : (seed : SeedView) × (asked_by (tasks_of s t) ≡ Some (spawning seed))
  spawn_asked = let a = admitted (scene_state s) (spawned_by t u kind result) e in (a.1, asked_there (scene_state s) t (spawning a.1) a.0 a.2)

  module _ (program : ProgramView) (seed : SeedView) (asks : asked_by (tasks_of s t) ≡ Some (spawning seed)) where
    same_seed : (admitted (scene_state s) (spawned_by t u kind result) e).1 ≡ seed
    same_seed = let a = admitted (scene_state s) (spawned_by t u kind result) e in seed_once a.1 seed (sym (asked_there (scene_state s) t (spawning a.1) a.0 a.2) ∙ asks)

    pub spawn_seed : AreKnown program (task_at s) → IsSeedOf program seed
    spawn_seed known =
        let a = admitted (scene_state s) (spawned_by t u kind result) e in
        subst (IsSeedOf program) same_seed (by (task_at s t) refl a.0 a.2.0 a.1 a.2.2) where
          by : (o : Option TaskCode) → task_at s t ≡ o → (x : Task) → option_map task_code_view o ≡ Some x → (z : SeedView) → IsAtOp x.body (spawning z) → IsSeedOf program z
          by None at x is z st = absurd (let k : None ≡ Some x = is in cc)
          by (Some y) at x is z st = seed_known program y.body z (known t y at) (subst (λ (w : Task). IsAtOp w.body (spawning z)) (sym (one_task y x is)) st)

    module _ (n f : Scene) (went : SameButTasks s n) (new : TaskCode) (same : f ≡ record n { tasks = f.tasks }) (is : (q : ℕ) → task_at f q ≡ update eqb (task_at n) u (Some new) q) (rested : IsRested program (new_task program seed) new) where
      view_of : option_map port_number new.result ≡ result → task_code_view new ≡ runs result (task_body new.body)
      view_of r = ap₂ (λ (a : Option ℕ) (m : Mode). record { result = a; body = task_body new.body; mode = m }) r (ap mode_view rested.runs)

      pub spawn_step : option_map port_number new.result ≡ result → TaskGoesOn program (tasks_of s) t nil (tasks_of n) → Step program (scene_state s) (spawned_by t u kind result) (scene_state f)
      spawn_step r goes =
          let a = admitted (scene_state s) (spawned_by t u kind result) e in (
            a.0,
            a.1,
            tasks_of n,
            task_body new.body,
            a.2,
            a.3,
            a.4,
            a.5,
            goes a.0 a.2.0,
            subst (λ (z : SeedView). BodyRest program (new_task program z) (task_body new.body)) (sym same_seed) rested.rests,
            ap scene_state same ∙ ap (λ (z : State). record z { tasks = tasks_of f }) (went_state s n went)
                ∙ ap (λ (z : Tasks). record (scene_state s) { tasks = z }) (viewed task_code_view (task_at n) (task_at f) u new is ∙ ap (λ (x : Task). update eqb (tasks_of n) u (Some x)) (view_of r)),
          )

      each_of : (Q : TaskCode → Type 0) → Q new → ((q : ℕ) (x : TaskCode) → task_at n q ≡ Some x → Q x) → (q : ℕ) (x : TaskCode) → task_at f q ≡ Some x → Q x
      each_of Q here all q x at = by (eqb u q) (sym (is q) ∙ at) where
        by : (b : Bool) → cond b (Some new) (task_at n q) ≡ Some x → Q x
        by true k = subst Q (one_code new x k) here
        by false k = all q x k

      pub spawn_scene : IsSceneOf program n → IsSceneOf program f
      spawn_scene x = record {
        scene = subst IsScene (sym same) (record { shown = each_of IsStandingShown rested.shown x.scene.shown; queued = x.scene.queued; distinct = x.scene.distinct });
        known = each_of (λ y. IsKnown program y.body) rested.known x.known;
        fills = each_of IsFilling (subst (λ (m : ModeCode). WaitsAt m (body_at (task_body new.body))) (sym rested.runs) tt) x.fills;
      }
