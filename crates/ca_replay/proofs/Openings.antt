-- The state in which a program's runs begin.
use Rattle.std.proofs.Common.{◌≡◌, ℕ, List, [], refl, sym, ap, ap₂, ◌∙◌, subst, Option, Some, None, option_map, Bool, true, false, cond, eqb, nat_eq, Result, Ok, Err, IfOk}
use Rattle.std.specs.Map.{update}
use Rattle.indexmap.specs.IndexMap.{Updates}
use Rattle.ca_value.specs.declared.memory.OutOfMemory.{OutOfMemory}
use Rattle.ca_term.specs.Event.{port_number}
use Rattle.ca_term.specs.Program.{ProgramView}
use Rattle.ca_meaning.specs.Body.{new_body}
use Rattle.ca_meaning.specs.Registry.{Registry}
use Rattle.ca_meaning.specs.Task.{script, body_at}
use Rattle.ca_meaning.specs.State.{Task, Tasks, Channels, Mode, Deadline, Opening, opening_state, runs}
use Rattle.ca_registry.specs.Registry.{registry_view}
use Rattle.ca_scene.specs.declared.scene.Scene.{Scene}
use Rattle.ca_scene.specs.declared.task.Mode.{Mode as ModeCode}
use Rattle.ca_scene.specs.declared.task.Task.{Task as TaskCode}
use Rattle.ca_scene.specs.Scene.{scene_state, task_at, tasks_of, task_body, task_code_view, mode_view, room_at, room_channel, scene_registry, waits_in, used_from, IsScene, IsStandingShown}
use Rattle.ca_replay.specs.Goings.{IsRested}
use Rattle.ca_replay.specs.SceneOf.{IsSceneOf, IsKnown, AreKnown, WaitsAt, IsFilling, AreFilling}

running_fills : (x : TaskCode) → x.mode ≡ ModeCode.Running → IsFilling x
running_fills x e = by x.mode e where
  by : (m : ModeCode) → m ≡ ModeCode.Running → WaitsAt m (body_at (task_body x.body))
  by ModeCode.Running e = tt
  by (ModeCode.Waiting w) e = absurd cc
  by ModeCode.Over e = tt

only_one : (B : TaskCode → Type 0) (s : Scene) (x : TaskCode) → ((t : ℕ) → task_at s t ≡ update eqb (λ q. None) 0 (Some x) t) → B x → (t : ℕ) (y : TaskCode) → task_at s t ≡ Some y → B y
only_one B s x tasks b t y e = by (eqb 0 t) (sym (tasks t) ∙ e) where
  by : (c : Bool) → cond c (Some x) None ≡ Some y → B y
  by true e = subst B (let j : x ≡ y = cc in j) b
  by false e = absurd (let j : None ≡ Some y = e in cc)

-- with one task more a scene stays one
pub first_scene : (s n : Scene) (x : TaskCode) → IsScene s → Updates nat_eq s.tasks n.tasks 0 (Some x) → IsStandingShown x → IsScene (record s { tasks = n.tasks })
first_scene s n x scene u told = record { shown = λ t y e. by t y (nat_eq 0 t) (sym (u.0 t) ∙ e); queued = scene.queued; distinct = scene.distinct } where
  by : (t : ℕ) (y : TaskCode) (c : Bool) → cond c (Some x) (task_at s t) ≡ Some y → IsStandingShown y
  by t y true e = subst IsStandingShown (let j : x ≡ y = cc in j) told
  by t y false e = scene.shown t y e

module _ (P : ProgramView) (s : Scene) (x : TaskCode) (tasks : (t : ℕ) → task_at s t ≡ update eqb (λ q. None) 0 (Some x) t) where
  pub known_first : IsKnown P x.body → AreKnown P (task_at s)
  known_first k = only_one (λ (y : TaskCode). IsKnown P y.body) s x tasks k

  pub fills_first : x.mode ≡ ModeCode.Running → AreFilling (task_at s)
  fills_first m = only_one IsFilling s x tasks (running_fills x m)

  first_task : x.mode ≡ ModeCode.Running → x.result ≡ None → task_code_view x ≡ runs None (task_body x.body)
  first_task m r = ap₂ (λ (a : Option ℕ) (b : Mode). record { result = a; body = task_body x.body; mode = b }) (ap (option_map port_number) r) (ap mode_view m)

  one_task : x.mode ≡ ModeCode.Running → x.result ≡ None → tasks_of s ≡ (opening_state (task_body x.body)).tasks
  one_task m r = λ i q. (each q) i where
    each : (q : ℕ) → tasks_of s q ≡ (opening_state (task_body x.body)).tasks q
    each q = ap (option_map task_code_view) (tasks q) ∙ by (eqb 0 q) where
      by : (b : Bool) → option_map task_code_view (cond b (Some x) None) ≡ cond b (Some (runs None (task_body x.body))) None
      by true = ap (λ (z : Task). Some z) (first_task m r)
      by false = refl

  no_channels : ((p : ℕ) → room_at s p ≡ None) → (scene_state s).channels ≡ (λ n. None)
  no_channels rooms = λ i q. (ap (option_map room_channel) (rooms q)) i

  no_registries : ((p : ℕ) → scene_registry s p ≡ None) → (scene_state s).registries ≡ (λ n. None)
  no_registries rs = λ i q. (ap (option_map registry_view) (rs q)) i

  pub opens : IsRested P (script (new_body P.main)) x → x.result ≡ None → ((p : ℕ) → room_at s p ≡ None) → ((p : ℕ) → scene_registry s p ≡ None) → s.waits.entries ≡ [] → s.timers.deadlines ≡ [] → s.timers.moment ≡ 0 → Opening P (scene_state s)
  opens rested r rooms registries waits deadlines moment = (
    task_body x.body,
    rested.rests,
    ap₂ (λ (z : Tasks) (c : Channels). record (scene_state s) { tasks = z; channels = c }) (one_task rested.runs r) (no_channels rooms)
        ∙ ap (λ (f : ℕ → Option Registry). record (opening_state (task_body x.body)) { registries = f; deadlines = s.timers.deadlines; now = s.timers.moment; waits = waits_in s.waits.entries; used = used_from [] s.waits.entries }) (no_registries registries)
        ∙ ap (λ es. record (opening_state (task_body x.body)) { deadlines = s.timers.deadlines; now = s.timers.moment; waits = waits_in es; used = used_from [] es }) waits
        ∙ ap₂ (λ (ds : List Deadline) (n : ℕ). record (opening_state (task_body x.body)) { deadlines = ds; now = n }) deadlines moment,
  )

-- the scene of the first task, where memory sufficed for it
module _ (P : ProgramView) (x : TaskCode) where
  pub opened_scene : IsRested P (script (new_body P.main)) x → (r : Result Scene OutOfMemory) → IfOk r (λ s. IsScene s) → IfOk r (λ s. (t : ℕ) → task_at s t ≡ update eqb (λ q. None) 0 (Some x) t) → IfOk r (λ s. IsSceneOf P s)
  opened_scene rested (Ok s) scene tasks = record { scene = scene; known = known_first P s x tasks rested.known; fills = fills_first P s x tasks rested.runs }
  opened_scene rested (Err e) scene tasks = tt

  pub opened_opens : IsRested P (script (new_body P.main)) x → x.result ≡ None → (r : Result Scene OutOfMemory) → IfOk r (λ s. (t : ℕ) → task_at s t ≡ update eqb (λ q. None) 0 (Some x) t) → IfOk r (λ s. (p : ℕ) → room_at s p ≡ None) → IfOk r (λ s. (p : ℕ) → scene_registry s p ≡ None) → IfOk r (λ s. s.waits.entries ≡ []) → IfOk r (λ s. s.timers.deadlines ≡ []) → IfOk r (λ s. s.timers.moment ≡ 0) → IfOk r (λ s. Opening P (scene_state s))
  opened_opens rested result (Ok s) tasks rooms registries waits deadlines moment = opens P s x tasks rested result rooms registries waits deadlines moment
  opened_opens rested result (Err e) tasks rooms registries waits deadlines moment = tt
