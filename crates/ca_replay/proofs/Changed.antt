-- What small changes of tasks and channels are in the state.
use Rattle.std.proofs.Common.{◌≡◌, ℕ, ◌+◌, ◌<◌, List, ◌∷◌, length, get_or, refl, sym, ap, ◌∙◌, subst, Option, Some, None, option_map, Bool, true, false, cond, eqb, eqb-true, map, drop, drop-cons, add-one}
use Rattle.ca_value.specs.declared.value.PortId.{PortId}
use Rattle.ca_term.specs.Event.{port_number}
use Rattle.std.specs.Map.{update}
use Rattle.ca_term.specs.declared.event.Side.{Side}
use Rattle.ca_term.specs.declared.event.Side.TheVariants.{Take, Put}
use Rattle.ca_term.specs.Program.{ProgramView}
use Rattle.ca_meaning.specs.Channel.{shut}
use Rattle.ca_meaning.specs.State.{State, Tasks, Channels, shut_at, shut_all}
use Rattle.ca_meaning.specs.Wait.{Wait}
use Rattle.ca_scene.specs.declared.room.Room.{Room}
use Rattle.ca_scene.specs.declared.scene.Scene.{Scene}
use Rattle.ca_scene.specs.declared.task.Task.{Task as TaskCode}
use Rattle.ca_scene.specs.Scene.{IsQueued, IsScene, IsStandingShown, queues_at, room_at, room_channel, scene_state, task_at, task_code_view, waits_in}
use Rattle.ca_replay.specs.Changes.{mapped_at, room_closed, finished, finished_task, Finishes, Shuts}
use Rattle.ca_replay.specs.SceneOf.{IsFilling, IsKnown, IsSceneOf}
use Rattle.ca_replay.proofs.Went.{as_tasks}

-- a task is over
module _ (s n : Scene) (t : ℕ) (same : n ≡ record s { tasks = n.tasks }) (is : (q : ℕ) → task_at n q ≡ mapped_at (task_at s) t finished q) where
  over_one : (o : Option TaskCode) → option_map task_code_view (option_map finished o) ≡ option_map finished_task (option_map task_code_view o)
  over_one None = refl
  over_one (Some x) = refl

  over_tasks : as_tasks (task_at n) ≡ update eqb (as_tasks (task_at s)) t (option_map finished_task (as_tasks (task_at s) t))
  over_tasks = λ i q. (each q) i where
    each : (q : ℕ) → as_tasks (task_at n) q ≡ update eqb (as_tasks (task_at s)) t (option_map finished_task (as_tasks (task_at s) t)) q
    each q = ap (option_map task_code_view) (is q) ∙ by (eqb t q) where
      by : (b : Bool) → option_map task_code_view (cond b (option_map finished (task_at s t)) (task_at s q)) ≡ cond b (option_map finished_task (as_tasks (task_at s) t)) (as_tasks (task_at s) q)
      by true = over_one (task_at s t)
      by false = refl

  pub finished_state : Finishes (scene_state s) t (scene_state n)
  finished_state = ap scene_state same ∙ ap (λ (z : Tasks). record (scene_state s) { tasks = z }) over_tasks

  kept_each : (P : TaskCode → Type 0) → ((x : TaskCode) → P x → P (finished x)) → ((q : ℕ) (x : TaskCode) → task_at s q ≡ Some x → P x) → (q : ℕ) (x : TaskCode) → task_at n q ≡ Some x → P x
  kept_each P f all q x e = by (eqb t q) (sym (is q) ∙ e) where
    here : (o : Option TaskCode) → task_at s t ≡ o → option_map finished o ≡ Some x → P x
    here None at e = absurd (let j : None ≡ Some x = e in cc)
    here (Some y) at e = subst P (let j : finished y ≡ x = cc in j) (f y (all t y at))

    by : (b : Bool) → cond b (option_map finished (task_at s t)) (task_at s q) ≡ Some x → P x
    by true e = here (task_at s t) refl e
    by false e = all q x e

  pub finished_scene : (program : ProgramView) → IsSceneOf program s → IsSceneOf program n
  finished_scene program x = record {
    scene = subst IsScene (sym same) (record { shown = kept_each IsStandingShown (λ y h. h) x.scene.shown; queued = x.scene.queued; distinct = x.scene.distinct });
    known = kept_each (λ y. IsKnown program y.body) (λ y h. h) x.known;
    fills = kept_each IsFilling (λ y h. tt) x.fills;
  }

-- a channel is closed
module _ (s n : Scene) (p : ℕ) (same : n ≡ record s { rooms = n.rooms }) (is : (q : ℕ) → room_at n q ≡ mapped_at (room_at s) p room_closed q) where
  shut_channels : (λ q. option_map room_channel (room_at n q)) ≡ shut_at p (λ q. option_map room_channel (room_at s q))
  shut_channels = λ i q. (each q) i where
    each : (q : ℕ) → option_map room_channel (room_at n q) ≡ shut_at p (λ r. option_map room_channel (room_at s r)) q
    each q = ap (option_map room_channel) (is q) ∙ by (eqb p q) where
      one : (o : Option Room) → option_map room_channel (option_map room_closed o) ≡ option_map shut (option_map room_channel o)
      one None = refl
      one (Some r) = refl

      by : (b : Bool) → option_map room_channel (cond b (option_map room_closed (room_at s p)) (room_at s q)) ≡ cond b (option_map shut (option_map room_channel (room_at s p))) (option_map room_channel (room_at s q))
      by true = one (room_at s p)
      by false = refl

  pub shut_state : Shuts (scene_state s) p (scene_state n)
  shut_state = ap scene_state same ∙ ap (λ (c : Channels). record (scene_state s) { channels = c }) shut_channels

  shut_queued : (ws : List Wait) → IsQueued (room_at s) ws → IsQueued (room_at n) ws
  shut_queued ws queued side q = ap (queues_at side) (is q) ∙ by (eqb p q) refl ∙ queued side q where
    one : (side : Side) (o : Option Room) → queues_at side (option_map room_closed o) ≡ queues_at side o
    one side None = refl
    one Take (Some r) = refl
    one Put (Some r) = refl

    by : (b : Bool) → eqb p q ≡ b → queues_at side (cond b (option_map room_closed (room_at s p)) (room_at s q)) ≡ queues_at side (room_at s q)
    by true e = one side (room_at s p) ∙ ap (λ r. queues_at side (room_at s r)) (eqb-true p q e)
    by false e = refl

  pub shut_scene : (program : ProgramView) → IsSceneOf program s → IsSceneOf program n
  shut_scene program x = subst (IsSceneOf program) (sym same) (record {
    scene = record { shown = x.scene.shown; queued = shut_queued (waits_in s.waits.entries) x.scene.queued; distinct = x.scene.distinct };
    known = x.known;
    fills = x.fills;
  })

-- one channel more is closed
pub shut_more : (s m : State) (p : ℕ) (ps all : List ℕ) → all ≡ p ∷ ps → Shuts s p m → record m { channels = shut_all ps m.channels } ≡ record s { channels = shut_all all s.channels }
shut_more s m p ps all is e = ap (λ (z : State). record z { channels = shut_all ps z.channels }) e ∙ ap (λ (z : List ℕ). record s { channels = shut_all z s.channels }) (sym is)

-- the ports from a place on
pub drop_port : (xs : List PortId) (i : ℕ) (d : PortId) → i < length xs → map port_number (drop i xs) ≡ (get_or xs i d).n ∷ map port_number (drop (i + 1) xs)
drop_port xs i d lt = let e : drop i xs ≡ get_or xs i d ∷ drop (i + 1) xs = rw (add-one, drop-cons xs i d) refl in ap (λ (z : List PortId). map port_number z) e
