-- A new port in the code is one in the state.
use Rattle.std.proofs.Common.{◌≡◌, ℕ, zero, suc, ◌<◌, [], map, refl, sym, ap, ap₂, ◌∙◌, subst, arith, Option, Some, None, option_map, Bool, true, false, cond, eqb, eqb-true}
use Rattle.std.specs.Prelude.{unwrap_or}
use Rattle.std.specs.Map.{update}
use Rattle.ca_value.specs.Buffer.{Policy}
use Rattle.ca_value.specs.Tree.{port}
use Rattle.ca_term.specs.declared.event.Side.{Side}
use Rattle.ca_term.specs.declared.event.Side.TheVariants.{Take, Put}
use Rattle.ca_term.specs.Event.{made}
use Rattle.ca_term.specs.Operation.{WhatView, making}
use Rattle.ca_term.specs.Program.{ProgramView}
use Rattle.ca_meaning.specs.Channel.{Channel, channel_made, new_channel, with_buffer}
use Rattle.ca_meaning.specs.Registry.{Registry, registry_made}
use Rattle.ca_meaning.specs.State.{State, Channels}
use Rattle.ca_meaning.specs.Steps.{Step}
use Rattle.ca_meaning.specs.TaskSteps.{IsMoment, with_deadline}
use Rattle.ca_registry.specs.declared.registry.Registry.{Registry as RegistryCode}
use Rattle.ca_registry.specs.Registry.{registry_view}
use Rattle.ca_scene.specs.declared.room.Room.{Room}
use Rattle.ca_scene.specs.declared.scene.Scene.{Scene}
use Rattle.ca_scene.specs.Admits.{admits}
use Rattle.ca_scene.specs.Scene.{firsts, handler_code_view, queues_at, scene_registry, room_at, room_channel, room_queue, scene_state, task_at, tasks_of, waits_in}
use Rattle.ca_scene.proofs.Soundly.{admitted}
use Rattle.ca_replay.specs.Changes.{IsUnattended, PutsChannel, PutsRegistry, OpensDeadline}
use Rattle.ca_replay.specs.Goings.{TaskGoesOn, SameButTasks, StandsThere}
use Rattle.ca_replay.specs.SceneOf.{IsSceneOf}
use Rattle.ca_replay.proofs.Stepped.{stands_at, went_state}

-- a buffer of at least one value
pub with_some : (policy : Policy) (n : ℕ) → 0 < n → with_buffer policy n ≡ new_channel policy n
with_some policy zero lt = absurd (omega (arith, lt))
with_some policy (suc n) lt = refl

-- what is put in is seen through a view
pub viewed : {A B : Type 0} (f : A → B) (m new : ℕ → Option A) (p : ℕ) (x : A) → ((q : ℕ) → new q ≡ update eqb m p (Some x) q) → (λ q. option_map f (new q)) ≡ update eqb (λ q. option_map f (m q)) p (Some (f x))
viewed {A} {B} f m new p x is = λ i q. (each q) i where
  each : (q : ℕ) → option_map f (new q) ≡ update eqb (λ q. option_map f (m q)) p (Some (f x)) q
  each q = ap (option_map f) (is q) ∙ by (eqb p q) where
    by : (b : Bool) → option_map f (cond b (Some x) (m q)) ≡ cond b (Some (f x)) (option_map f (m q))
    by true = refl
    by false = refl

no_room : (o : Option Room) → option_map room_channel o ≡ None → o ≡ None
no_room None e = refl
no_room (Some r) e = absurd (let k : Some (room_channel r) ≡ None = e in cc)

module _ (s n : Scene) (p : ℕ) (r : Room) (same : n ≡ record s { rooms = n.rooms }) (is : (q : ℕ) → room_at n q ≡ update eqb (room_at s) p (Some r) q) where
  pub put_room_state : PutsChannel (scene_state s) p (Some (room_channel r)) (scene_state n)
  put_room_state = ap scene_state same ∙ ap (λ (c : Channels). record (scene_state s) { channels = c }) (viewed room_channel (room_at s) (room_at n) p r is)

  empty_queue : IsUnattended r → (side : Side) → room_queue side r ≡ []
  empty_queue e Take = ap (map handler_code_view) e.0
  empty_queue e Put = ap (map handler_code_view) e.1

  pub put_room_scene : (scene_state s).channels p ≡ None → IsUnattended r → (program : ProgramView) → IsSceneOf program s → IsSceneOf program n
  put_room_scene new empty program x = subst (IsSceneOf program) (sym same) (record {
    scene = record { shown = x.scene.shown; queued = queued; distinct = x.scene.distinct };
    known = x.known;
    fills = x.fills;
  }) where
    queued : (side : Side) (q : ℕ) → queues_at side (room_at n q) ≡ firsts side q (waits_in s.waits.entries)
    queued side q = ap (queues_at side) (is q) ∙ by (eqb p q) refl ∙ x.scene.queued side q where
      by : (b : Bool) → eqb p q ≡ b → queues_at side (cond b (Some r) (room_at s q)) ≡ queues_at side (room_at s q)
      by true e = empty_queue empty side ∙ ap (queues_at side) (sym (no_room (room_at s p) new)) ∙ ap (λ k. queues_at side (room_at s k)) (eqb-true p q e)
      by false e = refl

-- where nothing is made, nothing changes
nothing_put : {B : Type 0} (m : ℕ → Option B) (p : ℕ) → m p ≡ None → m ≡ update eqb m p None
nothing_put {B} m p e = λ i q. (each q) i where
  each : (q : ℕ) → m q ≡ update eqb m p None q
  each q = by (eqb p q) refl where
    by : (b : Bool) → eqb p q ≡ b → m q ≡ cond b None (m q)
    by true is = ap m (sym (eqb-true p q is)) ∙ e
    by false is = refl

pub no_channel_put : (z : State) (p : ℕ) → z.channels p ≡ None → PutsChannel z p None z
no_channel_put z p e = ap (λ (c : Channels). record z { channels = c }) (nothing_put z.channels p e)

pub no_registry_put : (z : State) (p : ℕ) → z.registries p ≡ None → PutsRegistry z p None z
no_registry_put z p e = ap (λ (r : ℕ → Option Registry). record z { registries = r }) (nothing_put z.registries p e)

module _ (s n : Scene) (same : n ≡ record s { registries = n.registries }) where
  pub put_registry_state : (p : ℕ) (r : RegistryCode) → ((q : ℕ) → scene_registry n q ≡ update eqb (scene_registry s) p (Some r) q) → PutsRegistry (scene_state s) p (Some (registry_view r)) (scene_state n)
  put_registry_state p r is = ap scene_state same ∙ ap (λ (z : ℕ → Option Registry). record (scene_state s) { registries = z }) (viewed registry_view (scene_registry s) (scene_registry n) p r is)

  pub registries_scene : (program : ProgramView) → IsSceneOf program s → IsSceneOf program n
  registries_scene program x = subst (IsSceneOf program) (sym same) (record {
    scene = record { shown = x.scene.shown; queued = x.scene.queued; distinct = x.scene.distinct };
    known = x.known;
    fills = x.fills;
  })

module _ (s n : Scene) (same : n ≡ record s { timers = n.timers }) where
  pub timers_scene : (program : ProgramView) → IsSceneOf program s → IsSceneOf program n
  timers_scene program x = subst (IsSceneOf program) (sym same) (record {
    scene = record { shown = x.scene.shown; queued = x.scene.queued; distinct = x.scene.distinct };
    known = x.known;
    fills = x.fills;
  })

  pub timed_state : (p : ℕ) (what : WhatView) (m : Option ℕ) → n.timers.deadlines ≡ with_deadline p what (unwrap_or m s.timers.moment) s.timers.deadlines → n.timers.moment ≡ unwrap_or m s.timers.moment → OpensDeadline (scene_state s) p what m (scene_state n)
  timed_state p what m d t = ap scene_state same ∙ ap₂ (λ ds k. record (scene_state s) { deadlines = ds; now = k }) d t

pub make_stands : (s : Scene) (t p : ℕ) (what : WhatView) (m : Option ℕ) → admits (scene_state s) (made t p what m) ≡ true → StandsThere (task_at s t)
make_stands s t p what m e = let a = admitted (scene_state s) (made t p what m) e in stands_at s t (making what) a.0 a.1

module _ (s n : Scene) (t : ℕ) (went : SameButTasks s n) (p : ℕ) (what : WhatView) (m : Option ℕ) (e : admits (scene_state s) (made t p what m) ≡ true) where
  pub no_channel_there : (scene_state n).channels p ≡ None
  no_channel_there = ap (λ (z : State). z.channels p) (went_state s n went) ∙ (admitted (scene_state s) (made t p what m) e).2

  module _ (c : Option Channel) (s2 : State) (puts : PutsChannel (scene_state n) p c s2) where
    pub no_registry_there : s2.registries p ≡ None
    no_registry_there = ap (λ (z : State). z.registries p) puts ∙ ap (λ (z : State). z.registries p) (went_state s n went) ∙ (admitted (scene_state s) (made t p what m) e).3

    module _ (r : Option Registry) (s3 : State) (enters : PutsRegistry s2 p r s3) where
      pub moment_there : IsMoment s3.now what m
      moment_there = subst (λ k. IsMoment k what m) (sym (ap (λ (z : State). z.now) enters ∙ ap (λ (z : State). z.now) puts ∙ ap (λ (z : State). z.now) (went_state s n went))) (admitted (scene_state s) (made t p what m) e).4

      abbrev timed : State → State
      timed z = record z { deadlines = with_deadline p what (unwrap_or m z.now) z.deadlines; now = unwrap_or m z.now }

      abbrev entered : Option Registry → State → State
      entered o z = timed (record z { registries = update eqb z.registries p o })

      abbrev built : Option Channel → Option Registry → State → State
      built k o z = entered o (record z { channels = update eqb z.channels p k })

      pub make_step : (program : ProgramView) (s4 : State) → c ≡ channel_made what → r ≡ registry_made what → OpensDeadline s3 p what m s4 → TaskGoesOn program (tasks_of s) t (port p) (tasks_of n) → Step program (scene_state s) (made t p what m) s4
      make_step program s4 ce re times goes =
          let a = admitted (scene_state s) (made t p what m) e in (
            a.0,
            tasks_of n,
            a.1,
            a.2,
            a.3,
            a.4,
            goes a.0 a.1.0,
            times ∙ ap timed enters ∙ ap (entered r) puts ∙ ap (built c r) (went_state s n went) ∙ ap₂ (λ k o. built k o (record (scene_state s) { tasks = tasks_of n })) ce re,
          )
