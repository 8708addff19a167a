-- A run goes on exactly where a task runs, a channel completes a wait by itself or a deadline is open.
use Rattle.std.proofs.Common.{◌≡◌, ◌≢◌, ◌↔◌, inl, inr, ℕ, zero, suc, ◌-◌, ◌<◌, ◌≤◌, List, [], ◌∷◌, length, refl, sym, ap, ap₂, ◌∙◌, subst, arith, Bool, true, false, cond, ◌||◌, Option, Some, None, is_some, option_map, slice_get, nat_eq, nat_le, nat_lt, leb-false, filter, map}
use Rattle.std.proofs.lemmas.Bool.{ltb-true, ltb-false}
use Rattle.std.specs.Cmp.{nat_eq_equiv}
use Rattle.std.proofs.lemmas.Map.Entries.{lookup_from_place, place_from_lookup}
use Rattle.indexmap.specs.IndexMap.{IsUnique}
use Rattle.ca_term.specs.declared.event.Side.TheVariants.{Take, Put}
use Rattle.ca_term.specs.Program.{ProgramView}
use Rattle.ca_term.specs.Event.{settled, ticked}
use Rattle.ca_meaning.specs.Body.{nowhere}
use Rattle.ca_meaning.specs.Channel.{Channel}
use Rattle.ca_meaning.specs.Ends.{IsPossible}
use Rattle.ca_meaning.specs.EndsLaw.{IsQuiet}
use Rattle.ca_meaning.specs.Row.{Settling, unsettled, settles, settle_row}
use Rattle.ca_meaning.specs.Sound.{Each, Sound}
use Rattle.ca_meaning.specs.State.{State, Task, Deadline, running, waiting, over, due}
use Rattle.ca_meaning.specs.Task.{body_at}
use Rattle.ca_meaning.specs.TaskSteps.{moments}
use Rattle.ca_meaning.specs.Wait.{front, owner_of}
use Rattle.ca_meaning.proofs.Possible.{has_event, quiet_stuck}
use Rattle.ca_scene.specs.Admits.{settling_at, settling_in}
use Rattle.ca_scene.specs.Admitted.{Woken}
use Rattle.ca_scene.specs.declared.room.Room.{Room}
use Rattle.ca_scene.specs.declared.scene.Scene.{Scene}
use Rattle.ca_scene.specs.declared.task.Mode.{Mode as ModeCode}
use Rattle.ca_scene.specs.declared.task.Standing.{Standing}
use Rattle.ca_scene.specs.declared.task.Task.{Task as TaskCode}
use Rattle.ca_scene.specs.Scene.{scene_state, tasks_of, task_at, task_code_view, mode_view, room_at, room_channel, IsScene, TasksAreShown}
use Rattle.ca_scene.specs.Standing.{shown_at, elsewhere, standing_view}
use Rattle.ca_scene.proofs.Branches.{settling_there}
use Rattle.ca_scene.proofs.Soundly.{step_there}
use Rattle.ca_replay.specs.Possible.{does_settle, is_running, runs_there, settles_there, goes_at, CanGoOn, SomeRuns, SomeSettles}

never : {G : Type 0} → false ≡ true → G
never e = absurd cc

past_end : {A : Type 0} (xs : List A) (k : ℕ) → length xs ≤ k → slice_get xs k ≡ None
past_end [] zero h = refl
past_end [] (suc k) h = refl
past_end (x ∷ xs) zero h = absurd (omega (arith, h))
past_end (x ∷ xs) (suc k) h = past_end xs k (omega (arith, h))

-- tasks
running_code : (m : ModeCode) → mode_view m ≡ running → is_running m ≡ true
running_code ModeCode.Running e = refl
running_code (ModeCode.Waiting w) e = absurd (let k : waiting w ≡ running = e in cc)
running_code ModeCode.Over e = absurd (let k : over ≡ running = e in cc)

running_view : (m : ModeCode) → is_running m ≡ true → mode_view m ≡ running
running_view ModeCode.Running e = refl
running_view (ModeCode.Waiting w) e = never e
running_view ModeCode.Over e = never e

no_task : {G : Type 0} (x : Task) → None ≡ Some x → G
no_task x e = absurd cc

one_task : (y : TaskCode) (x : Task) → Some (task_code_view y) ≡ Some x → task_code_view y ≡ x
one_task y x e = cc

-- a channel's row as its room shows it
settles_not : (s : State) (p : ℕ) → s.channels p ≡ None → does_settle (settling_at s p) ≡ false
settles_not s p e = ap (λ (o : Option Channel). does_settle (settling_in o (front Take p s.waits) (front Put p s.waits))) e

module _ (s : Scene) (scene : IsScene s) where
  -- what stands at a place goes on
  runs_at : IsUnique nat_eq s.tasks → (k : ℕ) (o : Option (ℕ × TaskCode)) → slice_get s.tasks.entries k ≡ o → runs_there o ≡ true → SomeRuns (scene_state s)
  runs_at u k None is e = never e
  runs_at u k (Some y) is e =
      let at : task_at s y.0 ≡ Some y.1 = lookup_from_place nat_eq_equiv s.tasks.entries k y.0 y.1 u is in
      (y.0, task_code_view y.1, (ap (option_map task_code_view) at, running_view y.1.mode e))

  settles_at : IsUnique nat_eq s.rooms → (k : ℕ) (o : Option (ℕ × Room)) → slice_get s.rooms.entries k ≡ o → settles_there o ≡ true → SomeSettles (scene_state s)
  settles_at u k None is e = never e
  settles_at u k (Some y) is e =
      let at : room_at s y.0 ≡ Some y.1 = lookup_from_place nat_eq_equiv s.rooms.entries k y.0 y.1 u is in
      (y.0, ap does_settle (settling_there s scene y.0 y.1 at) ∙ e)

  pub goes_there : IsUnique nat_eq s.tasks → IsUnique nat_eq s.rooms → (k : ℕ) → goes_at s k ≡ true → CanGoOn (scene_state s)
  goes_there u v k e = by (runs_there (slice_get s.tasks.entries k)) refl e where
    by : (b : Bool) → runs_there (slice_get s.tasks.entries k) ≡ b → b || settles_there (slice_get s.rooms.entries k) ≡ true → CanGoOn (scene_state s)
    by true is e = inl (runs_at u k (slice_get s.tasks.entries k) refl is)
    by false is e = inr (inl (settles_at v k (slice_get s.rooms.entries k) refl e))

  -- nothing that stands at a place goes on
  module _ (none : (k : ℕ) → goes_at s k ≡ true → ⊥) where
    no_run : (k : ℕ) → runs_there (slice_get s.tasks.entries k) ≡ true → ⊥
    no_run k e = none k (ap (λ (b : Bool). b || settles_there (slice_get s.rooms.entries k)) e)

    or_last : (a b : Bool) → b ≡ true → a || b ≡ true
    or_last true b e = refl
    or_last false b e = e

    no_settling : (k : ℕ) → settles_there (slice_get s.rooms.entries k) ≡ true → ⊥
    no_settling k e = none k (or_last (runs_there (slice_get s.tasks.entries k)) (settles_there (slice_get s.rooms.entries k)) e)

    none_runs : SomeRuns (scene_state s) → ⊥
    none_runs (t, x, r) = by (task_at s t) refl r.0 where
      by : (o : Option TaskCode) → task_at s t ≡ o → option_map task_code_view o ≡ Some x → ⊥
      by None is e = no_task x e
      by (Some y) is e =
          let k = place_from_lookup (nat_eq t) s.tasks.entries y is in
          no_run k.0 (ap runs_there k.2 ∙ running_code y.mode (ap (λ (z : Task). z.mode) (one_task y x e) ∙ r.1))

    none_settles : SomeSettles (scene_state s) → ⊥
    none_settles (p, e) = by (room_at s p) refl where
      by : (o : Option Room) → room_at s p ≡ o → ⊥
      by None is = never (sym (settles_not (scene_state s) p (ap (option_map room_channel) is)) ∙ e)
      by (Some r) is =
          let k = place_from_lookup (nat_eq p) s.rooms.entries r is in
          no_settling k.0 (ap settles_there k.2 ∙ sym (ap does_settle (settling_there s scene p r is)) ∙ e)

    pub only_dated : (b : Bool) → ((b ≡ true) ↔ (s.timers.deadlines ≢ [])) → (b ≡ true) ↔ CanGoOn (scene_state s)
    only_dated b k = (λ e. inr (inr (k.0 e)), by) where
      by : CanGoOn (scene_state s) → b ≡ true
      by (inl r) = absurd (none_runs r)
      by (inr (inl r)) = absurd (none_settles r)
      by (inr (inr d)) = k.1 d

  -- past both tables nothing stands
  pub nothing_past : (n : ℕ) → length s.tasks.entries ≤ n → length s.rooms.entries ≤ n → ((k : ℕ) → k < n → goes_at s k ≡ false) → (k : ℕ) → goes_at s k ≡ true → ⊥
  nothing_past n ts rs below k e = by (nat_lt k n) refl where
    by : (b : Bool) → nat_lt k n ≡ b → ⊥
    by true lt = never (sym (below k (ltb-true k n lt)) ∙ e)
    by false ge =
        let le : n ≤ k = ltb-false k n ge in
        never (sym (ap₂ (λ (a : Option (ℕ × TaskCode)) (b : Option (ℕ × Room)). runs_there a || settles_there b) (past_end s.tasks.entries k (omega (arith, ts, le))) (past_end s.rooms.entries k (omega (arith, rs, le)))) ∙ e)

-- whether a deadline is open is told by the first one
pub is_dated : (ds : List Deadline) (o : Option ℕ) → o ≡ option_map (λ (d : Deadline). d.moment) (slice_get ds 0) → (is_some o ≡ true) ↔ (ds ≢ [])
is_dated [] o e = (λ t. never (sym (ap is_some e) ∙ t), λ f. absurd (f refl))
is_dated (d ∷ ds) o e = (λ t k. cc, λ f. ap is_some e)

-- each task stands somewhere
told : (z : Standing) → standing_view z ≡ elsewhere → ⊥
told (Standing.AtOp w) e = cc
told Standing.Ended e = cc
told (Standing.Faulted f p) e = cc

pub somewhere : (s : Scene) → TasksAreShown (task_at s) → (t : ℕ) (x : Task) → tasks_of s t ≡ Some x → body_at x.body ≢ nowhere
somewhere s all t x at e = by (task_at s t) refl at where
  by : (o : Option TaskCode) → task_at s t ≡ o → option_map task_code_view o ≡ Some x → ⊥
  by None is k = no_task x k
  by (Some y) is k = told y.standing (all t y is ∙ ap shown_at (ap (λ (z : Task). body_at z.body) (one_task y x k) ∙ e))

-- a channel that completes a wait by itself has its event
woken : (s : State) → Sound s → (w : ℕ) (o : Option ℕ) → owner_of w s.waits ≡ o → Woken s w o
woken s sound w None e = tt
woken s sound w (Some u) e = sound.owned w u e

settle_there : (program : ProgramView) (s : State) → Sound s → (p : ℕ) → does_settle (settling_at s p) ≡ true → IsPossible program s
settle_there program s sound p e = at_channel (s.channels p) refl where
  at_row : (c : Channel) → s.channels p ≡ Some c → (r : Settling) → settle_row c (front Take p s.waits) (front Put p s.waits) ≡ r → does_settle r ≡ true → IsPossible program s
  at_row c at unsettled is e = never e
  at_row c at (settles side h v d) is e =
      let k = step_there program s (settled h.wait h.branch side p v) (c, d, h, at, is, refl, refl, woken s sound h.wait (owner_of h.wait s.waits) refl) in
      (settled h.wait h.branch side p v, k.0, k.1)

  at_channel : (o : Option Channel) → s.channels p ≡ o → IsPossible program s
  at_channel None at = never (sym (settles_not s p at) ∙ e)
  at_channel (Some c) at = at_row c at (settle_row c (front Take p s.waits) (front Put p s.waits)) refl (sym (ap (λ (o : Option Channel). does_settle (settling_in o (front Take p s.waits) (front Put p s.waits))) at) ∙ e)

-- at the last moment each open deadline is due
le_is : (a b : ℕ) → a ≤ b → nat_le a b ≡ true
le_is a b le = by (nat_le a b) refl where
  by : (t : Bool) → nat_le a b ≡ t → nat_le a b ≡ true
  by true e = e
  by false e = absurd (let lt : b < a = leb-false a b e in omega (arith, lt, le))

some_due : (m : ℕ) (d : Deadline) (ds : List Deadline) → nat_le d.moment m ≡ true → due m (d ∷ ds) ≢ []
some_due m d ds le k = by (nat_le d.moment m) le k where
  by : (t : Bool) → t ≡ true → map (λ (d : Deadline). d.port) (cond t (d ∷ filter (λ (d : Deadline). nat_le d.moment m) ds) (filter (λ (d : Deadline). nat_le d.moment m) ds)) ≡ [] → ⊥
  by true e k = cc
  by false e k = never e

tick_there : (program : ProgramView) (s : State) → Sound s → s.deadlines ≢ [] → IsPossible program s
tick_there program s sound dated = by s.deadlines refl where
  by : (ds : List Deadline) → s.deadlines ≡ ds → IsPossible program s
  by [] e = absurd (dated e)
  by (d ∷ ds) e =
      let m = moments - 1 in
      let n : s.now < moments = sound.clock in
      let early : d.moment < moments = (subst (Each (λ (d : Deadline). d.moment < moments)) e sound.dated).0 in
      let some : due m s.deadlines ≢ [] = (λ k. some_due m d ds (le_is d.moment m (omega arith)) (ap (due m) (sym e) ∙ k)) in
      let k = step_there program s (ticked m (due m s.deadlines)) (omega (arith, n), omega arith, refl, some) in
      (ticked m (due m s.deadlines), k.0, k.1)

goes_on : (program : ProgramView) (s : State) → Sound s → ((t : ℕ) (x : Task) → s.tasks t ≡ Some x → body_at x.body ≢ nowhere) → CanGoOn s → IsPossible program s
goes_on program s sound at (inl r) = let h = has_event program s sound r.0 r.1 r.2.0 r.2.1 (at r.0 r.1 r.2.0) in (h.0, h.1, h.2)
goes_on program s sound at (inr (inl r)) = settle_there program s sound r.0 r.1
goes_on program s sound at (inr (inr d)) = tick_there program s sound d

-- where none of these is, nothing is possible
quiet_by : (s : State) → (CanGoOn s → ⊥) → IsQuiet s
quiet_by s none = record {
  no_task = λ t x at m. none (inl (t, x, (at, m)));
  no_settle = λ p c at. at_row p c at (settle_row c (front Take p s.waits) (front Put p s.waits)) refl;
  no_deadline = at_deadlines s.deadlines refl;
} where
  at_row : (p : ℕ) (c : Channel) → s.channels p ≡ Some c → (r : Settling) → settle_row c (front Take p s.waits) (front Put p s.waits) ≡ r → settle_row c (front Take p s.waits) (front Put p s.waits) ≡ unsettled
  at_row p c at unsettled is = is
  at_row p c at (settles side h v d) is = absurd (none (inr (inl (p, ap (λ (o : Option Channel). does_settle (settling_in o (front Take p s.waits) (front Put p s.waits))) at ∙ ap does_settle is))))

  at_deadlines : (ds : List Deadline) → s.deadlines ≡ ds → s.deadlines ≡ []
  at_deadlines [] e = e
  at_deadlines (d ∷ ds) e = absurd (none (inr (inr (λ k. let j : d ∷ ds ≡ [] = sym e ∙ k in cc))))

pub possible_where : (program : ProgramView) (s : State) → Sound s → ((t : ℕ) (x : Task) → s.tasks t ≡ Some x → body_at x.body ≢ nowhere) → (b : Bool) → ((b ≡ true) ↔ CanGoOn s) → (b ≡ true) ↔ IsPossible program s
possible_where program s sound at b k = (λ e. goes_on program s sound at (k.0 e), λ p. by b k p) where
  by : (b : Bool) → ((b ≡ true) ↔ CanGoOn s) → IsPossible program s → b ≡ true
  by true k p = refl
  by false k p = absurd (quiet_stuck program s p.1 p.0 (quiet_by s (λ g. let e : false ≡ true = k.1 g in cc)) p.2)
