-- A new wait, of a task or of nobody: what its event leaves follows the state to which it is a step.
use Rattle.std.proofs.Common.{◌≡◌, ℕ, List, [], ◌∷◌, ◌++◌, refl, sym, ap, ◌∙◌, subst, Bool, true, false, cond, Option, Some, None, option_map, eqb, slice_get}
use Rattle.std.specs.Map.{update}
use Rattle.ca_value.specs.Tree.{Tree, bool, port}
use Rattle.ca_term.specs.Event.{BranchView, put_of}
use Rattle.ca_term.specs.Operation.{SeedView, posting}
use Rattle.ca_term.specs.Program.{ProgramView}
use Rattle.ca_meaning.specs.Body.{At}
use Rattle.ca_meaning.specs.Choice.{NoneReady, branches_of}
use Rattle.ca_meaning.specs.Refusal.{crowded}
use Rattle.ca_meaning.specs.State.{Channels, State, Task, Tasks, runs, waiting}
use Rattle.ca_meaning.specs.Steps.{Step}
use Rattle.ca_meaning.specs.Task.{TaskBody}
use Rattle.ca_meaning.specs.Wait.{Wait, is_among, is_live, port_of}
use Rattle.ca_agent.specs.Agents.{Answered}
use Rattle.ca_bank.specs.Holds.{join_all, joined_queues}
use Rattle.ca_commit.specs.Agents.{TaskAgent, place_of, stands_of}
use Rattle.ca_commit.specs.Applying.{event_of}
use Rattle.ca_commit.specs.Contents.{Kept, Parked, alive, at_key, home, nobody, owner, whole}
use Rattle.ca_commit.specs.Deciding.{PlanTells}
use Rattle.ca_commit.specs.Holds.{KeepsChannels}
use Rattle.ca_commit.specs.Moves.{FewIn, NoneReadyIn}
use Rattle.ca_commit.specs.Parking.{queued_from, waiting_as}
use Rattle.ca_commit.specs.Planning.{to_park, to_post}
use Rattle.ca_commit.specs.Running.{Placed}
use Rattle.ca_commit.proofs.Everywhere.{queued_joins}
use Rattle.ca_commit.proofs.Fitting.{few_fits}
use Rattle.ca_commit.proofs.Holding.{joins_in}
use Rattle.ca_commit.proofs.Joining.{absent, alive_and, unready_at}
use Rattle.ca_commit.proofs.Laid.{same_map}
use Rattle.ca_commit.proofs.Shown.{none_crowded, none_ready}
use Rattle.ca_follow.specs.Applies.{Applies, and_number, with_all}
use Rattle.ca_follow.specs.Events.{AreNew}
use Rattle.ca_follow.specs.Follows.{Follows}
use Rattle.ca_follow.specs.Has.{Has, IsAll, parts_had}
use Rattle.ca_follow.proofs.Changed.{whole_entered}
use Rattle.ca_follow.proofs.Going.{LeadsOn, TracksTasks, follows_by, is_part, one_goes, registered_still, shown_of, stands_named, stands_there, tracks_of, went}
use Rattle.ca_follow.proofs.Makes.{part_of}
use Rattle.ca_follow.proofs.Tracked.{task_goes, task_waits, tracks_same, wait_posted}

-- a number that no wait was given isn't that of a live one
not_live : (waits : List Wait) (used : List ℕ) (w : ℕ) → (is_live w waits ≡ true → is_among w used ≡ true) → is_among w used ≡ false → is_live w waits ≡ false
not_live waits used w given fresh = by (is_live w waits) refl where
  by : (b : Bool) → is_live w waits ≡ b → is_live w waits ≡ false
  by false e = e
  by true e = absurd (let k : true ≡ false = sym (given e) ∙ fresh in cc)

-- the queues of all banks once the wait has joined
whole_joined : (m new : ℕ → Option (ℕ → Option Kept)) (w : ℕ) (bs : List BranchView) → Placed m → ((i : ℕ) → new i ≡ queued_from w 0 bs m i) → whole new ≡ join_all w bs (whole m)
whole_joined m new w bs placed is = same_map (whole new) (join_all w bs (whole m)) (λ q. ap (λ (o : Option (ℕ → Option Kept)). at_key o q) (is (home q) ∙ queued_joins w bs m placed (home q)) ∙ by (m (home q)) q) where
  by : (o : Option (ℕ → Option Kept)) (q : ℕ) → at_key (option_map (join_all w bs) o) q ≡ option_map (joined_queues w bs q) (at_key o q)
  by None q = refl
  by (Some g) q = refl

-- a new wait is in its shard and in the queues of its branches
joins_holds : {A : Type 0} (ports : ℕ → Option Kept) (parked : ℕ → Option (Parked A)) (channels : Channels) (waits : List Wait) (used : List ℕ) (x : Wait) (y : Parked A) → KeepsChannels ports (alive parked) channels waits used → is_among x.number used ≡ false
    → ((j : ℕ) (b : BranchView) → slice_get x.branches j ≡ Some b → (k : Kept) × (ports (port_of b) ≡ Some k))
    → KeepsChannels (join_all x.number x.branches ports) (alive (update eqb parked x.number (Some y))) channels (waits ++ x ∷ []) (x.number ∷ used)
joins_holds ports parked channels waits used x y h fresh there = subst (λ (z : ℕ → Bool). KeepsChannels (join_all x.number x.branches ports) z channels (waits ++ x ∷ []) (x.number ∷ used)) (sym (alive_and parked x.number y))
    (joins_in ports (alive parked) channels waits used x h fresh
    (λ side p none. absent side p x.number 0 x.branches (λ j b e is. let u = there j b e in let k : None ≡ Some u.0 = sym none ∙ ap ports (sym is) ∙ u.1 in cc)))

module _ {A : Type 0} (place : A → At) (stands : ProgramView → A → TaskBody → Type 0) (program : ProgramView) where
  -- what an event leaves that made a wait
  waiting_follows : (h h2 : Has A) (s s2 : State) (x : Wait) (y : Parked (TaskAgent A)) (agents : ℕ → Option (TaskAgent A)) → Follows place stands program h s → IsAll h → is_among x.number s.used ≡ false → NoneReadyIn (parts_had h) x.branches
      → s2.waits ≡ s.waits ++ x ∷ [] → s2.used ≡ x.number ∷ s.used → s2.channels ≡ s.channels
      → ((i : ℕ) → h2.bank i ≡ queued_from x.number 0 x.branches h.bank i) → whole h2.shard ≡ update eqb (whole h.shard) x.number (Some y)
      → ((q : ℕ) → s2.registries q ≡ whole h2.registry q)
      → TracksTasks place stands program agents (update eqb (whole h.shard) x.number (Some y)) h.known s2.tasks (s.waits ++ x ∷ [])
      → ((v : ℕ) → h2.running v ≡ agents v) → ((v : ℕ) → h2.known v ≡ h.known v) → ((v : ℕ) → h2.used v ≡ and_number h.used x.number v)
      → h2.times ≡ Some (record { deadlines = s2.deadlines; now = s2.now }) → Follows place stands program h2 s2
  waiting_follows h h2 s s2 x y agents f all fresh unready waits used channels banks shards registered tracks running known taken times = follows_by place stands program h2 s2
      (subst (λ (z : ℕ → Option Kept). KeepsChannels z (alive (whole h2.shard)) s2.channels s2.waits s2.used) (sym (whole_joined h.bank h2.bank x.number x.branches all.bank_placed banks))
      (subst (λ (z : ℕ → Option (Parked (TaskAgent A))). KeepsChannels ports (alive z) s2.channels s2.waits s2.used) (sym shards)
      (subst (λ (z : Channels). KeepsChannels ports (alive parked) z s2.waits s2.used) (sym channels)
      (subst (λ (z : List Wait). KeepsChannels ports (alive parked) s.channels z s2.used) (sym waits)
      (subst (λ (z : List ℕ). KeepsChannels ports (alive parked) s.channels (s.waits ++ x ∷ []) z) (sym used)
      (joins_holds (whole h.bank) (whole h.shard) s.channels s.waits s.used x y f.holds fresh (λ j b e. let u = unready_at (parts_had h) x.branches j b unready e in (u.0, u.1))))))))
      registered
      (subst (λ (z : List Wait). TracksTasks place stands program h2.running (whole h2.shard) h2.known s2.tasks z) (sym waits)
      (tracks_same (place_of place) (stands_of stands program) agents h2.running parked (whole h2.shard) h.known h2.known s2.tasks (s.waits ++ x ∷ [])
      running (λ v. ap (λ (z : ℕ → Option (Parked (TaskAgent A))). z v) shards) known tracks))
      times (λ v. ap (λ (z : List ℕ). is_among v z) used ∙ ap (λ (b : Bool). cond (eqb v x.number) true b) (f.used v) ∙ sym (taken v)) where
        ports : ℕ → Option Kept
        ports = join_all x.number x.branches (whole h.bank)

        parked : ℕ → Option (Parked (TaskAgent A))
        parked = update eqb (whole h.shard) x.number (Some y)

  pub park_follows : (gives : A → Tree → A → Type 0) (starts : ProgramView → SeedView → A → Type 0) (bs : List BranchView) → LeadsOn place stands program gives starts (to_park bs)
  park_follows gives starts bs h h2 s op at t u p w m a f all is here tells new x = let task = is.1.0 in let shown = shown_of place stands program h s f in
      let body_is = sym is.1.3 ∙ here in let fresh : is_among w s.used ≡ false = f.used w ∙ new in let shard = part_of h.shard all.shards w in
      let y : Task = record task { mode = waiting w } in let z : Wait = record { number = w; owner = Some t; branches = bs } in let c = waiting_as place a in
      let s2 : State = record s { tasks = update eqb s.tasks t (Some y); waits = s.waits ++ z ∷ []; used = w ∷ s.used } in (
        s2,
        (
          task,
          op,
          stands_there place stands program h s t op at task f is.1.1 body_is tells.0 (few_fits s op (none_crowded (parts_had h) (parts_had h) s (branches_of op) shown (is_part h) tells.3.few)),
          tells.4,
          tells.1,
          tells.2,
          subst (NoneReady s) tells.1 (none_ready (parts_had h) (parts_had h) s (branches_of op) shown (is_part h) tells.3.unready),
          fresh,
          refl,
        ),
        waiting_follows h h2 s s2 z (owner t c) (update eqb h.running t None) f all fresh (subst (NoneReadyIn (parts_had h)) tells.1 tells.3.unready) refl refl refl x.bank
            (whole_entered w (λ (o : Option (Parked (TaskAgent A))). Some (owner t c)) h.shard h2.shard shard.0 shard.1 x.shard) (registered_still place stands program h h2 s f x.registry)
            (task_waits (place_of place) (stands_of stands program) h.running (whole h.shard) h.known s.tasks s.waits t task y c z (tracks_of place stands program h s f) is.1.1 refl is.1.2 (record { op = op; place = at }, here, body_is) refl
            (not_live s.waits s.used w (f.holds.given w) fresh))
            (λ v. x.running v ∙ ap (λ (l : List (ℕ × TaskAgent A)). with_all l (update eqb h.running t x.goes) v) x.wakes ∙ ap (λ (o : Option (TaskAgent A)). update eqb h.running t o v) x.answered)
            x.known x.used (x.times ∙ f.times),
      )

  pub post_follows : (gives : A → Tree → A → Type 0) → Answered stands place gives → (starts : ProgramView → SeedView → A → Type 0) (bs : List BranchView) → LeadsOn place stands program gives starts (to_post bs)
  post_follows gives answers_law starts bs h h2 s op at t u p w m a f all is here tells new x = subst Rest (sym tells.4.3) posts tells new x where
    Rest : List BranchView → Type 0
    Rest l = PlanTells (parts_had h) op (to_post l) → AreNew h (to_post l) u p w m → Applies place gives starts program op (to_post l) t u p w m a h h2
        → (s2 : State) × Step program s (event_of h.bank h.registry t u p w m (to_post l)) s2 × Follows place stands program h2 s2

    q : ℕ
    q = tells.4.0

    v : Tree
    v = tells.4.1

    posts : Rest (put_of q v ∷ [])
    posts e new x = let c = x.answered.0 in let g = went place stands program gives answers_law h s t a c false (record { op = op; place = at }) (bool true) is here x.answered.2 in
        let shown = shown_of place stands program h s f in let fresh : is_among w s.used ≡ false = f.used w ∙ new in let shard = part_of h.shard all.shards w in
        let tasks : Tasks = update eqb s.tasks t (Some (runs g.0.result g.3.0)) in let z : Wait = record { number = w; owner = None; branches = put_of q v ∷ [] } in
        let crowd : crowded s (put_of q v ∷ []) ≡ None = none_crowded (parts_had h) (parts_had h) s (put_of q v ∷ []) shown (is_part h) (subst (FewIn (parts_had h)) e.1 e.3.few) in
        let s2 : State = record s { tasks = tasks; waits = s.waits ++ z ∷ []; used = w ∷ s.used } in (
          s2,
          (
            g.0,
            tasks,
            stands_named place stands program h s t op (posting (port q) v) at g.0 tells.4.2 f g.1 g.2 tells.0 (few_fits s (posting (port q) v) crowd),
            subst (NoneReady s) e.1 (none_ready (parts_had h) (parts_had h) s (branches_of op) shown (is_part h) e.3.unready),
            fresh,
            (g.3.0, g.3.1, refl),
            refl,
          ),
          waiting_follows h h2 s s2 z nobody (update eqb h.running t (Some c)) f all fresh (subst (NoneReadyIn (parts_had h)) e.1 e.3.unready) refl refl refl x.bank
              (whole_entered w (λ (o : Option (Parked (TaskAgent A))). Some nobody) h.shard h2.shard shard.0 shard.1 x.shard) (registered_still place stands program h h2 s f x.registry)
              (wait_posted (place_of place) (stands_of stands program) (update eqb h.running t (Some c)) (whole h.shard) h.known tasks s.waits z
              (task_goes (place_of place) (stands_of stands program) h.running (whole h.shard) h.known s.tasks s.waits t g.0 c g.0.result g.3.0 (tracks_of place stands program h s f) g.1 g.3.2) refl
              (not_live s.waits s.used w (f.holds.given w) fresh))
              (one_goes place stands program h h2 t c x.woken x.goes x.wakes x.answered.1 x.running) x.known x.used (x.times ∙ f.times),
        )
