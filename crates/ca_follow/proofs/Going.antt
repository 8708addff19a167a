-- What follows a state tracks its tasks; how the task at its operation goes on, and how a wait's owner wakes.
use Rattle.std.proofs.Common.{◌≡◌, ℕ, List, [], ◌∷◌, refl, sym, ap, ◌∙◌, subst, Bool, Option, Some, None, eqb}
use Rattle.std.specs.Map.{update}
use Rattle.std.proofs.lemmas.Map.{update_here}
use Rattle.ca_value.specs.Tree.{Tree}
use Rattle.ca_term.specs.Operation.{OpView, SeedView, WantView}
use Rattle.ca_term.specs.declared.place.Place.{Place}
use Rattle.ca_term.specs.Program.{ProgramView}
use Rattle.ca_meaning.specs.Body.{At, at_op}
use Rattle.ca_meaning.specs.Going.{Runs, RunsAtOperation, Wakes}
use Rattle.ca_meaning.specs.Refusal.{too_many}
use Rattle.ca_meaning.specs.Registry.{Registry}
use Rattle.ca_meaning.specs.State.{State, Task, Tasks, runs}
use Rattle.ca_meaning.specs.Steps.{Step}
use Rattle.ca_meaning.specs.Task.{BodyRest, TaskBody, body_at, body_fill, reply_at}
use Rattle.ca_meaning.specs.Wait.{Wait, is_among, owner_of, without}
use Rattle.ca_agent.specs.Agents.{Advanced, Answered}
use Rattle.ca_commit.specs.Agents.{TaskAgent, advances_of, place_of, stands_of}
use Rattle.ca_commit.specs.Applying.{event_of}
use Rattle.ca_commit.specs.Contents.{Kept, Parked, alive, at_key, home, nobody, owner, whole}
use Rattle.ca_commit.specs.Deciding.{PlanTells}
use Rattle.ca_commit.specs.Holds.{KeepsChannels}
use Rattle.ca_commit.specs.Moves.{FitIn}
use Rattle.ca_commit.specs.Planning.{Planned}
use Rattle.ca_commit.specs.Replies.{GoesOn}
use Rattle.ca_commit.specs.Waking.{WakesBy}
use Rattle.ca_commit.proofs.Fitting.{fits}
use Rattle.ca_commit.proofs.Laid.{IsPart, same_map}
use Rattle.ca_commit.proofs.Seats.{some_same}
use Rattle.ca_commit.proofs.Shown.{Shown, shows}
use Rattle.ca_follow.specs.Applies.{Applies, with_all}
use Rattle.ca_follow.specs.Events.{AreNew}
use Rattle.ca_follow.specs.Follows.{Follows, IsAt}
use Rattle.ca_follow.specs.Has.{Has, IsAll, parts_had}
use Rattle.ca_follow.proofs.Tracked.{Tracks, owner_wakes, task_advances, task_goes, tracks_same, wait_gone}

-- all parts are a part of themselves
pub is_part : {A : Type 0} (h : Has A) → IsPart (parts_had h) (parts_had h)
is_part h = record { lanes = λ i x e. e; banks = λ i x e. e; shards = λ i x e. e; readys = λ i x e. e; registries = λ i x e. e; clocks = λ c e. e }

-- banks or shards that agree are one map
pub same_whole : {X : Type 0} (m n : ℕ → Option (ℕ → Option X)) → ((i : ℕ) → m i ≡ n i) → whole m ≡ whole n
same_whole {X} m n e = same_map (whole m) (whole n) (λ k. ap (λ (o : Option (ℕ → Option X)). at_key o k) (e (home k)))

module _ {A : Type 0} (place : A → At) (stands : ProgramView → A → TaskBody → Type 0) (program : ProgramView) where
  abbrev pub TracksTasks : (ℕ → Option (TaskAgent A)) → (ℕ → Option (Parked (TaskAgent A))) → (ℕ → Bool) → Tasks → List Wait → Type 0
  TracksTasks agents parked known tasks waits = Tracks (place_of place) (stands_of stands program) agents parked known tasks waits

  pub tracks_of : (h : Has A) (s : State) → Follows place stands program h s → TracksTasks h.running (whole h.shard) h.known s.tasks s.waits
  tracks_of h s f = record { ready = f.ready; runs = f.runs; owners = f.owners; nobodies = f.nobodies; known = f.known }

  -- what is held shows the state's channels, waits and registries
  pub shown_of : (h : Has A) (s : State) → Follows place stands program h s → Shown (parts_had h) s
  shown_of h s f = record { holds = f.holds; registered = f.registered }

  pub follows_by : (h : Has A) (s : State) → KeepsChannels (whole h.bank) (alive (whole h.shard)) s.channels s.waits s.used → ((p : ℕ) → s.registries p ≡ whole h.registry p)
      → TracksTasks h.running (whole h.shard) h.known s.tasks s.waits → h.times ≡ Some (record { deadlines = s.deadlines; now = s.now }) → ((w : ℕ) → is_among w s.used ≡ h.used w) → Follows place stands program h s
  follows_by h s holds registered t times used = record { holds = holds; registered = registered; ready = t.ready; runs = t.runs; owners = t.owners; nobodies = t.nobodies; times = times; known = t.known; used = used }

  -- the task at its operation, and where its body is with the answer
  abbrev pub Went : Tasks → ℕ → WantView → Tree → TaskAgent A → Type 0
  Went tasks t want v c = (x : Task) × Runs tasks t x × (body_at x.body ≡ at_op want) × ((d : TaskBody) × BodyRest program (body_fill v x.body) d × stands_of stands program c x.result d)

  -- it stands at its operation in the state, and isn't refused there
  pub stands_there : (h : Has A) (s : State) (t : ℕ) (op : OpView) (at : Place) (x : Task) → Follows place stands program h s → Runs s.tasks t x → body_at x.body ≡ at_op (record { op = op; place = at }) → FitIn (parts_had h) op → too_many s op ≡ None → RunsAtOperation s t op x
  stands_there h s t op at x f is e fit few = (is.0, is.1, (at, e), fits s op (fit s (shows (parts_had h) (parts_had h) s (shown_of h s f) (is_part h))) few)

  -- so it does by the name that the plan has for its operation
  pub stands_named : (h : Has A) (s : State) (t : ℕ) (op named : OpView) (at : Place) (x : Task) → op ≡ named → Follows place stands program h s → Runs s.tasks t x → body_at x.body ≡ at_op (record { op = op; place = at }) → FitIn (parts_had h) op → too_many s named ≡ None → RunsAtOperation s t named x
  stands_named h s t op named at x e f is here fit few = subst (λ (o : OpView). RunsAtOperation s t o x) e (stands_there h s t op at x f is here fit (subst (λ (o : OpView). too_many s o ≡ None) (sym e) few))

  -- what an event leaves whose task t alone goes on, as c
  pub alone_follows : (h h2 : Has A) (s s2 : State) (t : ℕ) (x : Task) (c : TaskAgent A) (d : TaskBody) → Follows place stands program h s → Runs s.tasks t x → stands_of stands program c x.result d
      → s2.tasks ≡ update eqb s.tasks t (Some (runs x.result d)) → s2.waits ≡ s.waits → s2.used ≡ s.used
      → ((v : ℕ) → h2.running v ≡ update eqb h.running t (Some c) v) → ((i : ℕ) → h2.shard i ≡ h.shard i) → ((v : ℕ) → h2.known v ≡ h.known v) → ((v : ℕ) → h2.used v ≡ h.used v)
      → KeepsChannels (whole h2.bank) (alive (whole h.shard)) s2.channels s.waits s.used → ((p : ℕ) → s2.registries p ≡ whole h2.registry p) → h2.times ≡ Some (record { deadlines = s2.deadlines; now = s2.now })
      → Follows place stands program h2 s2
  alone_follows h h2 s s2 t x c d f is st tasks waits used agents shards known taken holds registered times = follows_by h2 s2
      (subst (λ (m : ℕ → Option (Parked (TaskAgent A))). KeepsChannels (whole h2.bank) (alive m) s2.channels s2.waits s2.used) (sym (same_whole h2.shard h.shard shards))
      (subst (λ ws. KeepsChannels (whole h2.bank) (alive (whole h.shard)) s2.channels ws s2.used) (sym waits) (subst (λ us. KeepsChannels (whole h2.bank) (alive (whole h.shard)) s2.channels s.waits us) (sym used) holds)))
      registered
      (subst (λ ws. TracksTasks h2.running (whole h2.shard) h2.known s2.tasks ws) (sym waits) (subst (λ (ts : Tasks). TracksTasks h2.running (whole h2.shard) h2.known ts s.waits) (sym tasks)
      (tracks_same (place_of place) (stands_of stands program) (update eqb h.running t (Some c)) h2.running (whole h.shard) (whole h2.shard) h.known h2.known (update eqb s.tasks t (Some (runs x.result d))) s.waits
      agents (λ v. ap (λ (o : Option (ℕ → Option (Parked (TaskAgent A)))). at_key o v) (shards (home v))) known
      (task_goes (place_of place) (stands_of stands program) h.running (whole h.shard) h.known s.tasks s.waits t x c x.result d (tracks_of h s f) is st))))
      times (λ w. ap (λ us. is_among w us) used ∙ f.used w ∙ sym (taken w))

  -- one task goes on, and nobody else can
  pub one_goes : (h h2 : Has A) (t : ℕ) (c : TaskAgent A) (woken : List (ℕ × TaskAgent A)) (goes : Option (TaskAgent A)) → woken ≡ [] → goes ≡ Some c
      → ((v : ℕ) → h2.running v ≡ with_all woken (update eqb h.running t goes) v) → (v : ℕ) → h2.running v ≡ update eqb h.running t (Some c) v
  one_goes h h2 t c woken goes e g is v = is v ∙ ap (λ (l : List (ℕ × TaskAgent A)). with_all l (update eqb h.running t goes) v) e ∙ ap (λ (o : Option (TaskAgent A)). update eqb h.running t o v) g

  -- banks and registries that stay
  pub holds_still : (h h2 : Has A) (s : State) → Follows place stands program h s → ((i : ℕ) → h2.bank i ≡ h.bank i) → KeepsChannels (whole h2.bank) (alive (whole h.shard)) s.channels s.waits s.used
  holds_still h h2 s f e = subst (λ (b : ℕ → Option Kept). KeepsChannels b (alive (whole h.shard)) s.channels s.waits s.used) (sym (same_whole h2.bank h.bank e)) f.holds

  pub registered_still : (h h2 : Has A) (s : State) → Follows place stands program h s → ((i : ℕ) → h2.registry i ≡ h.registry i) → (p : ℕ) → s.registries p ≡ whole h2.registry p
  registered_still h h2 s f e p = f.registered p ∙ sym (ap (λ (o : Option (ℕ → Option Registry)). at_key o p) (e (home p)))

  -- Plan q of the operation at which task t stands, applied, is a step to a state that what is there then follows.
  abbrev pub LeadsOn : (A → Tree → A → Type 0) → (ProgramView → SeedView → A → Type 0) → Planned → Type 0
  LeadsOn gives starts q = (h h2 : Has A) (s : State) (op : OpView) (at : Place) (t u p w m : ℕ) (a : TaskAgent A) → Follows place stands program h s → IsAll h → IsAt place stands program h s t a → place a.agent ≡ at_op (record { op = op; place = at })
      → PlanTells (parts_had h) op q → AreNew h q u p w m → Applies place gives starts program op q t u p w m a h h2
      → (s2 : State) × Step program s (event_of h.bank h.registry t u p w m q) s2 × Follows place stands program h2 s2

  module _ (gives : A → Tree → A → Type 0) (answers_law : Answered stands place gives) where
    -- the agent at its operation goes on with the answer, and so does its task
    pub went : (h : Has A) (s : State) (t : ℕ) (a c : TaskAgent A) (alts : Bool) (want : WantView) (v : Tree) → IsAt place stands program h s t a → place a.agent ≡ at_op want → GoesOn gives alts a v c → Went s.tasks t want v c
    went h s t a c alts want v is op g = let x = is.1.0 in let k = answers_law program a.agent c.agent x.body want v is.1.2.1 is.1.3 op g.2 in (x, is.1.1, sym is.1.3 ∙ op, (k.0, k.1, (g.0 ∙ is.1.2.0, k.2)))

    -- whoever waited on wait w goes on with what passed on channel p
    pub wakes_up : (agents : ℕ → Option (TaskAgent A)) (parked : ℕ → Option (Parked (TaskAgent A))) (known : ℕ → Bool) (tasks : Tasks) (waits : List Wait) (w p : ℕ) (v : Tree) (y : Parked (TaskAgent A)) (woken : List (ℕ × TaskAgent A))
        → TracksTasks agents parked known tasks waits → parked w ≡ Some y → WakesBy place gives (parked w) p v (Some []) (Some woken)
        → (after : Tasks) × Wakes program (owner_of w waits) tasks w p v after × TracksTasks (with_all woken agents) (update eqb parked w None) known after (without w waits)
    wakes_up agents parked known tasks waits w p v nobody woken t there k = (
      tasks,
      subst (λ (o : Option ℕ). Wakes program o tasks w p v tasks) (sym (t.nobodies w there)) refl,
      subst (λ (l : List (ℕ × TaskAgent A)). TracksTasks (with_all l agents) (update eqb parked w None) known tasks (without w waits)) (sym no_one) (wait_gone (place_of place) (stands_of stands program) agents parked known tasks waits w t),
    ) where
      no_one : woken ≡ []
      no_one = some_same woken [] (subst (λ (o : Option (Parked (TaskAgent A))). WakesBy place gives o p v (Some []) (Some woken)) there k)
    wakes_up agents parked known tasks waits w p v (owner u a) woken t there k = let o = t.owners w u a there in let y = o.1.0 in let ps = o.1.3 in
        let m = subst (λ (z : Option (Parked (TaskAgent A))). WakesBy place gives z p v (Some []) (Some woken)) there k in let c = m.0 in
        let g = answers_law program a.agent c.agent y.body ps.0 (reply_at (place a.agent) p v) o.1.2.1 (ps.1 ∙ sym ps.2) ps.1 m.3 in let after : Tasks = update eqb tasks u (Some (runs y.result g.0)) in (
          after,
          subst (λ (i : Option ℕ). Wakes program i tasks w p v after) (sym o.0) (y, o.1.1.0, o.1.1.1, (g.0, subst (λ (z : At). BodyRest program (body_fill (reply_at z p v) y.body) g.0) (ps.1 ∙ sym ps.2) g.1, refl)),
          subst (λ (l : List (ℕ × TaskAgent A)). TracksTasks (with_all l agents) (update eqb parked w None) known after (without w waits)) (sym (some_same woken ((u, c) ∷ []) m.4))
              (owner_wakes (place_of place) (stands_of stands program) agents parked known tasks waits w u a c y.result g.0 t there (m.1 ∙ o.1.2.0, g.2)),
        )

  module _ (advances : ProgramView → A → A → Type 0) (goes_on_law : Advanced stands place advances) where
    -- an agent that advances stands where its body does
    pub advanced_follows : (h : Has A) (s : State) (t : ℕ) (a0 a : TaskAgent A) → Follows place stands program h s → h.running t ≡ Some a0 → advances_of advances program a0 a
        → Follows place stands program (record h { running = update eqb h.running t (Some a) }) s × IsAt place stands program (record h { running = update eqb h.running t (Some a) }) s t a
    advanced_follows h s t a0 a f is adv = let r = f.ready t a0 is in let g = goes_on_law program a0.agent a.agent r.0.body r.2.1 adv.2 in let h2 : Has A = record h { running = update eqb h.running t (Some a) } in (
      follows_by h2 s f.holds f.registered (task_advances (place_of place) (stands_of stands program) h.running (whole h.shard) h.known s.tasks s.waits t r.0 a (tracks_of h s f) r.1 (adv.0 ∙ r.2.0, g.0)) f.times f.used,
      (update_here h.running t (Some a), (r.0, r.1, (adv.0 ∙ r.2.0, g.0), g.1)),
    )
