-- What is made and started: what such an event of a plan leaves follows the state to which it is a step.
use Rattle.std.proofs.Common.{◌≡◌, ℕ, List, refl, sym, ap, ◌∙◌, subst, Bool, true, false, cond, Option, Some, None, is_some, option_map, unwrap_or, eqb}
use Rattle.std.specs.Map.{update}
use Rattle.std.proofs.lemmas.Map.{update_apart}
use Rattle.ca_value.specs.Deadlines.{Deadline}
use Rattle.ca_value.specs.Tree.{Tree, nil, port}
use Rattle.ca_term.specs.declared.event.TaskKind.{TaskKind}
use Rattle.ca_term.specs.Operation.{SeedView, WhatView, dropping, fixed, making, mix, mult, promise, publication, sliding, spawning, timeout, unbuffered}
use Rattle.ca_term.specs.Program.{ProgramView}
use Rattle.ca_meaning.specs.Body.{At}
use Rattle.ca_meaning.specs.Channel.{Channel, channel_made}
use Rattle.ca_meaning.specs.Registry.{Registry, registry_made}
use Rattle.ca_meaning.specs.State.{Channels, State, Task, Tasks, runs}
use Rattle.ca_meaning.specs.Task.{TaskBody}
use Rattle.ca_meaning.specs.TaskSteps.{IsMoment, with_deadline}
use Rattle.ca_meaning.specs.Wait.{Wait}
use Rattle.ca_agent.specs.Agents.{Answered, Started}
use Rattle.ca_bank.specs.Kept.{unattended}
use Rattle.ca_commit.specs.Agents.{TaskAgent, place_of, stands_of}
use Rattle.ca_commit.specs.Contents.{Kept, Parked, alive, at_key, channel_of, home, whole}
use Rattle.ca_commit.specs.Holds.{KeepsChannels}
use Rattle.ca_commit.specs.NewPort.{Times, moment_for, timed}
use Rattle.ca_commit.specs.Planning.{to_make, to_spawn}
use Rattle.ca_commit.specs.Running.{or_was}
use Rattle.ca_commit.proofs.Holding.{made_holds}
use Rattle.ca_commit.proofs.Holdings.{home_below}
use Rattle.ca_commit.proofs.Laid.{none_put}
use Rattle.ca_follow.specs.Applies.{and_number, with_all}
use Rattle.ca_follow.specs.Events.{IsReading}
use Rattle.ca_follow.specs.Has.{AreAll}
use Rattle.ca_follow.proofs.Changed.{whole_entered}
use Rattle.ca_follow.proofs.Going.{LeadsOn, alone_follows, follows_by, holds_still, one_goes, registered_still, same_whole, stands_named, tracks_of, went}
use Rattle.ca_follow.proofs.Tracked.{none_there, task_goes, task_new, tracks_same}

-- one of all the parts is held
pub part_of : {X : Type 0} (m : ℕ → Option (ℕ → Option X)) → AreAll m → (n : ℕ) → (g : ℕ → Option X) × (m (home n) ≡ Some g)
part_of {X} m all n = by (m (home n)) refl (all (home n) (home_below n)) where
  by : (o : Option (ℕ → Option X)) → m (home n) ≡ o → is_some o ≡ true → (g : ℕ → Option X) × (m (home n) ≡ Some g)
  by None e k = absurd (let z : false ≡ true = k in cc)
  by (Some g) e k = (g, e)

-- what is made where nothing was
made_there : {X : Type 0} (o was : Option X) → was ≡ None → or_was o was ≡ o
made_there {X} o was e = ap (or_was o) e ∙ by o where
  by : (o : Option X) → or_was o None ≡ o
  by None = refl
  by (Some x) = refl

nothing_at : (o : Option Task) → is_some o ≡ false → o ≡ None
nothing_at None e = refl
nothing_at (Some x) e = absurd (let z : true ≡ false = e in cc)

-- a channel is new, or a port without one
port_holds : (ports : ℕ → Option Kept) (live : ℕ → Bool) (channels : Channels) (waits : List Wait) (used : List ℕ) (p : ℕ) (o : Option Channel) → KeepsChannels ports live channels waits used → ports p ≡ None → channels p ≡ None
    → KeepsChannels (update eqb ports p (option_map unattended o)) live (update eqb channels p o) waits used
port_holds ports live channels waits used p (Some c) h a b = made_holds ports live channels waits used p c h a
port_holds ports live channels waits used p None h a b = subst (λ f. KeepsChannels f live (update eqb channels p None) waits used) (sym (none_put ports p a)) (subst (λ f. KeepsChannels ports live f waits used) (sym (none_put channels p b)) h)

-- only a timeout's moment counts
deadline_by : (p m now : ℕ) (what : WhatView) (ds : List Deadline) → with_deadline p what m ds ≡ with_deadline p what (unwrap_or (moment_for what m) now) ds
deadline_by p m now unbuffered ds = refl
deadline_by p m now (fixed n) ds = refl
deadline_by p m now (dropping n) ds = refl
deadline_by p m now (sliding n) ds = refl
deadline_by p m now promise ds = refl
deadline_by p m now (timeout n) ds = refl
deadline_by p m now (mult source) ds = refl
deadline_by p m now (mix out changes) ds = refl
deadline_by p m now (publication source) ds = refl

is_moment : (c : Times) (what : WhatView) (m : ℕ) → IsReading (Some c) what m → IsMoment c.now what (moment_for what m)
is_moment c unbuffered m r = refl
is_moment c (fixed n) m r = refl
is_moment c (dropping n) m r = refl
is_moment c (sliding n) m r = refl
is_moment c promise m r = refl
is_moment c (timeout n) m r = r
is_moment c (mult source) m r = refl
is_moment c (mix out changes) m r = refl
is_moment c (publication source) m r = refl

module _ {A : Type 0} (place : A → At) (stands : ProgramView → A → TaskBody → Type 0) (program : ProgramView) (gives : A → Tree → A → Type 0) (answers_law : Answered stands place gives) (starts : ProgramView → SeedView → A → Type 0) where
  pub make_follows : (what : WhatView) → LeadsOn place stands program gives starts (to_make what)
  make_follows what h h2 s op at t u p w m a f all is here tells new x = let c = x.answered.0 in let g = went place stands program gives answers_law h s t a c false (record { op = op; place = at }) (port p) is here x.answered.2 in
      let bank = part_of h.bank all.banks p in let members = part_of h.registry all.registries p in let made = option_map unattended (channel_made what) in let moment = moment_for what m in
      let no_channel : s.channels p ≡ None = f.holds.channels_are p ∙ ap channel_of new.0 in
      let banks : whole h2.bank ≡ update eqb (whole h.bank) p made = whole_entered p (or_was made) h.bank h2.bank bank.0 bank.1 x.bank ∙ ap (λ (o : Option Kept). update eqb (whole h.bank) p o) (made_there made (whole h.bank p) new.0) in
      let regs : whole h2.registry ≡ update eqb (whole h.registry) p (registry_made what) = whole_entered p (or_was (registry_made what)) h.registry h2.registry members.0 members.1 x.registry
      ∙ ap (λ (o : Option Registry). update eqb (whole h.registry) p o) (made_there (registry_made what) (whole h.registry p) new.1) in
      let clock : Times = record { deadlines = s.deadlines; now = s.now } in
      let s2 : State = record s {
        tasks = update eqb s.tasks t (Some (runs g.0.result g.3.0));
        channels = update eqb s.channels p (channel_made what);
        registries = update eqb s.registries p (registry_made what);
        deadlines = with_deadline p what (unwrap_or moment s.now) s.deadlines;
        now = unwrap_or moment s.now;
      } in (
        s2,
        (
          g.0,
          s2.tasks,
          stands_named place stands program h s t op (making what) at g.0 tells.1 f g.1 g.2 tells.0 refl,
          no_channel,
          f.registered p ∙ new.1,
          is_moment clock what m (subst (λ (o : Option Times). IsReading o what m) f.times new.2),
          (g.3.0, g.3.1, refl),
          refl,
        ),
        alone_follows place stands program h h2 s s2 t g.0 c g.3.0 f g.1 g.3.2 refl refl refl (one_goes place stands program h h2 t c x.woken x.goes x.wakes x.answered.1 x.running) x.shard x.known x.used
            (subst (λ (b : ℕ → Option Kept). KeepsChannels b (alive (whole h.shard)) s2.channels s.waits s.used) (sym banks) (port_holds (whole h.bank) (alive (whole h.shard)) s.channels s.waits s.used p (channel_made what) f.holds new.0 no_channel))
            (λ i. ap (λ (o : Option Registry). cond (eqb p i) (registry_made what) o) (f.registered i) ∙ sym (ap (λ (r : ℕ → Option Registry). r i) regs))
            (x.times ∙ ap (λ (o : Option Times). option_map (timed p what m) o) f.times
            ∙ ap (λ (ds : List Deadline). let r : Times = record { deadlines = ds; now = unwrap_or moment s.now } in Some r) (deadline_by p m s.now what s.deadlines)),
      )

  module _ (starts_law : Started stands place starts) where
    pub spawn_follows : (kind : TaskKind) (r : Option ℕ) → LeadsOn place stands program gives starts (to_spawn kind r)
    spawn_follows kind r h h2 s op at t u p w m a f all is here tells new x = let c = x.answered.0 in let g = went place stands program gives answers_law h s t a c false (record { op = op; place = at }) nil is here x.answered.2 in
        let y = runs g.0.result g.3.0 in let tasks : Tasks = update eqb s.tasks t (Some y) in let seed = tells.1.0 in let d = x.wakes.0 in let started = x.wakes.2 seed tells.1.1 in
        let b = starts_law program seed d.agent started.2 in
        let fresh : s.tasks u ≡ None = nothing_at (s.tasks u) (f.known u ∙ new) in
        let free : tasks u ≡ None = update_apart s.tasks t (Some y) u (λ e. none_there (s.tasks u) g.0 fresh (ap s.tasks e ∙ g.1.0)) ∙ fresh in
        let st : stands_of stands program d r b.0 = (started.0 ∙ tells.1.3, b.2) in
        let agents : ℕ → Option (TaskAgent A) = update eqb h.running t (Some c) in
        let s2 : State = record s { tasks = update eqb tasks u (Some (runs r b.0)) } in
        let tracks = task_new (place_of place) (stands_of stands program) agents (whole h.shard) h.known tasks s.waits u d r b.0
        (task_goes (place_of place) (stands_of stands program) h.running (whole h.shard) h.known s.tasks s.waits t g.0 c g.0.result g.3.0 (tracks_of place stands program h s f) g.1 g.3.2) free st in (
          s2,
          (g.0, seed, tasks, b.0, stands_named place stands program h s t op (spawning seed) at g.0 tells.1.1 f g.1 g.2 tells.0 refl, fresh, tells.1.2, tells.1.3, (g.3.0, g.3.1, refl), b.1, refl),
          follows_by place stands program h2 s2
              (subst (λ (n : ℕ → Option (Parked (TaskAgent A))). KeepsChannels (whole h2.bank) (alive n) s.channels s.waits s.used) (sym (same_whole h2.shard h.shard x.shard)) (holds_still place stands program h h2 s f x.bank))
              (registered_still place stands program h h2 s f x.registry)
              (tracks_same (place_of place) (stands_of stands program) (update eqb agents u (Some d)) h2.running (whole h.shard) (whole h2.shard) (and_number h.known u) h2.known s2.tasks s.waits
              (λ v. x.running v ∙ ap (λ (l : List (ℕ × TaskAgent A)). with_all l (update eqb h.running t x.goes) v) x.wakes.1 ∙ ap (λ (o : Option (TaskAgent A)). update eqb (update eqb h.running t o) u (Some d) v) x.answered.1)
              (λ v. ap (λ (o : Option (ℕ → Option (Parked (TaskAgent A)))). at_key o v) (x.shard (home v))) x.known tracks)
              (x.times ∙ f.times) (λ v. f.used v ∙ sym (x.used v)),
        )
