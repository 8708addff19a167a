-- What `reserve` and `apply` need, a follower has.
use Rattle.std.proofs.Common.{◌≡◌, false, true, ℕ, List, [], refl, sym, ap, subst, Option, Some, None}
use Rattle.std.specs.Prelude.{Err, IfOk, IfSome, IsSome, Ok, OnOk, Result, nat_eq}
use Rattle.indexmap.specs.IndexSet.{contains}
use Rattle.ca_term.specs.Event.{spawned}
use Rattle.ca_term.specs.Operation.{WhatView, dropping, fixed, mix, mult, promise, publication, sliding, timeout, unbuffered}
use Rattle.ca_timers.specs.Timers.{TimersView}
use Rattle.ca_states.specs.Code.{CodeView}
use Rattle.ca_commit.specs.Agents.{TaskAgent}
use Rattle.ca_commit.specs.Applying.{BankChannels, HasParts, HasSpawned, IsPlanFor, IsTimely, Members, event_of, number_of}
use Rattle.ca_commit.specs.NewPort.{HasTimers, IsNoEarlier, times_in}
use Rattle.ca_commit.specs.Planning.{Planned, to_close, to_default, to_do, to_look, to_make, to_meet, to_park, to_post, to_print, to_prune, to_refuse, to_register, to_spawn}
use Rattle.ca_commit.specs.Showing.{channels_held, registries_held, waits_held}
use Rattle.ca_commit.specs.Waking.{ready_in}
use Rattle.ca_commit.specs.declared.task.Ready.{Ready}
use Rattle.ca_commit.specs.declared.task.Task.{Task}
use Rattle.ca_tasks.specs.Tasks.{place}
use Rattle.ca_tasks.specs.declared.task.AnyTask.{AnyTask}
use Rattle.ca_follow.specs.Events.{AreNew, IsReading}
use Rattle.ca_follow.specs.Follower.{IsFollower, IsPlanOf, IsSpawnedTask, has, is_known_task, running_in, without_alts}
use Rattle.ca_follow.specs.declared.follower.Follower.{Follower}
use Rattle.ca_follow.proofs.Makes.{part_of}

-- a follower whose parts stay has what it had
pub held_has : (f f2 : Follower) → f2.held.banks ≡ f.held.banks → f2.held.shards ≡ f.held.shards → f2.held.timers ≡ f.held.timers → f2.tasks ≡ f.tasks → f2.waits ≡ f.waits → has f2 ≡ has f
held_has f f2 b s t k u = λ i. record {
  bank = channels_held (b i);
  registry = registries_held (b i);
  shard = waits_held (s i);
  times = times_in (t i);
  running = running_in (k i);
  known = is_known_task (k i);
  used = λ w. contains nat_eq (u i) w;
}

pub some_ready : (o : Option (Ready AnyTask)) (l : List (ℕ × TaskAgent AnyTask)) → ready_in o ≡ Some l → IsSome o
some_ready None l e = absurd (let c : None ≡ Some l = e in cc)
some_ready (Some r) l e = refl

is_there : {X : Type 0} (o : Option X) (x : X) → o ≡ Some x → IsSome o
is_there {X} o x e = subst (λ (z : Option X). IsSome z) (sym e) refl

has_timers : (what : WhatView) (o : Option TimersView) → IsSome o → HasTimers what o
has_timers (timeout n) o is = is
has_timers unbuffered o is = tt
has_timers (fixed n) o is = tt
has_timers (dropping n) o is = tt
has_timers (sliding n) o is = tt
has_timers promise o is = tt
has_timers (mult source) o is = tt
has_timers (mix out changes) o is = tt
has_timers (publication source) o is = tt

pub has_parts : (f : Follower) (q : Planned) → IsFollower f → HasParts f.held q
has_parts f (to_meet k b alts v o) is = some_ready f.held.ready [] is.ready
has_parts f (to_spawn kind r) is = some_ready f.held.ready [] is.ready
has_parts f (to_park bs) is = let g = part_of (waits_held f.held.shards) is.all.shards f.held.new_wait in is_there _ g.0 g.1
has_parts f (to_post bs) is = let g = part_of (waits_held f.held.shards) is.all.shards f.held.new_wait in is_there _ g.0 g.1
has_parts f (to_make what) is = let g = part_of (channels_held f.held.banks) is.all.banks f.held.new_port in (is_there _ g.0 g.1, has_timers what f.held.timers is.timers)
has_parts f (to_do k b alts) is = tt
has_parts f (to_default v) is = tt
has_parts f (to_close p) is = tt
has_parts f (to_register name args) is = tt
has_parts f (to_print line) is = tt
has_parts f (to_look w) is = tt
has_parts f (to_prune p side i) is = tt
has_parts f (to_refuse e) is = tt

no_earlier : (what : WhatView) (o : Option TimersView) (m : ℕ) → IsReading (times_in o) what m → IsNoEarlier what o m
no_earlier (timeout n) None m r = tt
no_earlier (timeout n) (Some t) m r = r.0
no_earlier unbuffered o m r = tt
no_earlier (fixed n) o m r = tt
no_earlier (dropping n) o m r = tt
no_earlier (sliding n) o m r = tt
no_earlier promise o m r = tt
no_earlier (mult source) o m r = tt
no_earlier (mix out changes) o m r = tt
no_earlier (publication source) o m r = tt

pub is_timely : (f : Follower) (q : Planned) (u p w : ℕ) → AreNew (has f) q u p w f.held.moment → IsTimely f.held q
is_timely f (to_make what) u p w new = no_earlier what f.held.timers f.held.moment new.2
is_timely f (to_do k b alts) u p w new = tt
is_timely f (to_meet k b alts v o) u p w new = tt
is_timely f (to_park bs) u p w new = tt
is_timely f (to_post bs) u p w new = tt
is_timely f (to_default v) u p w new = tt
is_timely f (to_spawn kind r) u p w new = tt
is_timely f (to_close z) u p w new = tt
is_timely f (to_register name args) u p w new = tt
is_timely f (to_print line) u p w new = tt
is_timely f (to_look v) u p w new = tt
is_timely f (to_prune z side i) u p w new = tt
is_timely f (to_refuse e) u p w new = tt

pub plan_for : (f : Follower) (a : TaskAgent AnyTask) (q : Planned) → (start : ℕ) × IsPlanOf (has f) a start q → IsPlanFor place f.held q a
plan_for f a q plan = (record { op = plan.1.0; place = plan.1.1 }, plan.1.2, plan.0, plan.1.3)

-- the event of a spawn has the new task's number
pub event_with : (code : CodeView) (a : TaskAgent AnyTask) (cs : BankChannels) (rs : Members) (t u p w m : ℕ) (q : Planned) (o : Option (Task AnyTask)) → HasSpawned o q → IfSome o (λ x. IsSpawnedTask code a u x) → event_of cs rs t (number_of o) p w m q ≡ event_of cs rs t u p w m q
event_with code a cs rs t u p w m (to_spawn kind r) (Some x) there new = ap (λ n. spawned t n kind r) new.number
event_with code a cs rs t u p w m (to_spawn kind r) None there new = absurd (let z : false ≡ true = there in cc)
event_with code a cs rs t u p w m (to_do k b alts) o there new = refl
event_with code a cs rs t u p w m (to_meet k b alts v i) o there new = refl
event_with code a cs rs t u p w m (to_park bs) o there new = refl
event_with code a cs rs t u p w m (to_post bs) o there new = refl
event_with code a cs rs t u p w m (to_default v) o there new = refl
event_with code a cs rs t u p w m (to_make what) o there new = refl
event_with code a cs rs t u p w m (to_close z) o there new = refl
event_with code a cs rs t u p w m (to_register name args) o there new = refl
event_with code a cs rs t u p w m (to_print line) o there new = refl
event_with code a cs rs t u p w m (to_look v) o there new = refl
event_with code a cs rs t u p w m (to_prune z side i) o there new = refl
event_with code a cs rs t u p w m (to_refuse f) o there new = refl

-- a task that did no alts yet
pub plain_is : (a : TaskAgent AnyTask) → a.alts ≡ 0 → a ≡ without_alts a
plain_is a e = λ i. record { result = a.result; alts = e i; agent = a.agent }

pub on_ok : {T E P : Type 0} (r : Result T E) → P → OnOk r P
on_ok (Ok x) p = p
on_ok (Err e) p = tt

-- what follows from what is so of a result
pub ok_by : {T E P Q : Type 0} (r : Result T E) → (P → Q) → OnOk r P → OnOk r Q
ok_by (Ok x) f p = f p
ok_by (Err e) f p = tt

pub if_ok_by : {T E : Type 0} {P Q : T → Type 0} (r : Result T E) → ((x : T) → P x → Q x) → IfOk r P → IfOk r Q
if_ok_by (Ok x) f p = f x p
if_ok_by (Err e) f p = tt
