-- Each event keeps what holds of the state of a legal journal.
use Rattle.std.proofs.Common.{◌≡◌, ◌≢◌, ℕ, ◌+◌, ◌-◌, ◌<◌, min, List, [], ◌∷◌, refl, sym, ap, ◌∙◌, subst, arith, Bool, true, false, cond, Option, Some, None, option_map, unwrap_or, eqb, not, nat_le}
use Rattle.std.specs.Map.{update}
use Rattle.ca_term.specs.declared.event.Ending.TheVariants.{Ended, Faulted}
use Rattle.ca_term.specs.Program.{ProgramView}
use Rattle.ca_term.specs.Event.{EventView, made, spawned, done, met, parked, posted, settled, defaulted, closed, registered, printed, ticked, over as is_over}
use Rattle.ca_meaning.specs.Body.{local, new_body}
use Rattle.ca_meaning.specs.Channel.{channel_made, shut}
use Rattle.ca_meaning.specs.Wait.{port_of}
use Rattle.ca_meaning.specs.Registry.{Registry, registry_made}
use Rattle.ca_meaning.specs.Task.{TaskBody, script, body_at}
use Rattle.ca_meaning.specs.State.{State, Task, Channels, Deadline, running, waiting, runs, Opening, shut_at, shut_all, opened, is_before}
use Rattle.ca_meaning.specs.TaskSteps.{moments, IsMoment, with_deadline}
use Rattle.ca_term.specs.Operation.{WhatView, unbuffered, fixed, dropping, sliding, promise, timeout, mult, mix, publication}
use Rattle.ca_meaning.specs.Steps.{Step, Steps}
use Rattle.ca_meaning.specs.Legal.{Reaches}
use Rattle.ca_meaning.specs.Sound.{Each, Bounded, Sound}
use Rattle.ca_meaning.proofs.Waits.{each-filter}
use Rattle.ca_meaning.proofs.Effects.{Effect, still, done_there, met_there, joined, settled_there, made_there, shut_there, effect_of}
use Rattle.ca_meaning.proofs.Channels.{fits_kept, idle_kept, home_kept, held_kept, offered_kept, given_kept}
use Rattle.ca_meaning.proofs.Tasks.{IsRested, rested_kept, step_puts, puts_all, puts_bounded, bounded_more, rest_rested, step_owns}

shut_bounded : (ports : List ℕ) (f : Channels) → Bounded f → Bounded (shut_all ports f)
shut_bounded [] f b = b
shut_bounded (p ∷ ps) f b = shut_bounded ps (shut_at p f) (bounded_more f p (option_map shut (f p)) b)

channels_bounded : (s s2 : State) → Effect s s2 → Bounded s.channels → Bounded s2.channels
channels_bounded s s2 (still a b c) all = subst (λ (z : Channels). Bounded z) (sym a) all
channels_bounded s s2 (done_there b c d v at good r x y z) all = subst (λ (z : Channels). Bounded z) (sym x) (bounded_more s.channels (port_of b) (Some d) all)
channels_bounded s s2 (met_there w live a b c) all = subst (λ (z : Channels). Bounded z) (sym a) all
channels_bounded s s2 (joined x fresh nr good a b c) all = subst (λ (z : Channels). Bounded z) (sym a) all
channels_bounded s s2 (settled_there p c d side h v at r live x y z) all = subst (λ (z : Channels). Bounded z) (sym x) (bounded_more s.channels p (Some d) all)
channels_bounded s s2 (made_there p what none x y z) all = subst (λ (z : Channels). Bounded z) (sym x) (bounded_more s.channels p (channel_made what) all)
channels_bounded s s2 (shut_there ports x y z) all = subst (λ (z : Channels). Bounded z) (sym x) (shut_bounded ports s.channels all)

abbrev Registries : Type 0
Registries = ℕ → Option Registry

abbrev registries_of : {s t : State} → s ≡ t → s.registries ≡ t.registries
registries_of e = ap (λ (z : State). z.registries) e

same_bounded : (s s2 : State) → s2.registries ≡ s.registries → Bounded s.registries → Bounded s2.registries
same_bounded s s2 e b = subst (λ (z : Registries). Bounded z) (sym e) b

registries_bounded : (program : ProgramView) (s s2 : State) (e : EventView) → Step program s e s2 → Bounded s.registries → Bounded s2.registries
registries_bounded program s s2 (made t p what moment) x b = subst (λ (z : Registries). Bounded z) (sym (registries_of x.7)) (bounded_more s.registries p (registry_made what) b)
registries_bounded program s s2 (spawned t u kind result) x b = same_bounded s s2 (registries_of x.10) b
registries_bounded program s s2 (done t k o a) x b = same_bounded s s2 (registries_of x.8) b
registries_bounded program s s2 (met t k side p v w h) x b = same_bounded s s2 (registries_of x.15) b
registries_bounded program s s2 (parked t w bs) x b = same_bounded s s2 (registries_of x.8) b
registries_bounded program s s2 (posted t w p v) x b = same_bounded s s2 (registries_of x.6) b
registries_bounded program s s2 (settled w k side p v) x b = same_bounded s s2 (registries_of x.9) b
registries_bounded program s s2 (defaulted t v) x b = same_bounded s s2 (registries_of x.7) b
registries_bounded program s s2 (closed t p) x b = same_bounded s s2 (registries_of x.4) b
registries_bounded program s s2 (registered t name args v) x b = subst (λ (z : Registries). Bounded z) (sym (registries_of x.6)) (bounded_more s.registries _ (Some x.1) b)
registries_bounded program s s2 (printed t line) x b = same_bounded s s2 (registries_of x.4) b
registries_bounded program s s2 (ticked m ports) x b = same_bounded s s2 (registries_of x.4) b
registries_bounded program s s2 (is_over t Ended) x b = same_bounded s s2 (registries_of x.4) b
registries_bounded program s s2 (is_over t (Faulted fault place result)) x b = same_bounded s s2 (registries_of x.4) b

-- the clock
abbrev now_of : {s t : State} → s ≡ t → s.now ≡ t.now
now_of e = ap (λ (z : State). z.now) e

abbrev deadlines_of : {s t : State} → s ≡ t → s.deadlines ≡ t.deadlines
deadlines_of e = ap (λ (z : State). z.deadlines) e

abbrev IsDated : Deadline → Type 0
IsDated d = d.moment < moments

abbrev IsTimed : ℕ → List Deadline → Type 0
IsTimed now ds = (now < moments) × Each IsDated ds

opened_dated : (d : Deadline) (ds : List Deadline) → IsDated d → Each IsDated ds → Each IsDated (opened d ds)
opened_dated d [] a all = (a, tt)
opened_dated d (e ∷ es) a all = by (is_before d e) (opened_dated d es a all.1) where
  by : (b : Bool) → Each IsDated (opened d es) → Each IsDated (cond b (d ∷ e ∷ es) (e ∷ opened d es))
  by true r = (a, all)
  by false r = (all.0, r)

least_moment : (n : ℕ) → min n (moments - 1) < moments
least_moment n = omega arith

made_timed : (p : ℕ) (what : WhatView) (moment : Option ℕ) (now : ℕ) (ds : List Deadline) → IsMoment now what moment → IsTimed now ds → IsTimed (unwrap_or moment now) (with_deadline p what (unwrap_or moment now) ds)
made_timed p (timeout n) (Some m) now ds i t = (i.1, opened_dated (record { moment = min (m + n) (moments - 1); port = p }) ds (least_moment (m + n)) t.1)
made_timed p (timeout n) None now ds i t = absurd i
made_timed p unbuffered moment now ds i t = subst (λ o. IsTimed (unwrap_or o now) ds) (sym i) t
made_timed p (fixed n) moment now ds i t = subst (λ o. IsTimed (unwrap_or o now) ds) (sym i) t
made_timed p (dropping n) moment now ds i t = subst (λ o. IsTimed (unwrap_or o now) ds) (sym i) t
made_timed p (sliding n) moment now ds i t = subst (λ o. IsTimed (unwrap_or o now) ds) (sym i) t
made_timed p promise moment now ds i t = subst (λ o. IsTimed (unwrap_or o now) ds) (sym i) t
made_timed p (mult source) moment now ds i t = subst (λ o. IsTimed (unwrap_or o now) ds) (sym i) t
made_timed p (mix out changes) moment now ds i t = subst (λ o. IsTimed (unwrap_or o now) ds) (sym i) t
made_timed p (publication source) moment now ds i t = subst (λ o. IsTimed (unwrap_or o now) ds) (sym i) t

same_timed : (s s2 : State) → s2.now ≡ s.now → s2.deadlines ≡ s.deadlines → IsTimed s.now s.deadlines → IsTimed s2.now s2.deadlines
same_timed s s2 a b t = subst (λ n. IsTimed n s2.deadlines) (sym a) (subst (IsTimed s.now) (sym b) t)

timed : (program : ProgramView) (s s2 : State) (e : EventView) → Step program s e s2 → IsTimed s.now s.deadlines → IsTimed s2.now s2.deadlines
timed program s s2 (made t p what moment) x k = subst (λ n. IsTimed n s2.deadlines) (sym (now_of x.7)) (subst (IsTimed (unwrap_or moment s.now)) (sym (deadlines_of x.7)) (made_timed p what moment s.now s.deadlines x.5 k))
timed program s s2 (spawned t u kind result) x k = same_timed s s2 (now_of x.10) (deadlines_of x.10) k
timed program s s2 (done t j o a) x k = same_timed s s2 (now_of x.8) (deadlines_of x.8) k
timed program s s2 (met t j side p v w h) x k = same_timed s s2 (now_of x.15) (deadlines_of x.15) k
timed program s s2 (parked t w bs) x k = same_timed s s2 (now_of x.8) (deadlines_of x.8) k
timed program s s2 (posted t w p v) x k = same_timed s s2 (now_of x.6) (deadlines_of x.6) k
timed program s s2 (settled w j side p v) x k = same_timed s s2 (now_of x.9) (deadlines_of x.9) k
timed program s s2 (defaulted t v) x k = same_timed s s2 (now_of x.7) (deadlines_of x.7) k
timed program s s2 (closed t p) x k = same_timed s s2 (now_of x.4) (deadlines_of x.4) k
timed program s s2 (registered t name args v) x k = same_timed s s2 (now_of x.6) (deadlines_of x.6) k
timed program s s2 (printed t line) x k = same_timed s s2 (now_of x.4) (deadlines_of x.4) k
timed program s s2 (ticked m ports) x k = subst (λ n. IsTimed n s2.deadlines) (sym (now_of x.4)) (subst (IsTimed m) (sym (deadlines_of x.4)) (x.1, each-filter IsDated (λ d. not (nat_le d.moment m)) s.deadlines k.1))
timed program s s2 (is_over t Ended) x k = same_timed s s2 (now_of x.4) (deadlines_of x.4) k
timed program s s2 (is_over t (Faulted fault place result)) x k = same_timed s s2 (now_of x.4) (deadlines_of x.4) k

pub step_sound : (program : ProgramView) (s s2 : State) (e : EventView) → Step program s e s2 → Sound s → Sound s2
step_sound program s s2 e x k =
    let f = effect_of program s s2 e x in
    let p = step_puts program IsRested (rested_kept program) s s2 e k.rested x in
    let o = step_owns program s s2 e k.given x (k.owned, k.waited) in
    let c = timed program s s2 e x (k.clock, k.dated) in
    record {
      fits = fits_kept s s2 f k.fits;
      idle = idle_kept s s2 f k.fits k.homes k.idle;
      homes = home_kept s s2 f k.homes;
      held = held_kept s s2 f k.offered k.held;
      offered = offered_kept s s2 f k.offered;
      given = given_kept s s2 f k.given;
      owned = o.0;
      waited = o.1;
      rested = puts_all IsRested s.tasks s2.tasks p k.rested;
      clock = c.0;
      dated = c.1;
      tasks_end = puts_bounded {P = IsRested} s.tasks s2.tasks p k.tasks_end;
      channels_end = channels_bounded s s2 f k.channels_end;
      registries_end = registries_bounded program s s2 e x k.registries_end;
    }

pub steps_sound : (program : ProgramView) (es : List EventView) (s s2 : State) → Steps program s es s2 → Sound s → Sound s2
steps_sound program [] s s2 x k = subst Sound (sym x) k
steps_sound program (e ∷ es) s s2 x k = steps_sound program es x.0 s2 x.2 (step_sound program s x.0 e x.1 k)

no_some : {A : Type 0} {G : Type 0} (x : A) → None ≡ Some x → G
no_some x e = absurd cc

pub only_task : (b : TaskBody) (u : ℕ) (x : Task) → update eqb (λ n. None) 0 (Some (runs None b)) u ≡ Some x → x ≡ runs None b
only_task b u x e = by (eqb 0 u) e where
  by : (t : Bool) → cond t (Some (runs None b)) None ≡ Some x → x ≡ runs None b
  by true e = let k : x ≡ runs None b = cc in k
  by false e = no_some x e

abbrev nowhere_at : {A : Type 0} → ℕ → Option A
nowhere_at n = None

nothing_bounded : {A : Type 0} → Bounded (nowhere_at {A = A})
nothing_bounded = (0, λ m le. refl)

pub opening_sound : (program : ProgramView) (s : State) → Opening program s → Sound s
opening_sound program s x = subst Sound (sym x.2) (record {
  fits = λ p c e. no_some c e;
  idle = λ p c e. no_some c e;
  homes = λ side p e. refl;
  held = λ p c e. no_some c e;
  offered = λ p. tt;
  given = λ w e. absurd (let k : false ≡ true = e in cc);
  owned = λ w u e. no_some u e;
  waited = λ w u y e m. absurd (let k : running ≡ waiting w = sym (ap (λ (z : Task). z.mode) (only_task x.0 u y e)) ∙ m in cc);
  rested = λ u y e. subst (λ (z : Task). body_at z.body ≢ local) (sym (only_task x.0 u y e)) (rest_rested program (script (new_body program.main)) x.0 x.1);
  clock = omega arith;
  dated = tt;
  tasks_end = bounded_more (λ n. None) 0 (Some (runs None x.0)) nothing_bounded;
  channels_end = nothing_bounded;
  registries_end = nothing_bounded;
})

pub reached_sound : (program : ProgramView) (journal : List EventView) (s : State) → Reaches program journal s → Sound s
reached_sound program journal s r = steps_sound program journal r.opening s r.steps (opening_sound program r.opening r.opens)
