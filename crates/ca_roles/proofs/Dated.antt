-- The deadlines of a typed state after an event: a timeout's port is public.
use Rattle.std.proofs.Common.{◌≡◌, ℕ, List, [], ◌∷◌, refl, sym, ap, ◌∙◌, subst, Bool, true, false, cond, not, Some, eq-eqb, nat_le, unwrap_or}
use Rattle.ca_term.specs.declared.event.Ending.TheVariants.{Ended, Faulted}
use Rattle.ca_term.specs.Operation.{WhatView, unbuffered, fixed, dropping, sliding, promise, timeout, mult, mix, publication}
use Rattle.ca_term.specs.Program.{ProgramView}
use Rattle.ca_term.specs.Event.{EventView, made, spawned, done, met, parked, posted, settled, defaulted, closed, registered, printed, ticked, over as is_over}
use Rattle.ca_meaning.specs.TaskSteps.{with_deadline}
use Rattle.ca_meaning.specs.State.{State, Deadline, is_before, opened}
use Rattle.ca_meaning.specs.Steps.{Step}
use Rattle.ca_meaning.specs.Sound.{Each}
use Rattle.ca_meaning.proofs.Waits.{each-filter, each-weaker}
use Rattle.ca_roles.specs.Roles.{jobs, replies, reply, acks, Role, public, hidden, Roles}
use Rattle.ca_roles.specs.Typed.{IsPublicPort, Typed}
use Rattle.ca_roles.proofs.NewRoles.{IsNewAs, GrowsAt, grows_at}

abbrev pub AllDated : Roles → List Deadline → Type 0
AllDated roles ds = Each (λ (d : Deadline). IsPublicPort roles d.port) ds

opened_public : (roles : Roles) (d : Deadline) (ds : List Deadline) → IsPublicPort roles d.port → AllDated roles ds → AllDated roles (opened d ds)
opened_public roles d [] h k = (h, tt)
opened_public roles d (e ∷ es) h k = by (is_before d e) (opened_public roles d es h k.1) where
  by : (b : Bool) → AllDated roles (opened d es) → AllDated roles (cond b (d ∷ e ∷ es) (e ∷ opened d es))
  by true r = (h, k)
  by false r = (k.0, r)

timeout_role : (t n : ℕ) (r : Role) → IsNewAs t (timeout n) r → r ≡ public
timeout_role t n public h = refl
timeout_role t n (hidden u (jobs w)) h = absurd (let k : timeout n ≡ fixed (ℕ.suc h.1.0) = h.1.1 in cc)
timeout_role t n (hidden u (replies w)) h = absurd (let k : timeout n ≡ fixed (ℕ.suc h.1.0) = h.1.1 in cc)
timeout_role t n (hidden u (reply w v)) h = absurd (let k : timeout n ≡ fixed 1 = h.1 in cc)
timeout_role t n (hidden u acks) h = absurd (let k : timeout n ≡ unbuffered = h.1 in cc)

made_dated : (more : Roles) (t p : ℕ) (what : WhatView) (m : ℕ) (ds : List Deadline) (r : Role) → IsNewAs t what r → more p ≡ Some r → AllDated more ds → AllDated more (with_deadline p what m ds)
made_dated more t p (timeout n) m ds r h at k = opened_public more _ ds (at ∙ ap (λ (q : Role). Some q) (timeout_role t n r h)) k
made_dated more t p unbuffered m ds r h at k = k
made_dated more t p (fixed n) m ds r h at k = k
made_dated more t p (dropping n) m ds r h at k = k
made_dated more t p (sliding n) m ds r h at k = k
made_dated more t p promise m ds r h at k = k
made_dated more t p (mult source) m ds r h at k = k
made_dated more t p (mix out changes) m ds r h at k = k
made_dated more t p (publication source) m ds r h at k = k

deadlines_of : {s t : State} → s ≡ t → s.deadlines ≡ t.deadlines
deadlines_of e = ap (λ (z : State). z.deadlines) e

module _ (program : ProgramView) (roles more : Roles) (s s2 : State) where
  dated_after : (e : EventView) → Step program s e s2 → GrowsAt roles more e → AllDated more s.deadlines → AllDated more s2.deadlines
  dated_after (made t p what moment) x g k = subst (AllDated more) (sym (deadlines_of x.7)) (made_dated more t p what (unwrap_or moment s.now) s.deadlines g.0 g.2 (ap (λ (z : Roles). z p) g.1 ∙ ap (λ b. cond b (Some g.0) (roles p)) (eq-eqb p p refl)) k)
  dated_after (spawned t u kind result) x g k = subst (AllDated more) (sym (deadlines_of x.10)) k
  dated_after (done t j b a) x g k = subst (AllDated more) (sym (deadlines_of x.8)) k
  dated_after (met t j side p v w o) x g k = subst (AllDated more) (sym (deadlines_of x.15)) k
  dated_after (parked t w bs) x g k = subst (AllDated more) (sym (deadlines_of x.8)) k
  dated_after (posted t w p v) x g k = subst (AllDated more) (sym (deadlines_of x.6)) k
  dated_after (settled w j side p v) x g k = subst (AllDated more) (sym (deadlines_of x.9)) k
  dated_after (defaulted t v) x g k = subst (AllDated more) (sym (deadlines_of x.7)) k
  dated_after (closed t p) x g k = subst (AllDated more) (sym (deadlines_of x.4)) k
  dated_after (registered t name args v) x g k = subst (AllDated more) (sym (deadlines_of x.6)) k
  dated_after (printed t line) x g k = subst (AllDated more) (sym (deadlines_of x.4)) k
  dated_after (ticked m ports) x g k = subst (AllDated more) (sym (deadlines_of x.4)) (each-filter (λ (d : Deadline). IsPublicPort more d.port) (λ d. not (nat_le d.moment m)) s.deadlines k)
  dated_after (is_over t Ended) x g k = subst (AllDated more) (sym (deadlines_of x.4)) k
  dated_after (is_over t (Faulted fault place result)) x g k = subst (AllDated more) (sym (deadlines_of x.4)) k

  pub deadlines_after : (e : EventView) → Typed program roles s → Step program s e s2 → GrowsAt roles more e → AllDated more s2.deadlines
  deadlines_after e typed x g = dated_after e x g (each-weaker (λ (d : Deadline). IsPublicPort roles d.port) (λ (d : Deadline). IsPublicPort more d.port) s.deadlines (λ d k. grows_at program roles more s s2 e typed x g d.port public k) typed.deadlines)
