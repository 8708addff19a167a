-- Registries and deadlines of a typed state after an event; what has no channel and no registry has no role.
use Rattle.std.proofs.Common.{◌≡◌, ℕ, [], refl, sym, ap, ◌∙◌, subst, Bool, true, false, cond, Option, Some, None, option_map, eqb, eqb-true}
use Rattle.std.specs.Map.{update}
use Rattle.ca_value.specs.Tree.{Tree, Trees}
use Rattle.ca_term.specs.declared.fault.Fault.{Fault}
use Rattle.ca_term.specs.declared.head.RegisterName.{RegisterName}
use Rattle.ca_term.specs.declared.event.Ending.TheVariants.{Ended, Faulted}
use Rattle.ca_term.specs.Operation.{OpView, making, registering, WhatView, unbuffered, fixed, dropping, sliding, promise, timeout, mult, mix, publication}
use Rattle.ca_term.specs.Program.{ProgramView}
use Rattle.ca_term.specs.Event.{EventView, made, spawned, done, met, parked, posted, settled, defaulted, closed, registered, printed, ticked, over as is_over}
use Rattle.ca_meaning.specs.Operands.{port_of_value, first_of, rest_of}
use Rattle.ca_meaning.specs.Channel.{Channel, channel_made}
use Rattle.ca_meaning.specs.Registry.{Registry, a_mult, a_mix, a_publication, registry_made, answers, refuses}
use Rattle.ca_meaning.specs.State.{State, Task}
use Rattle.ca_meaning.specs.Refusal.{unmet, unfit, too_many, needs_to_make, operands_to_make, needs_to_register, fault_of_registered, registering_gives, registered_at}
use Rattle.ca_meaning.specs.Going.{RunsAtOperation}
use Rattle.ca_meaning.specs.Steps.{Step}
use Rattle.ca_meaning.specs.Sound.{Sound}
use Rattle.ca_meaning.specs.History.{channel_after}
use Rattle.ca_meaning.proofs.Histories.{step_tells}
use Rattle.ca_meaning.proofs.Refusals.{or_none}
use Rattle.ca_roles.specs.Roles.{jobs, replies, reply, acks, Role, public, hidden, Roles, Grows, IsPublic, ArePublic}
use Rattle.ca_roles.specs.Typed.{IsPublicPort, IsPublicWhat, TypedRegistry, MayAsk, Typed}
use Rattle.ca_roles.proofs.NewRoles.{IsNewAs, GrowsAt, grows_at}
use Rattle.ca_roles.proofs.Ports.{channel_public}
use Rattle.ca_roles.proofs.Growing.{registry_more, port_more}
use Rattle.ca_roles.proofs.Registries.{GoesOnPublic, register_public}

-- what is made is a channel or a registry
something_made : (what : WhatView) → channel_made what ≡ None → registry_made what ≡ None → ⊥
something_made unbuffered e f = cc
something_made (fixed n) e f = cc
something_made (dropping n) e f = cc
something_made (sliding n) e f = cc
something_made promise e f = cc
something_made (timeout n) e f = cc
something_made (mult source) e f = cc
something_made (mix out changes) e f = cc
something_made (publication source) e f = cc

mapped_none : (f : Channel → Channel) (o : Option Channel) → option_map f o ≡ None → o ≡ None
mapped_none f None e = refl
mapped_none f (Some c) e = absurd (let k : Some (f c) ≡ None = e in cc)

-- the registries after an event
pub registries_of : {s t : State} → s ≡ t → s.registries ≡ t.registries
registries_of e = ap (λ (z : State). z.registries) e

-- an event that changes a registry, or none
data Changes (program : ProgramView) (s s2 : State) : EventView → Type 0 where
  new : (t p : ℕ) (what : WhatView) (moment : Option ℕ) (x : Task) → RunsAtOperation s t (making what) x → s2.registries ≡ update eqb s.registries p (registry_made what) → Changes program s s2 (made t p what moment)
  changed : (t : ℕ) (name : RegisterName) (args : Trees) (v : Tree) (x : Task) (r : Registry) → RunsAtOperation s t (registering name args) x → registering_gives s name args ≡ answers v r → s2.registries ≡ update eqb s.registries (port_of_value (first_of args)) (Some r) → Changes program s s2 (registered t name args v)
  unchanged : {e : EventView} → s2.registries ≡ s.registries → ((roles more : Roles) → GrowsAt roles more e → more ≡ roles) → ((p : ℕ) → channel_after p e (s.channels p) ≡ None → s.channels p ≡ None) → Changes program s s2 e

changes : (program : ProgramView) (s s2 : State) (e : EventView) → Step program s e s2 → Changes program s s2 e
changes program s s2 (made t p what moment) x = new t p what moment x.0 x.2 (registries_of x.7)
changes program s s2 (spawned t u kind result) x = unchanged (registries_of x.10) (λ roles more g. g) (λ p k. mapped_none _ (s.channels p) k)
changes program s s2 (done t k b a) x = unchanged (registries_of x.8) (λ roles more g. g) (λ p k. mapped_none _ (s.channels p) k)
changes program s s2 (met t k side p v w o) x = unchanged (registries_of x.15) (λ roles more g. g) (λ p k. mapped_none _ (s.channels p) k)
changes program s s2 (parked t w bs) x = unchanged (registries_of x.8) (λ roles more g. g) (λ p k. mapped_none _ (s.channels p) k)
changes program s s2 (posted t w p v) x = unchanged (registries_of x.6) (λ roles more g. g) (λ p k. mapped_none _ (s.channels p) k)
changes program s s2 (settled w k side p v) x = unchanged (registries_of x.9) (λ roles more g. g) (λ p k. mapped_none _ (s.channels p) k)
changes program s s2 (defaulted t v) x = unchanged (registries_of x.7) (λ roles more g. g) (λ p k. mapped_none _ (s.channels p) k)
changes program s s2 (closed t p) x = unchanged (registries_of x.4) (λ roles more g. g) (λ p k. mapped_none _ (s.channels p) k)
changes program s s2 (registered t name args v) x = changed t name args v x.0 x.1 x.3 x.4 (registries_of x.6)
changes program s s2 (printed t line) x = unchanged (registries_of x.4) (λ roles more g. g) (λ p k. mapped_none _ (s.channels p) k)
changes program s s2 (ticked m ports) x = unchanged (registries_of x.4) (λ roles more g. g) (λ p k. mapped_none _ (s.channels p) k)
changes program s s2 (is_over t Ended) x = unchanged (registries_of x.4) (λ roles more g. g) (λ p k. mapped_none _ (s.channels p) k)
changes program s s2 (is_over t (Faulted fault place result)) x = unchanged (registries_of x.4) (λ roles more g. g) (λ p k. mapped_none _ (s.channels p) k)

module _ (program : ProgramView) (roles more : Roles) (s s2 : State) (e : EventView) (typed : Typed program roles s) (sound : Sound s) (asks : (t : ℕ) (op : OpView) (x : Task) → RunsAtOperation s t op x → MayAsk program roles x.body op) (x : Step program s e s2) (g : GrowsAt roles more e) where
  grows : Grows roles more
  grows = grows_at program roles more s s2 e typed x g

  old_registry : (p : ℕ) (r : Registry) → s.registries p ≡ Some r → IsPublicPort more p × TypedRegistry more r
  old_registry p r at = let k = typed.registries p r at in (port_more program roles more grows p k.0, registry_more program roles more grows r k.1)

  -- what is made of channels is typed
  made_typed : (what : WhatView) (r : Registry) → IsPublicWhat roles what → unmet s (needs_to_make what) (operands_to_make what) ≡ None → registry_made what ≡ Some r → TypedRegistry roles r
  made_typed (mult source) r h u e = subst (TypedRegistry roles) (let k : a_mult (port_of_value source) [] ≡ r = cc in k) (channel_public roles s source h (or_none _ _ u).0, tt)
  made_typed (mix out changes) r h u e =
      let k = or_none _ _ u in
      subst (TypedRegistry roles) (let j : a_mix (port_of_value out) (port_of_value changes) false [] ≡ r = cc in j) (channel_public roles s out h.0 k.0, channel_public roles s changes h.1 (or_none _ _ k.1).0, tt)
  made_typed (publication source) r h u e = subst (TypedRegistry roles) (let k : a_publication (port_of_value source) [] ≡ r = cc in k) (channel_public roles s source h (or_none _ _ u).0, tt)
  made_typed unbuffered r h u e = absurd (let k : None ≡ Some r = e in cc)
  made_typed (fixed n) r h u e = absurd (let k : None ≡ Some r = e in cc)
  made_typed (dropping n) r h u e = absurd (let k : None ≡ Some r = e in cc)
  made_typed (sliding n) r h u e = absurd (let k : None ≡ Some r = e in cc)
  made_typed promise r h u e = absurd (let k : None ≡ Some r = e in cc)
  made_typed (timeout n) r h u e = absurd (let k : None ≡ Some r = e in cc)

  -- a port that is no channel is public
  registry_role : (t : ℕ) (what : WhatView) (q : Role) (r : Registry) → IsNewAs t what q → registry_made what ≡ Some r → q ≡ public
  registry_role t what public r n e = refl
  registry_role t what (hidden u (jobs w)) r n e = absurd (let k : None ≡ Some r = sym (ap registry_made n.1.1) ∙ e in cc)
  registry_role t what (hidden u (replies w)) r n e = absurd (let k : None ≡ Some r = sym (ap registry_made n.1.1) ∙ e in cc)
  registry_role t what (hidden u (reply w v)) r n e = absurd (let k : None ≡ Some r = sym (ap registry_made n.1) ∙ e in cc)
  registry_role t what (hidden u acks) r n e = absurd (let k : None ≡ Some r = sym (ap registry_made n.1) ∙ e in cc)

  -- what an operation on a registry leaves
  registered_typed : (name : RegisterName) (args : Trees) (v : Tree) (r : Registry) → ArePublic roles args → unmet s (needs_to_register name) args ≡ None → registering_gives s name args ≡ answers v r → IsPublicPort roles (port_of_value (first_of args)) × IsPublic roles v × TypedRegistry roles r
  registered_typed name args v r h u e = by (s.registries (port_of_value (first_of args))) refl e where
    by : (o : Option Registry) → s.registries (port_of_value (first_of args)) ≡ o → registered_at s o name (rest_of args) ≡ answers v r → IsPublicPort roles (port_of_value (first_of args)) × IsPublic roles v × TypedRegistry roles r
    by None at e = absurd (let k : refuses Fault.NotAPort ≡ answers v r = e in cc)
    by (Some q) at e =
        let k = typed.registries (port_of_value (first_of args)) q at in
        let a : IsPublic roles v × TypedRegistry roles r = subst (GoesOnPublic roles) e (register_public roles s q name args k.1 h u) in
        (k.0, a.0, a.1)

  fit : (t : ℕ) (op : OpView) (y : Task) → RunsAtOperation s t op y → unfit s op ≡ None
  fit t op y at = (or_none (unfit s op) (too_many s op) at.3).0

  register_typed : (t : ℕ) (name : RegisterName) (args : Trees) (v : Tree) (y : Task) (r : Registry) → RunsAtOperation s t (registering name args) y → registering_gives s name args ≡ answers v r → IsPublicPort roles (port_of_value (first_of args)) × IsPublic roles v × TypedRegistry roles r
  register_typed t name args v y r at gives = registered_typed name args v r (asks t (registering name args) y at) (or_none (unmet s (needs_to_register name) args) (fault_of_registered (registering_gives s name args)) (fit t (registering name args) y at)).0 gives

  pub registries_after : (p : ℕ) (r : Registry) → s2.registries p ≡ Some r → IsPublicPort more p × TypedRegistry more r
  registries_after p r there = by e (changes program s s2 e x) g where
    by : (e : EventView) → Changes program s s2 e → GrowsAt roles more e → IsPublicPort more p × TypedRegistry more r
    by e (new t q what moment y at is) g = at_port (eqb q p) refl (ap (λ (f : ℕ → Option Registry). f p) (sym is) ∙ there) where
      at_port : (b : Bool) → eqb q p ≡ b → cond b (registry_made what) (s.registries p) ≡ Some r → IsPublicPort more p × TypedRegistry more r
      at_port true i k =
          let role = ap (λ (z : Roles). z p) g.1 ∙ ap (λ b. cond b (Some g.0) (roles p)) i ∙ ap (λ (z : Role). Some z) (registry_role t what g.0 r g.2 k) in
          (role, registry_more program roles more grows r (made_typed what r (asks t (making what) y at) (fit t (making what) y at) k))
      at_port false i k = old_registry p r k
    by e (changed t name args v y q at gives is) g = at_port (eqb (port_of_value (first_of args)) p) refl (ap (λ (f : ℕ → Option Registry). f p) (sym is) ∙ there) where
      at_port : (b : Bool) → eqb (port_of_value (first_of args)) p ≡ b → cond b (Some q) (s.registries p) ≡ Some r → IsPublicPort more p × TypedRegistry more r
      at_port true i k =
          let a = register_typed t name args v y q at gives in
          (port_more program roles more grows p (subst (IsPublicPort roles) (eqb-true (port_of_value (first_of args)) p i) a.0), registry_more program roles more grows r (subst (TypedRegistry roles) (let j : q ≡ r = cc in j) a.2))
      at_port false i k = old_registry p r k
    by e (unchanged is same gone) g = old_registry p r (ap (λ (f : ℕ → Option Registry). f p) (sym is) ∙ there)

  -- the answer of an operation on a registry
  pub answer_public : (t : ℕ) (name : RegisterName) (args : Trees) (v : Tree) → Step program s (registered t name args v) s2 → IsPublic roles v
  answer_public t name args v y = (register_typed t name args v y.0 y.1 y.3 y.4).1

  -- what has no channel and no registry has no role
  pub absent_after : (p : ℕ) → s2.channels p ≡ None → s2.registries p ≡ None → more p ≡ None
  absent_after p no_channel no_registry = by e (changes program s s2 e x) g (sym (step_tells program s s2 e p x sound) ∙ no_channel) where
    old : more ≡ roles → s.channels p ≡ None → s.registries p ≡ None → more p ≡ None
    old is c r = ap (λ (z : Roles). z p) is ∙ typed.absent p c r

    none_at : (f : ℕ → Option Registry) → s2.registries ≡ f → f p ≡ None
    none_at f is = ap (λ (h : ℕ → Option Registry). h p) (sym is) ∙ no_registry

    by : (e : EventView) → Changes program s s2 e → GrowsAt roles more e → channel_after p e (s.channels p) ≡ None → more p ≡ None
    by e (new t q what moment y at is) g told = at_port (eqb q p) refl told (none_at (update eqb s.registries q (registry_made what)) is) where
      at_port : (b : Bool) → eqb q p ≡ b → cond b (channel_made what) (s.channels p) ≡ None → cond b (registry_made what) (s.registries p) ≡ None → more p ≡ None
      at_port true i k j = absurd (something_made what k j)
      at_port false i k j = ap (λ (z : Roles). z p) g.1 ∙ ap (λ b. cond b (Some g.0) (roles p)) i ∙ typed.absent p k j
    by e (changed t name args v y q at gives is) g told = old g (mapped_none _ (s.channels p) told) (at_port (eqb (port_of_value (first_of args)) p) (none_at (update eqb s.registries (port_of_value (first_of args)) (Some q)) is)) where
      at_port : (b : Bool) → cond b (Some q) (s.registries p) ≡ None → s.registries p ≡ None
      at_port true k = absurd (let j : Some q ≡ None = k in cc)
      at_port false k = k
    by e (unchanged is same gone) g told = old (same roles more g) (gone p told) (none_at s.registries is)
