-- Each run of a program that is sealed, and starts each user of a hidden port once, is guarded.
use Rattle.std.proofs.Common.{◌≡◌, ℕ, List, [], ◌∷◌, ◌++◌, refl, sym, ap, ◌∙◌, subst, true, false, Some}
use Rattle.ca_value.specs.Tree.{Trees}
use Rattle.ca_term.specs.declared.place.Place.{Place}
use Rattle.ca_term.specs.declared.head.Head.TheVariants.{Spawn}
use Rattle.ca_term.specs.declared.head.SeedKind.{SeedKind}
use Rattle.ca_term.specs.declared.head.SeedKind.TheVariants.{Go, System}
use Rattle.ca_term.specs.declared.head.SystemTask.{SystemTask}
use Rattle.ca_term.specs.declared.head.SystemTask.TheVariants.{Deliver}
use Rattle.ca_term.specs.Kernel.{Kernel, Kernels, apply}
use Rattle.ca_term.specs.Operation.{OpView, spawning, system}
use Rattle.ca_term.specs.Program.{ProgramView, IsProgram}
use Rattle.ca_term.specs.Event.{EventView}
use Rattle.ca_meaning.specs.Asking.{alts_of, seed_of}
use Rattle.ca_meaning.specs.Body.{BodyView}
use Rattle.ca_meaning.specs.Redex.{redex, values_of}
use Rattle.ca_meaning.specs.State.{State, Task}
use Rattle.ca_meaning.specs.Task.{script}
use Rattle.ca_meaning.specs.Going.{IsAtOp, RunsAtOperation}
use Rattle.ca_meaning.specs.Steps.{Steps}
use Rattle.ca_meaning.specs.Legal.{Reaches}
use Rattle.ca_roles.specs.Roles.{Role, Roles, no_roles}
use Rattle.ca_roles.specs.Sealed.{HasMask, plain, Sealed, IsSealed}
use Rattle.ca_roles.specs.Once.{the_feed, the_collect, the_mult, StartsOnce}
use Rattle.ca_roles.specs.Typed.{TypedBody}
use Rattle.ca_roles.specs.SoleUsers.{own_of}
use Rattle.ca_roles.proofs.Forms.{Form, takes, puts, posts, chooses, makes, spawns, closes, registers, prints, body_form}
use Rattle.ca_roles.proofs.Rested.{redex_sealed}
use Rattle.ca_roles.proofs.Sole.{Spent}
use Rattle.ca_roles.proofs.SoleSteps.{spent_step}
use Rattle.ca_roles.proofs.SoleLaw.{opening_spent}
use Rattle.ca_roles.proofs.TypedRuns.{Known, opening_known, bodies_known, asks_known, step_known}
use Rattle.ca_networks.proofs.Guarded.{Guard, Guarded, IsGuarded}

-- no sealed text starts a delivery
no_mask : {G : Type 0} (me : ℕ) (p : Place) (ts : Kernels) (mask : List Role) → HasMask me (Spawn (System Deliver)) p ts mask → G
no_mask me p ts mask (plain f) = absurd (let j : true ≡ false = f in cc)

same_kind : (k j : SystemTask) (vs us : Trees) (p q : Place) → spawning (system k vs p) ≡ spawning (system j us q) → k ≡ j
same_kind k j vs us p q e = cc

no_seed : {G : Type 0} (me : ℕ) (roles : Roles) (kind : SeedKind) (ts : Kernels) (p : Place) (values : Trees) (place : Place) → spawning (seed_of kind (values_of ts) p) ≡ spawning (system Deliver values place) → Sealed me roles (apply (Spawn kind) ts p) no_roles → G
no_seed me roles (Go n) ts p values place e h = absurd (let k : spawning (seed_of (Go n) (values_of ts) p) ≡ spawning (system Deliver values place) = e in cc)
no_seed me roles (System kind) ts p values place e h = let k = subst (λ z. Sealed me roles (apply (Spawn (System z)) ts p) no_roles) (same_kind kind Deliver (values_of ts) values p place e) h in no_mask me p ts k.0 k.1

no_delivery : {G : Type 0} (me : ℕ) (roles : Roles) (r : Kernel) (op : OpView) (values : Trees) (place : Place) → Form r op → op ≡ spawning (system Deliver values place) → Sealed me roles r no_roles → G
no_delivery me roles r op values place (spawns {kind} {ts} {p} bad) e h = no_seed me roles kind ts p values place e h
no_delivery me roles r op values place takes e h = absurd cc
no_delivery me roles r op values place puts e h = absurd cc
no_delivery me roles r op values place posts e h = absurd cc
no_delivery me roles r op values place (chooses {o} {ts} {p}) e h = absurd (let k : alts_of o (values_of ts) ≡ spawning (system Deliver values place) = e in cc)
no_delivery me roles r op values place (makes what f) e h = absurd cc
no_delivery me roles r op values place closes e h = absurd cc
no_delivery me roles r op values place (registers f) e h = absurd cc
no_delivery me roles r op values place prints e h = absurd cc

module _ (program : ProgramView) (checked : IsProgram program) (sealed : IsSealed program) (starts : StartsOnce program) where
  guard_of : (journal : List EventView) (roles : Roles) (s : State) → Known program journal roles s → Spent s → Guard program roles s
  guard_of journal roles s k h = record {
    typed = k.typed;
    asks = asks_known program checked sealed journal roles s k;
    starts_none = none;
    one_feed = λ t u x y f g l m n o at bt is js e. h.sole the_feed f.replies t u (x, at, ap own_of is) (y, bt, ap own_of js ∙ ap (λ q. Some (the_feed, q)) (sym e));
    one_collect = λ t u x y c d l m n o at bt is js e. h.sole the_collect c.replies t u (x, at, ap own_of is) (y, bt, ap own_of js ∙ ap (λ q. Some (the_collect, q)) (sym e));
    one_mult = λ t u x y a b l m n o at bt is js e. h.sole the_mult a.acks t u (x, at, ap own_of is) (y, bt, ap own_of js ∙ ap (λ q. Some (the_mult, q)) (sym e));
  } where
    none : (t : ℕ) (x : Task) (b : BodyView) (values : Trees) (place : Place) → x.body ≡ script b → RunsAtOperation s t (spawning (system Deliver values place)) x → ⊥
    none t x b values place is st =
        let text : Sealed t roles b.term no_roles = subst (TypedBody program t roles) is (k.typed.tasks t x st.0).body in
        let stands : IsAtOp (script b) (spawning (system Deliver values place)) = subst (λ z. IsAtOp z (spawning (system Deliver values place))) is st.2 in
        no_delivery t roles (redex b.term) (spawning (system Deliver values place)) values place (body_form b (record { op = spawning (system Deliver values place); place = stands.0 }) stands.1) refl (redex_sealed t roles b.term text)

  guarded_from : (es journal : List EventView) (roles : Roles) (s last : State) → Known program journal roles s → Spent s → Steps program s es last → (more : Roles) × Guarded program roles s es more last
  guarded_from [] journal roles s last k h x = (roles, (x, refl, guard_of journal roles s k h))
  guarded_from (e ∷ es) journal roles s last k h x =
      let o = step_known program checked sealed journal roles s x.0 e k x.1 in
      let spent = spent_step program checked sealed starts roles o.0 s x.0 e k.typed o.1.typed o.1.grows (bodies_known program checked sealed journal roles s k) k.traced.known.sound k.traced.stood o.1.answers x.1 h in
      let rest = guarded_from es (journal ++ e ∷ []) o.0 x.0 last o.2 spent x.2 in
      (rest.0, (guard_of journal roles s k h, x.0, o.0, x.1, record { grows = o.1.grows; makes_reply = o.1.makes_reply }, rest.1))

  pub runs_are_guarded : (journal : List EventView) (s : State) → Reaches program journal s → IsGuarded program journal s
  runs_are_guarded journal s r =
      let g = guarded_from journal [] no_roles r.opening s (opening_known program checked sealed r.opening r.opens) (opening_spent program checked sealed starts r.opening r.opens) r.steps in
      record { opening = r.opening; opens = r.opens; roles = g.0; guarded = g.1 }
