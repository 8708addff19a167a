-- Through each run of a checked program whose text is sealed ports keep to their roles.
use Rattle.std.proofs.Common.{◌≡◌, ℕ, List, [], ◌∷◌, ◌++◌, refl, sym, ap, ◌∙◌, Bool, true, false, cond, Option, Some, None, eqb, eqb-true}
use Rattle.ca_term.specs.Operation.{WhatView}
use Rattle.ca_term.specs.Program.{ProgramView, IsProgram}
use Rattle.ca_term.specs.Event.{EventView, made}
use Rattle.ca_meaning.specs.State.{State}
use Rattle.ca_meaning.specs.Steps.{Step, Steps}
use Rattle.ca_meaning.specs.Legal.{Reaches}
use Rattle.ca_roles.specs.Roles.{Role, Roles, no_roles}
use Rattle.ca_roles.specs.Sealed.{IsSealed}
use Rattle.ca_roles.specs.HiddenLaw.{KeepsRoles, FollowsRoles, RolesAlong, HiddenLaw}
use Rattle.ca_roles.proofs.Closing.{closed_by}
use Rattle.ca_roles.proofs.NewRoles.{GrowsAt, Makes, makes, makes_none, makes_of}
use Rattle.ca_roles.proofs.TypedSteps.{Onward}
use Rattle.ca_roles.proofs.TypedRuns.{Known, opening_known, asks_known, step_known}

-- a port gets its role by its Make
new_role : (roles more : Roles) (e : EventView) (p : ℕ) (r : Role) → GrowsAt roles more e → roles p ≡ None → more p ≡ Some r → (t : ℕ) × (what : WhatView) × (moment : Option ℕ) × (e ≡ made t p what moment)
new_role roles more e p r g none at = by e (makes_of roles more e g) where
  by : (e : EventView) → Makes roles more e → (t : ℕ) × (what : WhatView) × (moment : Option ℕ) × (e ≡ made t p what moment)
  by e (makes_none is after) = absurd (let k : None ≡ Some r = sym none ∙ ap (λ (z : Roles). z p) (sym is) ∙ at in cc)
  by e (makes t q what moment o is new) = (t, what, moment, here (eqb q p) refl (ap (λ (z : Roles). z p) (sym is) ∙ at)) where
    here : (b : Bool) → eqb q p ≡ b → cond b (Some o) (roles p) ≡ Some r → made t q what moment ≡ made t p what moment
    here true i k = ap (λ n. made t n what moment) (eqb-true q p i)
    here false i k = absurd (let j : None ≡ Some r = sym none ∙ k in cc)

follows_roles : (program : ProgramView) (roles more : Roles) (s s2 : State) (e : EventView) → KeepsRoles program roles s → Step program s e s2 → Onward program roles more s s2 e → FollowsRoles program roles more s e
follows_roles program roles more s s2 e k x o = record {
  grows = o.grows;
  new = λ p r none at. new_role roles more e p r o.grows_so none at;
  closes = λ p m h role is. let c = closed_by program roles s s2 k.typed k.asks e p m h x role is in (c.task, c.was, c.event, c.there, c.may);
  makes_reply = o.makes_reply;
}

module _ (program : ProgramView) (checked : IsProgram program) (sealed : IsSealed program) where
  keeps : (journal : List EventView) (roles : Roles) (s : State) → Known program journal roles s → KeepsRoles program roles s
  keeps journal roles s k = record { typed = k.typed; asks = asks_known program checked sealed journal roles s k }

  along : (es journal : List EventView) (roles : Roles) (s last : State) → Known program journal roles s → Steps program s es last → (more : Roles) × RolesAlong program roles s es more last
  along [] journal roles s last k x = (roles, (x, refl, keeps journal roles s k))
  along (e ∷ es) journal roles s last k x =
      let o = step_known program checked sealed journal roles s x.0 e k x.1 in
      let r = along es (journal ++ e ∷ []) o.0 x.0 last o.2 x.2 in
      (r.0, (keeps journal roles s k, x.0, o.0, x.1, follows_roles program roles o.0 s x.0 e (keeps journal roles s k) x.1 o.1, r.1))

pub hidden_law : (program : ProgramView) → IsProgram program → IsSealed program → (journal : List EventView) (s : State) → Reaches program journal s → HiddenLaw program journal s
hidden_law program checked sealed journal s r =
    let k = along program checked sealed journal [] no_roles r.opening s (opening_known program checked sealed r.opening r.opens) r.steps in
    record { opening = r.opening; opens = r.opens; roles = k.0; along = k.1 }
