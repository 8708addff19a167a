-- The roles after an event: those before it, and that of the port that it makes.
use Rattle.std.proofs.Common.{◌≡◌, ℕ, suc, refl, sym, ap, ◌∙◌, subst, Bool, true, false, cond, Option, Some, None, option_map, eqb, eqb-true}
use Rattle.ca_value.specs.Buffer.{no_buffer, fixed_buffer}
use Rattle.ca_term.specs.Operation.{WhatView, fixed}
use Rattle.ca_term.specs.Program.{ProgramView}
use Rattle.ca_term.specs.Event.{EventView, made, spawned, done, met, parked, posted, settled, defaulted, closed, registered, printed, ticked, over as is_over}
use Rattle.ca_meaning.specs.Channel.{Channel, channel_made, new_channel}
use Rattle.ca_meaning.specs.State.{State}
use Rattle.ca_meaning.specs.Steps.{Step}
use Rattle.ca_meaning.specs.History.{mark_on, marked, closes, shut_if, channel_after}
use Rattle.ca_roles.specs.Roles.{Hidden, jobs, replies, reply, acks, Role, public, hidden, Roles, known_as, Grows}
use Rattle.ca_roles.specs.Typed.{IsChannelFor, Typed}
use Rattle.ca_roles.proofs.Rested.{IsMadeFor, IsMadeAs}

-- what is made for the hidden role: a script makes all but reply ports, which a feed makes
abbrev pub IsNewFor : Hidden → WhatView → Type 0
IsNewFor (jobs w) what = IsMadeFor (jobs w) what
IsNewFor (replies w) what = IsMadeFor (replies w) what
IsNewFor (reply w v) what = what ≡ fixed 1
IsNewFor acks what = IsMadeFor acks what

abbrev pub IsNewAs : ℕ → WhatView → Role → Type 0
IsNewAs t what public = Unit {0}
IsNewAs t what (hidden u x) = (u ≡ t) × IsNewFor x what

pub made_new : (t : ℕ) (what : WhatView) (r : Role) → IsMadeAs t what r → IsNewAs t what r
made_new t what public h = tt
made_new t what (hidden u (jobs w)) h = h
made_new t what (hidden u (replies w)) h = h
made_new t what (hidden u (reply w v)) h = absurd h.1
made_new t what (hidden u acks) h = h

-- the new channel
pub new_for : (x : Hidden) (what : WhatView) → IsNewFor x what → (c : Channel) × (channel_made what ≡ Some c) × IsChannelFor x c × (c.closed ≡ false)
new_for (jobs w) what h = (new_channel fixed_buffer (suc h.0), ap channel_made h.1, refl, refl)
new_for (replies w) what h = (new_channel fixed_buffer (suc h.0), ap channel_made h.1, refl, refl)
new_for (reply w v) what h = (new_channel fixed_buffer 1, ap channel_made h, (refl, refl), refl)
new_for acks what h = (new_channel no_buffer 0, ap channel_made h, (refl, refl), refl)

-- the roles before and after the event
abbrev pub GrowsAt : Roles → Roles → EventView → Type 0
GrowsAt roles more (made t p what moment) = (r : Role) × (more ≡ known_as roles p r) × IsNewAs t what r
GrowsAt roles more e = more ≡ roles

-- an event that makes a port, or another one
pub data Makes (roles more : Roles) : EventView → Type 0 where
  makes : (t p : ℕ) (what : WhatView) (moment : Option ℕ) (r : Role) → more ≡ known_as roles p r → IsNewAs t what r → Makes roles more (made t p what moment)
  makes_none : {e : EventView} → more ≡ roles → ((p : ℕ) (o : Option Channel) → channel_after p e o ≡ option_map (λ c. shut_if (closes p e) (marked (mark_on p e) c)) o) → Makes roles more e

pub makes_of : (roles more : Roles) (e : EventView) → GrowsAt roles more e → Makes roles more e
makes_of roles more (made t p what moment) g = makes t p what moment g.0 g.1 g.2
makes_of roles more (spawned t u kind result) g = makes_none g (λ p o. refl)
makes_of roles more (done t k b a) g = makes_none g (λ p o. refl)
makes_of roles more (met t k side p v w o) g = makes_none g (λ p o. refl)
makes_of roles more (parked t w bs) g = makes_none g (λ p o. refl)
makes_of roles more (posted t w p v) g = makes_none g (λ p o. refl)
makes_of roles more (settled w k side p v) g = makes_none g (λ p o. refl)
makes_of roles more (defaulted t v) g = makes_none g (λ p o. refl)
makes_of roles more (closed t p) g = makes_none g (λ p o. refl)
makes_of roles more (registered t name args v) g = makes_none g (λ p o. refl)
makes_of roles more (printed t line) g = makes_none g (λ p o. refl)
makes_of roles more (ticked m ports) g = makes_none g (λ p o. refl)
makes_of roles more (is_over t how) g = makes_none g (λ p o. refl)

-- where the port is new, all that has a role keeps it
pub known_grows : (roles : Roles) (p : ℕ) (r : Role) → roles p ≡ None → Grows roles (known_as roles p r)
known_grows roles p r new n q e = by (eqb p n) refl where
  by : (b : Bool) → eqb p n ≡ b → cond b (Some r) (roles n) ≡ Some q
  by true i = let j : None ≡ Some q = sym new ∙ ap roles (eqb-true p n i) ∙ e in absurd cc
  by false i = e

pub grows_at : (program : ProgramView) (roles more : Roles) (s s2 : State) (e : EventView) → Typed program roles s → Step program s e s2 → GrowsAt roles more e → Grows roles more
grows_at program roles more s s2 e typed x g = by e (makes_of roles more e g) x where
  by : (e : EventView) → Makes roles more e → Step program s e s2 → Grows roles more
  by e (makes t p what moment r is new) x = subst (Grows roles) (sym is) (known_grows roles p r (typed.absent p x.3 x.4))
  by e (makes_none is after) x = subst (Grows roles) (sym is) (λ n r k. k)
