-- What the event of a plan touches beside the worker's lane, and a worker that carries just that.
use Rattle.std.specs.Prelude.{◌≡◌, ℕ, ◌<◌, List, [], ◌∷◌, Option, Some, None, Bool, true, false, is_some, map}
use Rattle.ca_term.specs.Operation.{WhatView, timeout}
use Rattle.ca_meaning.specs.Wait.{port_of}
use Rattle.ca_commit.specs.Entering.{registry_of}
use Rattle.ca_commit.specs.Parking.{front_port}
use Rattle.ca_commit.specs.Planning.{Planned, to_close, to_do, to_make, to_meet, to_park, to_post, to_register, to_spawn}
use Rattle.ca_commit.specs.Touched as said
use Rattle.ca_table.specs.Carrying.{Carries}
use Rattle.ca_table.specs.Covering.{is_named_one}

-- the channels that it names, where p is the number of a new port
abbrev pub ports_needed : (port : ℕ) → Planned → List ℕ
ports_needed p (to_do k b alts) = port_of b ∷ []
ports_needed p (to_meet k b alts w o) = port_of b ∷ []
ports_needed p (to_park bs) = map port_of bs
ports_needed p (to_post bs) = front_port bs ∷ []
ports_needed p (to_make what) = p ∷ []
ports_needed p (to_close q) = q ∷ []
ports_needed p (to_register name args) = registry_of args ∷ []
ports_needed p other = []

-- the waits, where v is the number of a new one
abbrev pub waits_needed : (wait : ℕ) → Planned → List ℕ
waits_needed v (to_meet k b alts w o) = w ∷ []
waits_needed v (to_park bs) = v ∷ []
waits_needed v (to_post bs) = v ∷ []
waits_needed v other = []

abbrev pub is_timeout : WhatView → Bool
is_timeout (timeout n) = true
is_timeout what = false

-- the timers, for a timeout
abbrev pub needs_timers : Planned → Bool
needs_timers (to_make what) = is_timeout what
needs_timers other = false

-- the worker's own ready part, for a task that is woken or started
abbrev pub needs_ready : Planned → Bool
needs_ready (to_meet k b alts w o) = true
needs_ready (to_spawn kind r) = true
needs_ready other = false

abbrev pub own_if : Bool → ℕ → Option ℕ
own_if true w = Some w
own_if false w = None

abbrev pub needed : (w p v : ℕ) → Planned → said.NamedParts
needed w p v q = record { lane = true; ports = ports_needed p q; waits = waits_needed v q; timers = needs_timers q; ready = own_if (needs_ready q) w }

-- the banks of these ports and the shards of these waits are carried, and of timers and ready parts those that are named
pub record Brings {X : Type 0} (ports looked : List ℕ) (with_timers : Bool) (of_ready : Option ℕ) (h : Carries X) : Type 0 where
  pub banks : (i : ℕ) → i < 16 → said.homes ports i ≡ is_some (h.banks i)
  pub shards : (i : ℕ) → i < 16 → said.homes looked i ≡ is_some (h.shards i)
  pub timers : with_timers ≡ is_some h.timers
  pub ready : (r : ℕ) → is_named_one of_ready r ≡ is_some (h.ready r)

-- the event as worker w of n draws it, with the ports and waits that stand beside it
abbrev pub drawn_with : (w n : ℕ) → said.Turn → (ports looked : List ℕ) → said.Drawn
drawn_with w n what ports looked = record { worker = w; workers = n; what = what; ports = ports; looked = looked }
