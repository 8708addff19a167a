-- The parts that a drawn event touches, in ascending order. Of n workers the lanes are the parts 0, 1, .., then
-- come 16 banks, 16 shards, the timers, and the ready parts.
use Rattle.std.specs.Prelude.{◌≢◌, ℕ, zero, suc, ◌+◌, ◌≤◌, List, [], ◌∷◌, ◌++◌, Option, Some, None, Bool, true, false, cond, eqb, nat_lt, map}
use Rattle.ca_term.specs.declared.event.Side.{Side}
use Rattle.ca_term.specs.declared.event.Ending.TheVariants.{Ended, Faulted}
use Rattle.ca_term.specs.Event.{EventView, made, spawned, done, met, parked, posted, settled, defaulted, closed, registered, printed, ticked, over, port_number as result_number}
use Rattle.ca_meaning.specs.Operands.{port_of_value, first_of}
use Rattle.ca_meaning.specs.Wait.{port_of, is_among}
use Rattle.ca_commit.specs.Contents.{home}

-- an event of the journal, or a silent one
pub data Turn : Type 0 where
  shown : (e : EventView) → Turn
  -- the worker picks the first task of the ready part r
  picks : (r : ℕ) → Turn
  -- its task stands back
  yields : Turn
  -- the stale handler of that wait leaves the queue of this side of channel p
  prunes : (side : Side) (p wait : ℕ) → Turn
  -- the clock is asked, and answers or fails
  asks_clock : Turn
  fails : Turn
  -- the run is to stop
  stops : Turn
  -- the worker leaves a marked run
  halts : Turn
  -- it leaves a run in which nothing can go on
  stalls : Turn

-- A drawn event: worker w of n draws it. Its operation may name ports that it doesn't, and waits may have been
-- looked at that it doesn't name: these stand beside it.
pub record Drawn : Type 0 where
  pub worker : ℕ
  pub workers : ℕ
  pub what : Turn
  pub ports : List ℕ
  pub looked : List ℕ

-- what an event names by itself
pub record NamedParts : Type 0 where
  pub lane : Bool
  pub ports : List ℕ
  pub waits : List ℕ
  pub timers : Bool
  pub ready : Option ℕ

abbrev pub of_task : List ℕ → List ℕ → NamedParts
of_task ports waits = record { lane = true; ports = ports; waits = waits; timers = false; ready = None }

abbrev pub event_names : ℕ → EventView → NamedParts
event_names w (made t p what None) = of_task (p ∷ []) []
event_names w (made t p what (Some m)) = record { lane = true; ports = p ∷ []; waits = []; timers = true; ready = None }
event_names w (spawned t u kind r) = record { lane = true; ports = []; waits = []; timers = false; ready = Some w }
event_names w (done t k b v) = of_task (port_of b ∷ []) []
event_names w (met t k side p v wait o) = record { lane = true; ports = p ∷ []; waits = wait ∷ []; timers = false; ready = Some w }
event_names w (parked t wait bs) = of_task (map port_of bs) (wait ∷ [])
event_names w (posted t wait p v) = of_task (p ∷ []) (wait ∷ [])
event_names w (settled wait k side p v) = record { lane = false; ports = p ∷ []; waits = wait ∷ []; timers = false; ready = Some w }
event_names w (defaulted t v) = of_task [] []
event_names w (closed t p) = of_task (p ∷ []) []
event_names w (registered t name args v) = of_task (port_of_value (first_of args) ∷ []) []
event_names w (printed t line) = of_task [] []
event_names w (ticked m ps) = record { lane = false; ports = ps; waits = []; timers = true; ready = None }
event_names w (over t Ended) = record { lane = true; ports = []; waits = []; timers = eqb t 0; ready = None }
event_names w (over t (Faulted f at None)) = record { lane = true; ports = []; waits = []; timers = eqb t 0; ready = None }
event_names w (over t (Faulted f at (Some p))) = record { lane = true; ports = result_number p ∷ []; waits = []; timers = eqb t 0; ready = None }

abbrev pub only_timers : NamedParts
only_timers = record { lane = false; ports = []; waits = []; timers = true; ready = None }

-- of the parts from number i on, as many as said, those that t wants
abbrev pub wanted : (ℕ → Bool) → ℕ → ℕ → ℕ → List ℕ
wanted t base i zero = []
wanted t base i (suc c) = cond (t i) ((base + i) ∷ wanted t base (suc i) c) (wanted t base (suc i) c)

-- the banks of these ports, the shards of these waits
abbrev pub homes : List ℕ → ℕ → Bool
homes ns i = is_among i (map home ns)

abbrev pub listed_if : Bool → ℕ → List ℕ
listed_if true i = i ∷ []
listed_if false i = []

-- where the ready part r of n stands, if one is named
abbrev pub ready_at : ℕ → Option ℕ → List ℕ
ready_at n None = []
ready_at n (Some r) = (n + 33 + r) ∷ []

abbrev pub touched : ℕ → ℕ → List ℕ → List ℕ → NamedParts → List ℕ
touched w n ports looked x =
    listed_if x.lane w ++ (wanted (homes (x.ports ++ ports)) n 0 16 ++ (wanted (homes (x.waits ++ looked)) (n + 16) 0 16 ++ (listed_if x.timers (n + 32) ++ ready_at n x.ready)))

-- Halting where nothing can go on looks at all parts; no other event does.
abbrev pub turn_touches : ℕ → ℕ → List ℕ → List ℕ → Turn → List ℕ
turn_touches w n ports looked (shown e) = touched w n ports looked (event_names w e)
turn_touches w n ports looked (picks r) = touched w n ports looked (record { lane = true; ports = []; waits = []; timers = false; ready = Some r })
turn_touches w n ports looked yields = touched w n ports looked (record { lane = true; ports = []; waits = []; timers = false; ready = Some w })
turn_touches w n ports looked (prunes side p wait) = touched w n ports looked (record { lane = false; ports = p ∷ []; waits = wait ∷ []; timers = false; ready = None })
turn_touches w n ports looked asks_clock = touched w n ports looked only_timers
turn_touches w n ports looked fails = touched w n ports looked only_timers
turn_touches w n ports looked stops = touched w n ports looked only_timers
turn_touches w n ports looked halts = touched w n ports looked only_timers
turn_touches w n ports looked stalls = wanted (λ i. true) 0 0 (n + 33 + n)

-- no worker is w where n is at most w
abbrev pub touches : Drawn → List ℕ
touches d = cond (nat_lt d.worker d.workers) (turn_touches d.worker d.workers d.ports d.looked d.what) []

-- all have the property
abbrev pub AllHave : (ℕ → Type 0) → List ℕ → Type 0
AllHave P [] = Unit {0}
AllHave P (x ∷ xs) = P x × AllHave P xs

-- no number stands twice
abbrev pub NoneTwice : List ℕ → Type 0
NoneTwice [] = Unit {0}
NoneTwice (i ∷ is) = AllHave (λ j. i ≢ j) is × NoneTwice is

-- ascending, from lo on
abbrev pub Rises : ℕ → List ℕ → Type 0
Rises lo [] = Unit {0}
Rises lo (x ∷ xs) = (lo ≤ x) × Rises (suc x) xs
