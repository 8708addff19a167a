-- Which channels an event may bring to settle.
use Rattle.std.specs.Prelude.{◌≡◌, ◌⊎◌, ℕ, ◌≤◌, List, [], ◌∷◌, Option, Some, None, Bool, cond, option_map}
use Rattle.ca_term.specs.declared.event.Ending.TheVariants.{Ended, Faulted}
use Rattle.ca_term.specs.Event.{BranchView, take_of, put_of, EventView, made, spawned, done, met, parked, posted, settled, defaulted, closed, registered, printed, ticked, over, port_number}
use Rattle.ca_meaning.specs.Channel.{Channel, is_fixed, is_promise}
use Rattle.ca_meaning.specs.Wait.{port_of}
use Rattle.ca_meaning.specs.State.{State}
use Rattle.ca_meaning.specs.Sound.{Each}
use Rattle.ca_meaning.specs.Solo.{CanSettle}

abbrev pub port_if : Option ℕ → List ℕ
port_if None = []
port_if (Some p) = p ∷ []

-- a Done stirs its channel only where it is a take from a fixed buffer, or a put into a promise
abbrev pub done_stirs : Channel → BranchView → Bool
done_stirs c (take_of p) = is_fixed c.policy
done_stirs c (put_of p v) = is_promise c.policy

abbrev pub done_stirred : Option Channel → BranchView → List ℕ
done_stirred None b = []
done_stirred (Some c) b = cond (done_stirs c b) (port_of b ∷ []) []

-- the channels that an event of the state may bring to settle
abbrev pub stirred : State → EventView → List ℕ
stirred s (made t p what moment) = []
stirred s (spawned t u kind result) = []
stirred s (done t k b a) = done_stirred (s.channels (port_of b)) b
stirred s (met t k side p v w o) = []
stirred s (parked t w bs) = []
stirred s (posted t w p v) = []
stirred s (settled w k side p v) = []
stirred s (defaulted t v) = []
stirred s (closed t p) = p ∷ []
stirred s (registered t name args v) = []
stirred s (printed t line) = []
stirred s (ticked m ports) = ports
stirred s (over t Ended) = []
stirred s (over t (Faulted fault place result)) = port_if (option_map port_number result)

abbrev pub AmongPorts : ℕ → List ℕ → Type 0
AmongPorts q [] = ⊥
AmongPorts q (p ∷ ps) = (q ≡ p) ⊎ AmongPorts q ps

abbrev pub PortsAscend : List ℕ → Type 0
PortsAscend [] = Unit {0}
PortsAscend (p ∷ ps) = Each (λ q. p ≤ q) ps × PortsAscend ps

-- the channels that a Tick closes, the least first
abbrev pub Ordered : List ℕ → List ℕ → Type 0
Ordered ports us = PortsAscend us × ((q : ℕ) → AmongPorts q ports → AmongPorts q us)

-- only these channels may settle
abbrev pub OnlyThese : State → List ℕ → Type 0
OnlyThese s us = (q : ℕ) → CanSettle s q → AmongPorts q us
