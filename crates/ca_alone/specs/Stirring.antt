-- Which channels an event may bring to settle, told by the channels that are held.
use Rattle.std.specs.Prelude.{◌≡◌, ℕ, List, [], ◌∷◌, Option, Some, option_map}
use Rattle.ca_term.specs.declared.event.Ending.TheVariants.{Ended, Faulted}
use Rattle.ca_term.specs.Event.{EventView, made, spawned, done, met, parked, posted, settled, defaulted, closed, registered, printed, ticked, over, port_number}
use Rattle.ca_meaning.specs.Wait.{port_of}
use Rattle.ca_commit.specs.Contents.{Kept, channel_of, home}
use Rattle.ca_solo.specs.Stirs.{done_stirred, port_if}

-- a done take of a fixed buffer and a done put into a promise stir their channel; so do what is closed and a Tick
abbrev pub stirs_in : (ℕ → Option Kept) → EventView → List ℕ
stirs_in ports (done t k b a) = done_stirred (channel_of (ports (port_of b))) b
stirs_in ports (closed t p) = p ∷ []
stirs_in ports (ticked m ps) = ps
stirs_in ports (over t Ended) = []
stirs_in ports (over t (Faulted fault place result)) = port_if (option_map port_number result)
stirs_in ports (made t p what moment) = []
stirs_in ports (spawned t u kind result) = []
stirs_in ports (met t k side p v w o) = []
stirs_in ports (parked t w bs) = []
stirs_in ports (posted t w p v) = []
stirs_in ports (settled w k side p v) = []
stirs_in ports (defaulted t v) = []
stirs_in ports (registered t name args v) = []
stirs_in ports (printed t line) = []

-- the bank is held of the channel at which the event is done
abbrev pub HoldsDone : (ℕ → Option (ℕ → Option Kept)) → EventView → Type 0
HoldsDone banks (done t k b a) = (f : ℕ → Option Kept) × (banks (home (port_of b)) ≡ Some f)
HoldsDone banks other = Unit {0}
