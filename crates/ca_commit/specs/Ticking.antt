-- What the clock does to held parts.
use Rattle.std.specs.Prelude.{◌≡◌, ℕ, ◌≤◌, List, [], ◌∷◌, Option, Some, None, option_map, map}
use Rattle.ca_value.specs.Deadlines.{due, open_after}
use Rattle.ca_value.specs.Seq.{list}
use Rattle.ca_value.specs.declared.seq.Seq.{Seq}
use Rattle.ca_value.specs.declared.value.PortId.{PortId}
use Rattle.ca_timers.specs.Timers.{TimersView}
use Rattle.ca_term.specs.Event.{port_number}
use Rattle.ca_bank.specs.Kept.{closed_channel}
use Rattle.ca_commit.specs.Contents.{Kept}
use Rattle.ca_commit.specs.Listing.{changed_at}
use Rattle.ca_commit.specs.NewPort.{Times}
use Rattle.ca_commit.specs.declared.held.Held.{Held}

-- the channels that are due at moment m
abbrev pub due_in : Option TimersView → ℕ → List ℕ
due_in None m = []
due_in (Some t) m = due m t.deadlines

-- m is no earlier than the last moment
abbrev pub IsLater : Option TimersView → ℕ → Type 0
IsLater None m = Unit {0}
IsLater (Some t) m = t.moment ≤ m

-- their deadlines are gone, and m is the last moment
abbrev pub ticked_at : ℕ → Times → Times
ticked_at m c = record { deadlines = open_after m c.deadlines; now = m }

-- the channels are closed, one by one
abbrev pub closed_all : List ℕ → (ℕ → Option (ℕ → Option Kept)) → ℕ → Option (ℕ → Option Kept)
closed_all [] m = m
closed_all (p ∷ ps) m = closed_all ps (changed_at p (option_map closed_channel) m)

-- the channel of a task's result port is closed, if it has one
abbrev pub closed_result : Option ℕ → (ℕ → Option (ℕ → Option Kept)) → ℕ → Option (ℕ → Option Kept)
closed_result None m = m
closed_result (Some p) m = changed_at p (option_map closed_channel) m

abbrev pub numbers_of_ports : Seq PortId → List ℕ
numbers_of_ports s = map port_number (list s)

-- the ports that are due, for the event
abbrev pub IsMadeToTick : {A : Type 0} → Held A → ℕ → Type 0
IsMadeToTick h m = option_map numbers_of_ports h.spare.ports ≡ Some (due_in h.timers m)
