-- What the end of a task is, and does to what a follower has; and a tick of the clock.
use Rattle.std.specs.Prelude.{◌≡◌, ◌≢◌, ℕ, ◌<◌, ◌≤◌, List, [], Option, Some, None, option_map, eqb}
use Rattle.std.specs.Map.{update}
use Rattle.ca_value.specs.Deadlines.{due}
use Rattle.ca_value.specs.declared.value.PortId.{PortId}
use Rattle.ca_term.specs.declared.event.Ending.TheVariants.{Faulted}
use Rattle.ca_term.specs.declared.fault.Fault.{Fault}
use Rattle.ca_term.specs.declared.place.Place.{Place}
use Rattle.ca_term.specs.Event.{EventView, over, port_number}
use Rattle.ca_meaning.specs.TaskSteps.{moments}
use Rattle.ca_commit.specs.NewPort.{Times}
use Rattle.ca_commit.specs.Ticking.{closed_all, closed_result, ticked_at}
use Rattle.ca_follow.specs.Has.{Has}

-- it is the end of task t by this fault, whose result port, if it has one, is r
abbrev pub IsTaskFault : EventView → ℕ → Fault → Place → Option ℕ → Type 0
IsTaskFault e t f at r = (result : Option PortId) × (e ≡ over t (Faulted f at result)) × (option_map port_number result ≡ r)

-- at moment m exactly these ports are due
abbrev pub TicksOnly : ℕ → List ℕ → Option Times → Type 0
TicksOnly m ports o = (c : Times) × (o ≡ Some c) × (c.now ≤ m) × (m < moments) × (due m c.deadlines ≡ ports) × (ports ≢ [])

-- the task that is over isn't run any more, and its result port, if that is said, is closed
abbrev pub without_task : {A : Type 0} → Has A → ℕ → Option ℕ → Has A
without_task h t r = record h { running = update eqb h.running t None; bank = closed_result r h.bank }

-- the clock reaches m, and these channels are closed
abbrev pub ticked_by : {A : Type 0} → ℕ → List ℕ → Has A → Has A
ticked_by m ports h = record h { bank = closed_all ports h.bank; times = option_map (ticked_at m) h.times }
