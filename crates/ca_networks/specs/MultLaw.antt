-- The mult law: a mult puts each value once into each of its taps before it takes the next. (core.async API reference:
-- `mult`, `tap`.)
use Rattle.std.specs.Prelude.{◌≡◌, ℕ, List, [], ◌∷◌, ◌++◌, Some, true}
use Rattle.ca_value.specs.Tree.{Tree, Trees, bool, port, item}
use Rattle.ca_term.specs.declared.place.Place.{Place}
use Rattle.ca_term.specs.declared.head.RegisterName.TheVariants.{Taps}
use Rattle.ca_term.specs.declared.head.SystemTask.TheVariants.{Mult, Deliver}
use Rattle.ca_term.specs.Operation.{taking}
use Rattle.ca_term.specs.Program.{ProgramView}
use Rattle.ca_term.specs.Event.{EventView}
use Rattle.ca_meaning.specs.Registry.{TapView}
use Rattle.ca_meaning.specs.Asks.{taps_in, one_of, two_of}
use Rattle.ca_meaning.specs.MultTable.{MultPorts}
use Rattle.ca_meaning.specs.State.{State, Task}
use Rattle.ca_meaning.specs.Going.{IsAtOp}
use Rattle.ca_laws.specs.Deeds.{Deed, did_take, did_register, deeds}
use Rattle.ca_laws.specs.Taken.{put_in}
use Rattle.ca_laws.specs.MultRules.{mult_ports}
use Rattle.ca_networks.specs.Networks.{IsSpawned, taken_from, tasks_started, AllNew, EachFor}

-- it reads the taps of the mult, which are these
abbrev pub ReadsTaps : MultPorts → List TapView → Deed → Type 0
ReadsTaps x taps d = (a : Tree) × (d ≡ did_register Taps (one_of (port x.mult)) a) × (taps_in a ≡ Some taps)

-- the values of a delivery of the value to the tap
abbrev pub delivery_values : MultPorts → TapView → Tree → Trees
delivery_values x tap v = item (port x.mult) (item (port tap.channel) (two_of v (port x.acks)))

-- Task u is a delivery of the value to the tap. It put the value there, once, and then its answer, once, and both puts
-- were done.
abbrev pub HasDelivered : ProgramView → MultPorts → Place → Tree → List EventView → TapView → ℕ → Type 0
HasDelivered program x place v journal tap u = IsSpawned program journal Deliver (delivery_values x tap v) place u × (put_in (deeds u journal) ≡ (tap.channel, v) ∷ (x.acks, bool true) ∷ [])

-- It read its taps, and started a task for each of them, in their order, and no other; each has delivered.
abbrev pub HasDeliveredAll : ProgramView → MultPorts → Place → Tree → List EventView → List Deed → Type 0
HasDeliveredAll program x place v journal since =
    (d : Deed) × (rest : List Deed) × (taps : List TapView) × (since ≡ d ∷ rest) × ReadsTaps x taps d × EachFor (HasDelivered program x place v journal) taps (tasks_started rest) × AllNew (tasks_started rest)

-- task t is a mult of these ports, for the form at this place
pub record KeepsMult (program : ProgramView) (x : MultPorts) (place : Place) (t : ℕ) (journal : List EventView) (s : State) : Type 0 where
  -- what it does next after a take from its source reads its taps
  pub reads : (before after : List Deed) (k : ℕ) (v : Tree) (d : Deed) → deeds t journal ≡ before ++ did_take k x.source v ∷ d ∷ after → (a : Tree) × (d ≡ did_register Taps (one_of (port x.mult)) a)
  -- where it stands at its source again, the value that it took last was delivered to all taps that it read
  pub delivers : (before since : List Deed) (k : ℕ) (v : Tree) (y : Task) → deeds t journal ≡ before ++ did_take k x.source v ∷ since → taken_from x.source since ≡ []
      → s.tasks t ≡ Some y → IsAtOp y.body (taking (port x.source)) → HasDeliveredAll program x place v journal since

-- each mult
abbrev pub MultLaw : ProgramView → List EventView → State → Type 0
MultLaw program journal s = (values : Trees) (place : Place) (t : ℕ) → IsSpawned program journal Mult values place t → KeepsMult program (mult_ports values) place t journal s
