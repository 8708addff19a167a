-- What the end of a task promises of the parts is how its event moves them.
use Rattle.std.specs.Prelude.{◌≡◌, ℕ, Option, Some, option_map}
use Rattle.ca_value.specs.Tree.{Tree}
use Rattle.ca_value.specs.declared.value.PortId.{PortId}
use Rattle.ca_term.specs.declared.event.Ending.TheVariants.{Ended, Faulted}
use Rattle.ca_term.specs.declared.fault.Fault.{Fault}
use Rattle.ca_term.specs.declared.place.Place.{Place}
use Rattle.ca_term.specs.Event.{over, port_number}
use Rattle.ca_term.specs.Operation.{OpView, SeedView}
use Rattle.ca_term.specs.Program.{ProgramView}
use Rattle.ca_meaning.specs.Body.{At, at_op, ended, faulted}
use Rattle.ca_commit.specs.Agents.{TaskAgent, advances_of, place_of}
use Rattle.ca_commit.specs.Contents.{Kept, Parts, home}
use Rattle.ca_commit.specs.Deciding.{seen_in}
use Rattle.ca_commit.specs.Moves.{Stays}
use Rattle.ca_commit.specs.Moving.{MovesShown}
use Rattle.ca_commit.specs.Naming.{NamesHeld}
use Rattle.ca_commit.specs.Planning.{planned, to_refuse}
use Rattle.ca_commit.specs.TaskMoves.{Halts}
use Rattle.ca_commit.specs.Ticking.{closed_result}

-- r is the result port of a task, whose bank is held, and its channel is closed
pub record ClosesResult {A : Type 0} (r : Option PortId) (a : TaskAgent A) (old new : Parts (TaskAgent A)) : Type 0 where
  pub result_is : a.result ≡ option_map port_number r
  pub held : (p : ℕ) → option_map port_number r ≡ Some p → (f : ℕ → Option Kept) × (old.bank (home p) ≡ Some f)
  pub banks : (i : ℕ) → new.bank i ≡ closed_result (option_map port_number r) old.bank i

module _ {A : Type 0} (place : A → At) (advances : ProgramView → A → A → Type 0) (gives : A → Tree → A → Type 0) (starts : ProgramView → SeedView → A → Type 0) where
  -- task t halts there, and leaves its lane; the end of the main text marks the run
  abbrev pub HaltsAt : (w t : ℕ) → At → Parts (TaskAgent A) → Parts (TaskAgent A) → Type 0
  HaltsAt = Halts (place_of place) (advances_of advances)

  -- by a value
  abbrev pub EndMoves : Type 0
  EndMoves = (old new : Parts (TaskAgent A)) (w n t : ℕ) (v : Tree) → HaltsAt w t (ended v) old new → Stays old.bank new.bank → MovesShown place advances gives starts w n (over t Ended) old new

  -- by a fault of its own
  abbrev pub FaultMoves : Type 0
  FaultMoves = (old new : Parts (TaskAgent A)) (w n t : ℕ) (f : Fault) (at : Place) (r : Option PortId) (halts : HaltsAt w t (faulted f at) old new) → ClosesResult r halts.stands.agent1 old new
      → MovesShown place advances gives starts w n (over t (Faulted f at r)) old new

  -- at an operation that is refused, where the banks of all ports that it names are held
  abbrev pub RefusedMoves : Type 0
  RefusedMoves = (old new : Parts (TaskAgent A)) (w n t start : ℕ) (op : OpView) (f : Fault) (at : Place) (r : Option PortId) → planned (seen_in old) op start ≡ to_refuse f → NamesHeld old op
      → (halts : HaltsAt w t (at_op (record { op = op; place = at })) old new) → ClosesResult r halts.stands.agent1 old new
      → MovesShown place advances gives starts w n (over t (Faulted f at r)) old new
