-- How a run ends, and which of its ends a journal has for a budget.
use Rattle.std.specs.Prelude.{◌≡◌, ℕ, ◌<◌, ◌≤◌, List, [], ◌∷◌, ◌++◌, Option}
use Rattle.ca_value.specs.declared.value.PortId.{PortId}
use Rattle.ca_term.specs.declared.place.Place.{Place}
use Rattle.ca_term.specs.declared.fault.Fault.{Fault}
use Rattle.ca_term.specs.declared.event.Ending.TheVariants.{Ended, Faulted}
use Rattle.ca_term.specs.Program.{ProgramView}
use Rattle.ca_term.specs.Event.{EventView, over}
use Rattle.ca_meaning.specs.Cost.{cost}
use Rattle.ca_meaning.specs.State.{State}
use Rattle.ca_meaning.specs.Steps.{Step}
use Rattle.ca_meaning.specs.Legal.{Reaches}

abbrev pub EndsWith : List EventView → EventView → Type 0
EndsWith journal e = (before : List EventView) × (journal ≡ before ++ e ∷ [])

-- the last event is the end of the main text by its value
abbrev pub IsEnded : List EventView → Type 0
IsEnded journal = EndsWith journal (over 0 Ended)

-- the last event is a fault of the main text
abbrev pub IsFaulted : List EventView → Type 0
IsFaulted journal = (fault : Fault) × (place : Place) × (result : Option PortId) × EndsWith journal (over 0 (Faulted fault place result))

abbrev pub IsPossible : ProgramView → State → Type 0
IsPossible program s = (e : EventView) × (s2 : State) × Step program s e s2

-- no event is possible in the state that the journal leads to
abbrev pub IsStuck : ProgramView → List EventView → Type 0
IsStuck program journal = (s : State) × Reaches program journal s × (IsPossible program s → ⊥)

-- the budget isn't used up before the last event
abbrev pub but_last : List EventView → List EventView
but_last [] = []
but_last (e ∷ []) = []
but_last (e ∷ (f ∷ es)) = e ∷ but_last (f ∷ es)

abbrev pub IsWithin : ℕ → List EventView → Type 0
IsWithin budget journal = cost (but_last journal) < budget

pub data RunEnd : Type 0 where
  ended : RunEnd
  faulted : RunEnd
  -- the budget is used up
  limit : RunEnd
  stuck : RunEnd

-- the main text has neither ended nor faulted
abbrev pub IsOpen : List EventView → Type 0
IsOpen journal = (IsEnded journal → ⊥) × (IsFaulted journal → ⊥)

-- The journal has this end for the budget. This is read off the events; that they are a run of the program
-- (`Legal`) is said beside it.
abbrev pub HasEnd : ProgramView → ℕ → List EventView → RunEnd → Type 0
HasEnd program budget journal ended = IsWithin budget journal × IsEnded journal
HasEnd program budget journal faulted = IsWithin budget journal × IsFaulted journal
HasEnd program budget journal limit = IsWithin budget journal × IsOpen journal × (budget ≤ cost journal)
HasEnd program budget journal stuck = IsWithin budget journal × IsOpen journal × (cost journal < budget) × IsStuck program journal
