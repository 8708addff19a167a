-- When a list of events is a run of a program.
use Rattle.std.specs.Prelude.{◌≡◌, List, [], ◌∷◌, Bool, false, ◌==◌}
use Rattle.ca_term.specs.Program.{ProgramView}
use Rattle.ca_term.specs.Event.{EventView, over}
use Rattle.ca_meaning.specs.State.{State, Opening}
use Rattle.ca_meaning.specs.Steps.{Steps}

-- the end of the main text, by its value or by a fault
abbrev pub is_end_of_main : EventView → Bool
is_end_of_main (over t how) = t == 0
is_end_of_main e = false

-- no event but the last is the end of the main text
abbrev pub EndsLast : List EventView → Type 0
EndsLast [] = Unit {0}
EndsLast (e ∷ []) = Unit {0}
EndsLast (e ∷ (f ∷ es)) = (is_end_of_main e ≡ false) × EndsLast (f ∷ es)

-- the events lead from the opening of the program to the state
pub record Reaches (program : ProgramView) (journal : List EventView) (s : State) : Type 0 where
  pub opening : State
  pub opens : Opening program opening
  pub steps : Steps program opening journal s

-- the journal is a run of the program
pub record Legal (program : ProgramView) (journal : List EventView) : Type 0 where
  pub state : State
  pub reaches : Reaches program journal state
  pub goes_on : EndsLast journal
