-- A legal run that leads to a state.
use Rattle.std.specs.Prelude.{◌≡◌, List, Option}
use Rattle.ca_term.specs.Event.{EventView}
use Rattle.ca_term.specs.Program.{ProgramView}
use Rattle.ca_meaning.specs.Legal.{EndsLast, Reaches}
use Rattle.ca_meaning.specs.State.{State}
use Rattle.ca_replay.specs.declared.main_end.MainEnd.{MainEnd}
use Rattle.ca_replay.specs.MainEnd.{last_end}

-- the events are a legal run of the program to that state; the end of the main text, where the last is that
pub record IsRunTo (program : ProgramView) (journal : List EventView) (s : State) (end : Option MainEnd) : Type 0 where
  pub reaches : Reaches program journal s
  pub goes_on : EndsLast journal
  pub ends : end ≡ last_end journal
