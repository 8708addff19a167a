-- A journal that a run writes, behind its script and a marker line.
use Rattle.std.specs.Prelude.{◌≡◌, ℕ, ◌≤◌, List, ◌++◌, length}
use Rattle.ca_term.specs.Event.{EventView}
use Rattle.ca_term.specs.Program.{ProgramView}
use Rattle.ca_meaning.specs.Journal.{journal_text}
use Rattle.ca_meaning.specs.Legal.{Legal}
use Rattle.ca_run.specs.Inputs.{greatest_input, greatest_length, ProgramOf}
use Rattle.ca_run.specs.Marker.{marker, EndsLine, IsUnparted}

-- The journal is a legal run of the script's program. The script ends with a line feed and has no marker line; behind it the
-- input has one, and then the journal's text. Script and input are no longer than they may be.
pub record IsWritten (script : List ℕ) (program : ProgramView) (journal : List EventView) (input : List ℕ) : Type 0 where
  pub is_program : ProgramOf script program
  pub legal : Legal program journal
  pub ends : EndsLine script
  pub unmarked : IsUnparted script
  pub short : length script ≤ greatest_length
  pub text : input ≡ script ++ (marker ++ journal_text journal)
  pub within : length input ≤ greatest_input
