-- One line in front of the bytes that are left.
use Rattle.std.specs.Prelude.{◌≡◌, ℕ, List, [], ◌∷◌, ◌++◌}
use Rattle.ca_term.specs.Event.{EventView}
use Rattle.ca_meaning.specs.Journal.{event_line}
use Rattle.ca_journal.specs.Numbered.{Numbered}
use Rattle.ca_journal_reader.specs.Input.{IsTold}

-- The bytes begin with a line k, and its event comes behind what was noted.
pub record HasLine (k : ℕ) (bytes rest : List ℕ) (before behind : List Numbered) : Type 0 where
  pub event : EventView
  pub told : IsTold event
  pub text : bytes ≡ event_line k event ++ rest
  pub noted : behind ≡ before ++ record { number = k; event = event } ∷ []
