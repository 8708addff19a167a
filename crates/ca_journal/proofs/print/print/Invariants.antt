use Rattle.std.proofs.Common.{◌≡◌, ◌≤◌, ◌++◌, length}
use Rattle.ca_value.specs.Seq.{list}
use Rattle.ca_meaning.specs.Journal.{lines_from, journal_text}
use Rattle.ca_journal.specs.Coming.{coming}
use Rattle.ca_journal.specs.Events.{events}
use Rattle.ca_journal.proofs.print.print.Given as goal

abbrev pub invariant-loop-entry : goal.invariant-loop-entry
invariant-loop-entry l =
    (l.number ≤ length (list l.text)) × (list l.text ++ lines_from l.number (coming l.walk) ≡ journal_text (events l.journal))

abbrev pub decreases-loop-entry : goal.decreases-loop-entry
decreases-loop-entry l = length (coming l.walk)
