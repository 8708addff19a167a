use Rattle.std.proofs.Common.{◌≡◌, ◌++◌, length}
use Rattle.ca_value.specs.Seq.{list}
use Rattle.ca_meaning.specs.Texts.{output}
use Rattle.ca_journal.specs.Coming.{coming}
use Rattle.ca_journal.specs.Events.{events}
use Rattle.ca_journal.proofs.output.output.Given as goal

abbrev pub invariant-loop-entry : goal.invariant-loop-entry
invariant-loop-entry l = list l.text ++ output (coming l.walk) ≡ output (events l.journal)

abbrev pub decreases-loop-entry : goal.decreases-loop-entry
decreases-loop-entry l = length (coming l.walk)
