use Rattle.std.proofs.Common.{length}
use Rattle.ca_journal.specs.Merge.{entries}
use Rattle.ca_journal_reader.proofs.Lines.{ReadTo}
use Rattle.ca_journal_reader.proofs.read.read_journal.Given as goal

abbrev pub invariant-lines : goal.invariant-lines
invariant-lines l = ReadTo l.bytes (entries l.noted) l.number l.rest

abbrev pub decreases-lines : goal.decreases-lines
decreases-lines l = length l.rest
