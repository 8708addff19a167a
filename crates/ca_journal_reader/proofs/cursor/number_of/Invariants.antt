use Rattle.std.proofs.Common.{◌≡◌, drop}
use Rattle.ca_journal_reader.specs.Words.{number_from}
use Rattle.ca_journal_reader.proofs.cursor.number_of.Given as goal

abbrev pub invariant-loop-place : goal.invariant-loop-place
invariant-loop-place l = number_from l.value (drop l.place l.text) ≡ number_from 0 l.text
