use Rattle.std.proofs.Common.{◌≡◌, drop}
use Rattle.ca_journal_reader.specs.Words.{word_behind}
use Rattle.ca_journal_reader.proofs.cursor.Cursor.pass.Given as goal

abbrev pub invariant-loop-place : goal.invariant-loop-place
invariant-loop-place l = word_behind (drop l.place l.word) (drop l.place l.rest) ≡ word_behind l.word l.rest
