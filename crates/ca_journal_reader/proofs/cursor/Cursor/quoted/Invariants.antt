use Rattle.std.proofs.Common.{◌≡◌, [], length}
use Rattle.ca_value.specs.Seq.{list}
use Rattle.ca_journal_reader.specs.ValueText.{text_from}
use Rattle.ca_journal_reader.proofs.cursor.Cursor.quoted.Given as goal

abbrev pub invariant-bytes : goal.invariant-bytes
invariant-bytes l = text_from (list l.said) l.self.rest.now ≡ text_from [] l.initial.self.rest.now

abbrev pub decreases-bytes : goal.decreases-bytes
decreases-bytes l = length l.self.rest.now
