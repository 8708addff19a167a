use Rattle.ca_journal_reader.proofs.Numbers.{too_short}
use Rattle.ca_journal_reader.proofs.cursor.Cursor.pass.Goals as goal

pub returns-then-rest-word : goal.returns-then-rest-word
returns-then-rest-word c = too_short c.args.word.now c.args.self.now.rest.now c.if-rest-word.true
