use Rattle.ca_journal.proofs.Lengths.{lines_long}
use Rattle.ca_journal.proofs.print.texts_are_as_long_as_journals.Goals as goal

pub returns : goal.returns
returns c = λ journal. lines_long 0 journal
