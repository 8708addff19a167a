use Rattle.ca_journal_reader.proofs.Lines.{one_journal_read, one_bad_line, not_both}
use Rattle.ca_journal_reader.proofs.read.one_journal.Goals as goal

pub returns : goal.returns
returns c = record { journals = one_journal_read; lines = one_bad_line; not_both = not_both }
