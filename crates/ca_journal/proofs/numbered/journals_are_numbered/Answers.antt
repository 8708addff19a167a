use Rattle.std.proofs.Common.{subst}
use Rattle.ca_meaning.specs.Sound.{Each}
use Rattle.ca_journal.proofs.Numbering.{ListNumbered, journal_numbered}
use Rattle.ca_journal.proofs.numbered.journals_are_numbered.Goals as goal

pub returns : goal.returns
returns c = journal_numbered c.args.journal.now (subst (λ ls. Each ListNumbered ls) c.as_slice.ensures.value c.lists_numbered.ensures)
