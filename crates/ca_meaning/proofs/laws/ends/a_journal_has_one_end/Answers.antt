use Rattle.ca_meaning.proofs.OneEnd.{one_end}
use Rattle.ca_meaning.proofs.laws.ends.a_journal_has_one_end.Goals as goal

pub returns : goal.returns
returns c = one_end
