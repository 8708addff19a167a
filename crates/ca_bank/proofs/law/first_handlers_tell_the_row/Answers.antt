use Rattle.ca_bank.proofs.Holding.{row_right}
use Rattle.ca_bank.proofs.law.first_handlers_tell_the_row.Goals as goal

pub returns : goal.returns
returns c = row_right
