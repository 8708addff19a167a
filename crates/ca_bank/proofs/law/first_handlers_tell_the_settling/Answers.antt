use Rattle.ca_bank.proofs.Holding.{settle_right}
use Rattle.ca_bank.proofs.law.first_handlers_tell_the_settling.Goals as goal

pub returns : goal.returns
returns c = settle_right
