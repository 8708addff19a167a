use Rattle.ca_bank.proofs.Holding.{parked}
use Rattle.ca_bank.proofs.law.a_new_wait_joins_its_queues.Goals as goal

pub returns : goal.returns
returns c = parked
