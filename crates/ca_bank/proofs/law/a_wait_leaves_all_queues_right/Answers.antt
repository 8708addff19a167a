use Rattle.ca_bank.proofs.Holding.{taken_out}
use Rattle.ca_bank.proofs.law.a_wait_leaves_all_queues_right.Goals as goal

pub returns : goal.returns
returns c = taken_out
