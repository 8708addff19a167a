use Rattle.ca_bank.proofs.Holding.{made}
use Rattle.ca_bank.proofs.law.a_new_channel_has_no_queue.Goals as goal

pub returns : goal.returns
returns c = made
