use Rattle.ca_laws.proofs.Multing.{mults_keep_to}
use Rattle.ca_laws.proofs.Started.{started_keep_to}
use Rattle.ca_laws.proofs.mults.mults_deliver_to_each_tap.Goals as goal

pub returns : goal.returns
returns c = record { keeps = mults_keep_to; started = started_keep_to }
