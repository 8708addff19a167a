use Rattle.ca_bank.proofs.AfterCalls.{port_made}
use Rattle.ca_bank.proofs.standing.a_port_is_made.Goals as goal

pub returns : goal.returns
returns c = port_made
