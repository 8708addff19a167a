use Rattle.ca_roles.proofs.Hiding.{hidden_law}
use Rattle.ca_roles.proofs.hidden_ports.hidden_ports_stay_hidden.Goals as goal

pub returns : goal.returns
returns c = hidden_law
