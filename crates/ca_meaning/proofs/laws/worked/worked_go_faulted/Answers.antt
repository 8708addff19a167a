use Rattle.ca_meaning.proofs.Faulting.{legal, no_port, no_value, before_fault, other_value}
use Rattle.ca_meaning.proofs.FaultingSolo.{solo}
use Rattle.ca_meaning.proofs.laws.worked.worked_go_faulted.Goals as goal

pub returns : goal.returns
returns c = record { legal = legal; one_worker = solo; no_port = no_port; no_value = no_value; before_fault = before_fault; other_value = other_value }
