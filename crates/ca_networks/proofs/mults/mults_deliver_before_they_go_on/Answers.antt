use Rattle.ca_networks.proofs.Guarding.{runs_are_guarded}
use Rattle.ca_networks.proofs.MultKept.{mult_law}
use Rattle.ca_networks.proofs.mults.mults_deliver_before_they_go_on.Goals as goal

pub returns : goal.returns
returns c = λ program checked sealed starts journal s reached. mult_law program journal s (runs_are_guarded program checked sealed starts journal s reached)
