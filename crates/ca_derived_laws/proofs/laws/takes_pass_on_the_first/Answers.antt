use Rattle.ca_derived_laws.proofs.Taking.{takes_keep}
use Rattle.ca_derived_laws.proofs.laws.takes_pass_on_the_first.Goals as goal

pub returns : goal.returns
returns c = takes_keep
