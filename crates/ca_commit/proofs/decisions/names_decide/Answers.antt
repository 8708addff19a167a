use Rattle.ca_commit.proofs.NamesTold.{names_told}
use Rattle.ca_commit.proofs.decisions.names_decide.Goals as goal

pub returns : goal.returns
returns g c = λ h op f held e. names_told h op f held e
