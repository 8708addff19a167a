use Rattle.ca_lower.proofs.Lowers.{lowered}
use Rattle.ca_lower.proofs.laws.implementing_code_is_lowered.Goals as goal

pub returns : goal.returns
returns c = λ P C all. lowered P C all
