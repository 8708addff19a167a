use Rattle.ca_lower.proofs.Whole.{code_valid}
use Rattle.ca_lower.proofs.laws.code_is_valid.Goals as goal

pub returns : goal.returns
returns c = λ P fit. code_valid P fit
