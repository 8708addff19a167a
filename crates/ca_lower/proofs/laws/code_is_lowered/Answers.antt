use Rattle.ca_lower.proofs.Stands.{code_stands}
use Rattle.ca_lower.proofs.laws.code_is_lowered.Goals as goal

pub returns : goal.returns
returns c = λ P fit. code_stands P fit
