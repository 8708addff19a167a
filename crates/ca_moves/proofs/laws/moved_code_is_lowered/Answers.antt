use Rattle.ca_moves.proofs.Moved.{moved}
use Rattle.ca_moves.proofs.laws.moved_code_is_lowered.Goals as goal

pub returns : goal.returns
returns c = moved
