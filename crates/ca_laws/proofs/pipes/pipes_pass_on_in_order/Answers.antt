use Rattle.ca_laws.proofs.Piping.{pipes_keep_to}
use Rattle.ca_laws.proofs.pipes.pipes_pass_on_in_order.Goals as goal

pub returns : goal.returns
returns c = pipes_keep_to
