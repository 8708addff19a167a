use Rattle.ca_check.proofs.Checked.{accepted_constants}
use Rattle.ca_check.proofs.laws.programs_keep_their_scalars.Goals as goal

pub returns : goal.returns
returns c = accepted_constants
