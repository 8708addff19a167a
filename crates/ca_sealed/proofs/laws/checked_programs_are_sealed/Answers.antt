use Rattle.ca_sealed.proofs.Accepted.{accepted_sealed}
use Rattle.ca_sealed.proofs.laws.checked_programs_are_sealed.Goals as goal

pub returns : goal.returns
returns c = accepted_sealed
