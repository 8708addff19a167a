use Rattle.ca_sealed.proofs.Accepted.{accepted_once}
use Rattle.ca_sealed.proofs.laws.checked_programs_start_once.Goals as goal

pub returns : goal.returns
returns c = accepted_once
