use Rattle.ca_check.proofs.Checked.{accepted_program}
use Rattle.ca_check.proofs.laws.programs_are_checked.Goals as goal

pub returns : goal.returns
returns c = accepted_program
