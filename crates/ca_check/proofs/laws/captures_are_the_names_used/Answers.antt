use Rattle.ca_check.proofs.Checked.{accepted_bodies}
use Rattle.ca_check.proofs.laws.captures_are_the_names_used.Goals as goal

pub returns : goal.returns
returns c = accepted_bodies
