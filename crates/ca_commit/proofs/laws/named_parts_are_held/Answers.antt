use Rattle.ca_commit.proofs.Holdings.{named_held}
use Rattle.ca_commit.proofs.laws.named_parts_are_held.Goals as goal

pub returns : goal.returns
returns g c = named_held
