use Rattle.ca_commit.proofs.PlansApart.{plans_apart}
use Rattle.ca_commit.proofs.decisions.plans_keep_apart.Goals as goal

pub returns : goal.returns
returns g x op start apart = plans_apart x op start apart
