use Rattle.ca_commit.proofs.PlanTold.{plan_tells}
use Rattle.ca_commit.proofs.decisions.plans_tell.Goals as goal

pub returns : goal.returns
returns g c = λ h op start. plan_tells h op start
