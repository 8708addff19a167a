use Rattle.ca_commit.proofs.PlanMoving.{plan_moves}
use Rattle.ca_commit.proofs.decisions.plans_are_moves.Goals as goal

pub returns : goal.returns
returns g c = plan_moves g.A.Agent.place g.A.Agent.advances g.A.Agent.gives g.A.Agent.starts
