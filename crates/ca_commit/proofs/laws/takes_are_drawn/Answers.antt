use Rattle.ca_commit.proofs.Draws.{take_is_drawn}
use Rattle.ca_commit.proofs.laws.takes_are_drawn.Goals as goal

pub returns : goal.returns
returns g c = take_is_drawn g.A.Agent.place g.A.Agent.advances g.A.Agent.gives g.A.Agent.starts
