use Rattle.ca_commit.proofs.Locality.{locality}
use Rattle.ca_commit.proofs.laws.events_are_local.Goals as goal

pub returns : goal.returns
returns g c = locality g.A.Agent.place g.A.Agent.stands g.A.Agent.advances g.A.Agent.gives g.A.Agent.starts g.met.A.Agent.advanced g.met.A.Agent.answered g.met.A.Agent.started
