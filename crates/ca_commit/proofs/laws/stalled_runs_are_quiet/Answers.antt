use Rattle.ca_commit.proofs.Locality.{stalled}
use Rattle.ca_commit.proofs.laws.stalled_runs_are_quiet.Goals as goal

pub returns : goal.returns
returns g c = stalled g.A.Agent.place g.A.Agent.stands g.A.Agent.advances g.A.Agent.gives g.A.Agent.starts
