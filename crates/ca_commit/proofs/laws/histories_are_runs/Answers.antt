use Rattle.ca_commit.proofs.Follows.{run_from_opening}
use Rattle.ca_commit.proofs.laws.histories_are_runs.Goals as goal

pub returns : goal.returns
returns g c program n = run_from_opening g.A.Agent.place g.A.Agent.stands g.A.Agent.advances g.A.Agent.gives g.A.Agent.starts g.met.A.Agent.advanced g.met.A.Agent.answered g.met.A.Agent.started program n
