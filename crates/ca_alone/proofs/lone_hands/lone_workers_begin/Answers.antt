use Rattle.ca_alone.proofs.Beginning.{lone_starts}
use Rattle.ca_alone.proofs.lone_hands.lone_workers_begin.Goals as goal

pub returns : goal.returns
returns g c = let a = g.A.Agent in λ program code v k none. (_, lone_starts a.over a.place a.stands a.advances a.gives a.starts g.met.A.Agent.advanced g.met.A.Agent.answered g.met.A.Agent.started program code v k none)
