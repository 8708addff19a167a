use Rattle.ca_alone.proofs.Making.{turn_moves}
use Rattle.ca_alone.proofs.lane_events.events_of_the_lane_are_moves.Goals as goal

pub returns : goal.returns
returns g c = let a = g.A.Agent in λ program now w d before after t e p own is may on well.
    let k = turn_moves a.place a.stands a.advances a.gives a.starts g.met.A.Agent.advanced g.met.A.Agent.answered g.met.A.Agent.started program d now before after w t e own.is is own.found own.moves p may on well in (k.0, k.1, k.3, k.2)
