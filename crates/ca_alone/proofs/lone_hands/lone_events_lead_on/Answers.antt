use Rattle.ca_alone.proofs.Lone.{lone_makes}
use Rattle.ca_alone.proofs.lone_hands.lone_events_lead_on.Goals as goal

pub returns : goal.returns
returns g c = let a = g.A.Agent in λ program code v v2 answers w t e s d is may on well. lone_makes a.over a.place a.stands a.advances a.gives a.starts program code v v2 d.turn d.goes d.after answers w s g.met.A.Agent.advanced g.met.A.Agent.answered g.met.A.Agent.started t e d.is is may on well
