use Rattle.ca_follow.proofs.Applied.{applied_follows}
use Rattle.ca_follow.proofs.Ends.{ended_follows, faulted_follows, refused_follows, ticked_follows}
use Rattle.ca_follow.proofs.Served.{settled_follows}
use Rattle.ca_follow.proofs.laws.made_events_are_steps.Goals as goal

pub returns-clause-applied : goal.returns-clause-applied
returns-clause-applied g c program h h2 s op at start q t u p w m a is =
    applied_follows g.A.Agent.place g.A.Agent.stands program g.A.Agent.gives g.met.A.Agent.answered g.A.Agent.starts g.met.A.Agent.started h h2 s op at start q t u p w m a is.follows is.all is.task is.halted

pub returns-clause-ended : goal.returns-clause-ended
returns-clause-ended g c program = ended_follows g.A.Agent.place g.A.Agent.stands program

pub returns-clause-faulted : goal.returns-clause-faulted
returns-clause-faulted g c program = faulted_follows g.A.Agent.place g.A.Agent.stands program

pub returns-clause-refused : goal.returns-clause-refused
returns-clause-refused g c program h s t a op f at r is port = refused_follows g.A.Agent.place g.A.Agent.stands program h s t a op f at r is.follows is.all is.task port is.halted

pub returns-clause-settled : goal.returns-clause-settled
returns-clause-settled g c program = settled_follows g.A.Agent.place g.A.Agent.stands program g.A.Agent.gives g.met.A.Agent.answered

pub returns-clause-ticked : goal.returns-clause-ticked
returns-clause-ticked g c program = ticked_follows g.A.Agent.place g.A.Agent.stands program
