use Rattle.ca_commit.proofs.Ends.{end_moves, fault_moves, refused_moves}
use Rattle.ca_commit.proofs.decisions.ends_are_moves.Goals as goal

pub returns-clause-ended : goal.returns-clause-ended
returns-clause-ended g c = end_moves g.A.Agent.place g.A.Agent.advances g.A.Agent.gives g.A.Agent.starts

pub returns-clause-faulted : goal.returns-clause-faulted
returns-clause-faulted g c = fault_moves g.A.Agent.place g.A.Agent.advances g.A.Agent.gives g.A.Agent.starts

pub returns-clause-refused : goal.returns-clause-refused
returns-clause-refused g c = refused_moves g.A.Agent.place g.A.Agent.advances g.A.Agent.gives g.A.Agent.starts
