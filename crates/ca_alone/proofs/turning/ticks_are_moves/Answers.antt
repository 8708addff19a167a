use Rattle.ca_alone.proofs.Idling.{idle_is_move, late_is_move}
use Rattle.ca_alone.proofs.turning.ticks_are_moves.Goals as goal

pub returns-clause-late : goal.returns-clause-late
returns-clause-late g c = λ program now w d before after a ports us p t. late_is_move g.A.Agent.place g.A.Agent.stands program now w p g.A.Agent.advances g.A.Agent.gives g.A.Agent.starts g.met.A.Agent.advanced g.met.A.Agent.answered g.met.A.Agent.started d before after t.one t.found t.moves a ports us t.is

pub returns-clause-idle : goal.returns-clause-idle
returns-clause-idle g c = λ program now w d before after a ports us p t. idle_is_move g.A.Agent.place g.A.Agent.stands program now w p g.A.Agent.advances g.A.Agent.gives g.A.Agent.starts g.met.A.Agent.advanced g.met.A.Agent.answered g.met.A.Agent.started d before after t.one t.found t.moves a ports us t.is
