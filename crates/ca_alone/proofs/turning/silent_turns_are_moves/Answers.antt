use Rattle.ca_alone.proofs.Idling.{pick_is_move, prune_stays, read_is_move, yield_is_move}
use Rattle.ca_alone.proofs.turning.silent_turns_are_moves.Goals as goal

pub returns-clause-pick : goal.returns-clause-pick
returns-clause-pick g c = λ program now w d before after p t. pick_is_move g.A.Agent.place g.A.Agent.stands program now w p g.A.Agent.advances g.A.Agent.gives g.A.Agent.starts g.met.A.Agent.advanced g.met.A.Agent.answered g.met.A.Agent.started d before after t.one t.found t.moves t.is

pub returns-clause-back : goal.returns-clause-back
returns-clause-back g c = λ program now w d before after p t. yield_is_move g.A.Agent.place g.A.Agent.stands program now w p g.A.Agent.advances g.A.Agent.gives g.A.Agent.starts g.met.A.Agent.advanced g.met.A.Agent.answered g.met.A.Agent.started d before after t.one t.found t.moves t.is

pub returns-clause-read : goal.returns-clause-read
returns-clause-read g c = λ program now w d before after a p t. read_is_move g.A.Agent.place g.A.Agent.stands program now w p g.A.Agent.advances g.A.Agent.gives g.A.Agent.starts g.met.A.Agent.advanced g.met.A.Agent.answered g.met.A.Agent.started d before after t.one t.found t.moves a t.is

pub returns-clause-prune : goal.returns-clause-prune
returns-clause-prune g c = λ program now w d before after side q wait p t. prune_stays g.A.Agent.place g.A.Agent.stands program now w p g.A.Agent.advances g.A.Agent.gives g.A.Agent.starts g.met.A.Agent.advanced g.met.A.Agent.answered g.met.A.Agent.started d before after t.one t.found t.moves side q wait t.is
