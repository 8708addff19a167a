use Rattle.ca_alone.proofs.Waking.{settle_is_move}
use Rattle.ca_alone.proofs.turning.settlings_are_moves.Goals as goal

pub returns : goal.returns
returns g c = λ program now w d before after wait k side q v us p t. settle_is_move g.A.Agent.place g.A.Agent.stands program now w p g.A.Agent.advances g.A.Agent.gives g.A.Agent.starts g.met.A.Agent.advanced g.met.A.Agent.answered g.met.A.Agent.started d before after t.one t.found t.moves wait k side q v us t.is
