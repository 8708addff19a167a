use Rattle.std.proofs.Common.{◌∙◌, sym}
use Rattle.ca_turns.proofs.Lists.{both_some}
use Rattle.ca_table.proofs.Carriers.{in_hand}
use Rattle.ca_table.proofs.handling.look_at.Goals as goal

pub returns-clause-carries : goal.returns-clause-carries
returns-clause-carries g c = λ program code id n h z x d s is e. let w = c.args.worker.now in
    both_some c.part.result.now x (sym c.part.ensures ∙ (in_hand g.A.Agent.over g.A.Agent.stands program code id n w c.args.at z is e h (x, d) s).0)
