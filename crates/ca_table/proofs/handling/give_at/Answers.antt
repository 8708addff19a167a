use Rattle.std.proofs.Common.{Some}
use Rattle.ca_table.specs.Carrying.{at_places, with_at}
use Rattle.ca_table.specs.Parts.{part_seen}
use Rattle.ca_table.specs.Seen.{PartSeen}
use Rattle.ca_table.specs.declared.part.Part.{Part}
use Rattle.ca_table.proofs.Carriers.{found, given_there}
use Rattle.ca_table.proofs.handling.give_at.Goals as goal

pub give-requires-clause-settled : goal.give-requires-clause-settled
give-requires-clause-settled g c = let K = g.C.Clock in let r = c.requires.settled in let w = c.args.worker.now in let x : Part g.row.A.Denot g.row.C.Denot × PartSeen g.row.A.Denot = (r.5, part_seen K.least K.faults K.readings r.5) in
    (at_places r.2 w.number (with_at r.4 (Some x) r.3), r.5, r.6.grips, found g.A.Agent.over g.A.Agent.stands r.0 r.1 c.args.table.now.id r.2 w c.args.at r.4 r.7 r.8 r.3 x r.6)

pub returns-clause-carries : goal.returns-clause-carries
returns-clause-carries g c = λ program code n h z o none s is e. let q = c.give.ensures in
    given_there g.A.Agent.over g.A.Agent.stands program code c.args.table.now.id n c.args.worker.now c.give.new.hand q.same (λ alone up. q.left) c.args.at z is e h o none q.grips s
