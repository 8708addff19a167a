use Rattle.ca_table.proofs.Carriers.{held_more}
use Rattle.ca_table.proofs.handling.hold_at.Goals as goal

pub returns-clause-carries : goal.returns-clause-carries
returns-clause-carries g c = λ program n h z s is e. let K = g.C.Clock in let q = c.hold_out.ensures in
    held_more g.A.Agent.over g.A.Agent.stands program c.args.code.now c.args.table.now.id n c.args.worker.now c.hold_out.new.hand q.same q.left c.args.at z is e K.least K.faults K.readings c.hold_out.result h q.kind q.grips s
