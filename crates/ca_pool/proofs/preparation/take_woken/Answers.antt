use Rattle.ca_pool.proofs.AtEvents.{own_number}
use Rattle.ca_pool.proofs.preparation.take_woken.Goals as goal

pub returns-then-wakes-clause-carries : goal.returns-then-wakes-clause-carries
returns-then-wakes-clause-carries g c = λ program n l clock s. let a = g.A.Agent in let K = g.C.Clock in let t = c.take_ready in
    own_number a.over a.stands c.args.code.now c.args.table.now.id program n l K.least K.faults K.readings c.args.worker.now t.new.worker clock t.new.held t.ensures.same.number (t.ensures.carries program n l clock s)
