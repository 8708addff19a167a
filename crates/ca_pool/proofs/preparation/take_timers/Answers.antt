use Rattle.std.proofs.Common.{Some}
use Rattle.ca_pool.proofs.AtEvents.{own_number}
use Rattle.ca_pool.proofs.preparation.take_timers.Goals as goal

pub returns-then-asks_clock-clause-carries : goal.returns-then-asks_clock-clause-carries
returns-then-asks_clock-clause-carries g c = λ program n l s. let a = g.A.Agent in let K = g.C.Clock in let t = c.take_clock in
    own_number a.over a.stands c.args.code.now c.args.table.now.id program n l K.least K.faults K.readings c.args.worker.now t.new.worker (Some t.result) c.args.held.now t.ensures.same.number (t.ensures.carries program n l s)
