use Rattle.std.proofs.Common.{ap, arith}
use Rattle.ca_table.specs.Parts.{part_seen}
use Rattle.ca_pool.proofs.AllParts.{surveys_more, surveys_same}
use Rattle.ca_pool.proofs.Lefts.{held_left, missed_left}
use Rattle.ca_pool.proofs.stall.try_one.Goals as goal

pub try_hold-requires-clause-table : goal.try_hold-requires-clause-table
try_hold-requires-clause-table g c = c.requires.one.3.table

pub try_hold-requires-clause-range : goal.try_hold-requires-clause-range
try_hold-requires-clause-range g c = let r = c.requires.one in let e = r.3.slots in let lt = r.4 in omega (arith, e, lt)

pub returns-in-Ok-clause-holds : goal.returns-in-Ok-clause-holds
returns-in-Ok-clause-holds g c = λ e P code n one f s. let a = g.A.Agent in let m = g.met.A.Agent in let K = g.C.Clock in let q = c.in-Ok.ensures in let old = c.args.worker.now.hand in let new = c.try_hold.new.hand in (
  q.settled.0,
  surveys_more a.over a.place a.stands a.advances a.gives a.starts m.advanced m.answered m.started K.least K.faults K.readings P code n old new (ap (λ v. v.opening) q.held.2) one.knows q.history c.args.at c.try_hold.ensures.others q.settled f s,
)

pub returns-in-Err-clause-missed : goal.returns-in-Err-clause-missed
returns-in-Err-clause-missed g c = λ e n code f s. let K = g.C.Clock in let q = c.in-Err.ensures in
    surveys_same (part_seen K.least K.faults K.readings) n code c.args.worker.now.hand c.try_hold.new.hand f s q.busy.0 (ap (λ v. v.held) q.busy.1)

pub returns-in-Ok-clause-left : goal.returns-in-Ok-clause-left
returns-in-Ok-clause-left g c = let a = g.A.Agent in let K = g.C.Clock in let q = c.in-Ok.ensures in let old = c.args.worker.now.hand.view in
    held_left a.over a.place a.advances a.gives a.starts old c.try_hold.new.hand.view old.missed c.args.at (part_seen K.least K.faults K.readings q.held.0) q.held.2 q.history

pub returns-in-Err-clause-left : goal.returns-in-Err-clause-left
returns-in-Err-clause-left g c = missed_left c.args.worker.now.hand.view c.try_hold.new.hand.view c.args.at c.in-Err.ensures.busy.1
