use Rattle.std.proofs.Common.{ℕ, Some, None, ap, arith, eqb}
use Rattle.std.specs.Map.{update}
use Rattle.ca_table.specs.Parts.{part_seen}
use Rattle.ca_pool.proofs.AllParts.{only_there, surveys_more, surveys_nothing}
use Rattle.ca_pool.proofs.Lefts.{held_left}
use Rattle.ca_pool.proofs.stall.hold_one.Goals as goal

pub hold-requires-clause-table : goal.hold-requires-clause-table
hold-requires-clause-table g c = c.requires.one.3.table

pub hold-requires-clause-range : goal.hold-requires-clause-range
hold-requires-clause-range g c = let r = c.requires.one in let e = r.3.slots in let lt = r.4 in omega (arith, e, lt)

pub hold-requires-clause-ascending : goal.hold-requires-clause-ascending
hold-requires-clause-ascending g c = λ i h. absurd (c.requires.nothing i h.0 h.1)

pub returns-clause-holds : goal.returns-clause-holds
returns-clause-holds g c = λ P code n one. let a = g.A.Agent in let m = g.met.A.Agent in let K = g.C.Clock in let q = c.hold.ensures in let old = c.args.worker.now.hand in let new = c.hold.new.hand in (
  update eqb (λ (i : ℕ). None) c.args.at (Some q.settled.0),
  surveys_more a.over a.place a.stands a.advances a.gives a.starts m.advanced m.answered m.started K.least K.faults K.readings P code n old new (ap (λ v. v.opening) q.held.3) one.knows q.history c.args.at q.others q.settled (λ i. None)
      (surveys_nothing (part_seen K.least K.faults K.readings) n code old c.requires.nothing),
  only_there c.args.at q.settled.0,
)

pub returns-clause-left : goal.returns-clause-left
returns-clause-left g c = let a = g.A.Agent in let K = g.C.Clock in let q = c.hold.ensures in
    held_left a.over a.place a.advances a.gives a.starts c.args.worker.now.hand.view c.hold.new.hand.view q.held.1 c.args.at (part_seen K.least K.faults K.readings q.held.0) q.held.3 q.history
