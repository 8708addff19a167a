use Rattle.ca_table.specs.Parts.{part_seen}
use Rattle.ca_pool.proofs.Ranges.{IsHoldingTo}
use Rattle.ca_pool.proofs.stall.hold_range.Given as goal

abbrev pub invariant-loop-at : goal.invariant-loop-at
invariant-loop-at g l = IsHoldingTo g.A.Agent.over g.A.Agent.stands l.table.id (part_seen g.C.Clock.least g.C.Clock.faults g.C.Clock.readings) l.first l.fn.worker l.worker l.at
