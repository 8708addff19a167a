use Rattle.ca_table.specs.Parts.{part_seen}
use Rattle.ca_pool.proofs.Ranges.{IsGivingTo}
use Rattle.ca_pool.proofs.stall.give_range.Given as goal

abbrev pub invariant-loop-at : goal.invariant-loop-at
invariant-loop-at g l = IsGivingTo (part_seen g.C.Clock.least g.C.Clock.faults g.C.Clock.readings) l.first l.fn.worker l.worker l.at
