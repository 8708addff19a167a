use Rattle.std.proofs.Common.{◌≤◌}
use Rattle.ca_table.specs.Parts.{part_seen}
use Rattle.ca_table.proofs.Loads.{IsGiving}
use Rattle.ca_table.proofs.lifting.give_all.Given as goal

abbrev pub invariant-loop-number : goal.invariant-loop-number
invariant-loop-number g l = IsGiving g.A.Agent.over g.A.Agent.stands l.table.id (part_seen g.C.Clock.least g.C.Clock.faults g.C.Clock.readings) l.first l.homes l.fn.worker l.worker l.number
    × (l.number ≤ 16)
