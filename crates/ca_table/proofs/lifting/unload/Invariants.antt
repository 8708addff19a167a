use Rattle.std.proofs.Common.{◌+◌, ◌≤◌, length}
use Rattle.ca_turns.specs.Hands.{TableId}
use Rattle.ca_commit.specs.Listings.{parts, spare_parts}
use Rattle.ca_table.specs.Parts.{part_seen}
use Rattle.ca_table.proofs.Loads.{IsUnloading}
use Rattle.ca_table.proofs.lifting.unload.Given as goal

abbrev pub invariant-loop-part : goal.invariant-loop-part
invariant-loop-part g l = (spare_parts l.fn.list + length (parts l.fn.list) ≤ spare_parts l.list + length (parts l.list))
    × ((id : TableId) → IsUnloading g.A.Agent.over g.A.Agent.stands l.code id (part_seen g.C.Clock.least g.C.Clock.faults g.C.Clock.readings) g.T.Sixteen.group g.T.Sixteen.as_contents g.T.Numbered.number l.fn.worker l.worker (parts l.fn.list) (parts l.list) l.homes)

abbrev pub decreases-loop-part : goal.decreases-loop-part
decreases-loop-part g l = length (parts l.list)
