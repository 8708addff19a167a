use Rattle.std.proofs.Common.{◌+◌, ◌≤◌, length}
use Rattle.ca_states.specs.ValidCode.{valid_code}
use Rattle.ca_commit.specs.Listings.{parts, spare_parts}
use Rattle.ca_table.specs.Homes.{has_home}
use Rattle.ca_table.specs.Lifting.{first_part_number}
use Rattle.ca_table.specs.Parts.{part_seen}
use Rattle.ca_table.proofs.Lifts.{AreSound}
use Rattle.ca_table.proofs.Loads.{IsLoading}
use Rattle.ca_table.proofs.lifting.load.Given as goal

abbrev pub invariant-loop-number : goal.invariant-loop-number
invariant-loop-number g l = (16 ≤ spare_parts l.list + l.number)
    × IsLoading g.A.Agent.over g.A.Agent.stands l.code l.table.id (part_seen g.C.Clock.least g.C.Clock.faults g.C.Clock.readings) g.T.Sixteen.group g.T.Sixteen.as_contents g.T.Numbered.number (has_home l.homes) l.fn.worker l.worker (parts l.list) l.number
    × (spare_parts l.fn.list ≤ spare_parts l.list + length (parts l.list))
    × AreSound g.A.Agent.over g.A.Agent.place (valid_code l.code) g.C.Clock.least g.C.Clock.faults g.C.Clock.readings g.T.Sixteen.as_contents g.T.Numbered.number l.fn.worker.workers (first_part_number g.T.Sixteen.group l.fn.worker.workers) (parts l.list)
    × (l.number ≤ 16)
