use Rattle.std.proofs.Common.{◌+◌, ◌≤◌}
use Rattle.ca_commit.specs.Listings.{parts, spare_parts}
use Rattle.ca_table.specs.Homes.{has_home}
use Rattle.ca_pool.proofs.Trying.{IsTrying}
use Rattle.ca_pool.proofs.hold.try_load.Given as goal

abbrev pub invariant-loop-number : goal.invariant-loop-number
invariant-loop-number g l = (16 ≤ spare_parts l.banks + l.number)
    × IsTrying g.A.Agent.over g.A.Agent.stands g.A.Agent.place l.code l.table.id g.C.Clock.least g.C.Clock.faults g.C.Clock.readings (has_home l.homes) l.fn.worker l.worker (parts l.banks) l.number
