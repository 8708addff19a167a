use Rattle.std.proofs.Common.{◌+◌, ◌≤◌}
use Rattle.ca_commit.specs.Listings.{spare_parts}
use Rattle.ca_commit.specs.Showing.{waits_held}
use Rattle.ca_follow.proofs.Filled.{Filled}
use Rattle.ca_follow.proofs.follower.push_shards.Given as goal

abbrev pub invariant-loop-number : goal.invariant-loop-number
invariant-loop-number l = (16 ≤ spare_parts l.shards + l.number) × Filled l.number (waits_held l.shards)
