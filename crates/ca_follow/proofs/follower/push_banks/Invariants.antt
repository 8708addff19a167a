use Rattle.std.proofs.Common.{◌+◌, ◌≤◌}
use Rattle.ca_commit.specs.Listings.{spare_parts}
use Rattle.ca_commit.specs.Showing.{channels_held, registries_held}
use Rattle.ca_follow.proofs.Filled.{Filled}
use Rattle.ca_follow.proofs.follower.push_banks.Given as goal

abbrev pub invariant-loop-number : goal.invariant-loop-number
invariant-loop-number l = (16 ≤ spare_parts l.banks + l.number) × Filled l.number (channels_held l.banks) × Filled l.number (registries_held l.banks)
