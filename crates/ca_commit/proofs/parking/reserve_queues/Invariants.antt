use Rattle.std.proofs.Common.{◌≡◌, ℕ, drop, map}
use Rattle.ca_term.specs.Event.{branch_view}
use Rattle.ca_commit.specs.Contents.{whole}
use Rattle.ca_commit.specs.Showing.{channels_held, registries_held, spares_held}
use Rattle.ca_commit.proofs.Parkings.{Follows}
use Rattle.ca_commit.proofs.parking.reserve_queues.Given as goal

abbrev pub invariant-loop-branch : goal.invariant-loop-branch
invariant-loop-branch l = record {
  channels : (i : ℕ) → channels_held l.banks i ≡ channels_held l.initial.banks i;
  registries : (i : ℕ) → registries_held l.banks i ≡ registries_held l.initial.banks i;
  room : Follows (whole (channels_held l.initial.banks)) l.count (whole (spares_held l.banks)) (map branch_view (drop l.branch-index l.branches)) (map branch_view l.branches);
}
