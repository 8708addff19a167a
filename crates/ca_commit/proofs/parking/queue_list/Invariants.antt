use Rattle.std.proofs.Common.{◌≡◌, ℕ, ◌+◌, ◌<◌, ◌^◌, length, map}
use Rattle.std.specs.Vec.Iter.{into_iter_items}
use Rattle.ca_term.specs.Event.{branch_view}
use Rattle.ca_commit.specs.Contents.{whole}
use Rattle.ca_commit.specs.Parking.{AreChannels, QueuesTake, queued_from}
use Rattle.ca_commit.specs.Showing.{channels_held, registries_held, spares_held}
use Rattle.ca_commit.proofs.parking.queue_list.Given as goal

abbrev pub invariant-loop-branch : goal.invariant-loop-branch
invariant-loop-branch l = record {
  queued : (i : ℕ) → queued_from l.wait.n l.number (map branch_view (into_iter_items l.branch-iterator)) (channels_held l.banks) i ≡ queued_from l.wait.n 0 (map branch_view (into_iter_items l.initial.branch-iterator)) (channels_held l.initial.banks) i;
  registries : (i : ℕ) → registries_held l.banks i ≡ registries_held l.initial.banks i;
  there : AreChannels (whole (channels_held l.initial.banks)) (map branch_view (into_iter_items l.branch-iterator));
  room : QueuesTake (length (map branch_view (into_iter_items l.branch-iterator))) (whole (channels_held l.initial.banks)) (whole (spares_held l.banks)) (map branch_view (into_iter_items l.branch-iterator));
  small : l.number + length (into_iter_items l.branch-iterator) < 2 ^ 64;
}
