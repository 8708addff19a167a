use Rattle.std.proofs.Common.{◌≡◌, ◌+◌, ◌≤◌, length, take}
use Rattle.ca_value.specs.Seq.{list, spare}
use Rattle.ca_value.specs.View.{pair_views}
use Rattle.ca_value.proofs.copy.pair_copies.Given as goal

abbrev pub invariant-loop-pair : goal.invariant-loop-pair
invariant-loop-pair l = record {
  same : pair_views (list l.copies) ≡ pair_views (take l.pair-index l.pairs);
  room : length l.pairs ≤ spare l.copies + l.pair-index;
}
