use Rattle.std.proofs.Common.{◌≡◌, ◌+◌, ◌≤◌, length, take, map}
use Rattle.ca_value.specs.Seq.{list, spare}
use Rattle.ca_value.specs.View.{views, pair_views}
use Rattle.ca_value.specs.Operations.{half_of}
use Rattle.ca_value.proofs.builtin.maps.half_items.Given as goal

abbrev pub invariant-loop-pair : goal.invariant-loop-pair
invariant-loop-pair l = record {
  same : views (list l.items) ≡ map (half_of l.half) (pair_views (take l.pair-index l.pairs));
  room : length l.pairs ≤ spare l.items + l.pair-index;
}
