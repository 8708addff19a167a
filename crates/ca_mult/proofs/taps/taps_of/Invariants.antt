use Rattle.std.proofs.Common.{◌≡◌, ◌+◌, ◌≤◌, length, drop, map}
use Rattle.ca_value.specs.Seq.{list, spare}
use Rattle.ca_value.specs.View.{trees}
use Rattle.ca_meaning.specs.Asks.{taps_of}
use Rattle.ca_mult.specs.Taps.{mult_tap_view}
use Rattle.ca_mult.proofs.TapLaws.{behind}
use Rattle.ca_mult.proofs.taps.taps_of.Given as goal

abbrev pub invariant-loop-item : goal.invariant-loop-item
invariant-loop-item l = record {
  same : behind (map mult_tap_view (list l.taps)) (taps_of (trees (drop l.item-index l.items))) ≡ taps_of (trees l.items);
  room : length l.items ≤ spare l.taps + l.item-index;
}
