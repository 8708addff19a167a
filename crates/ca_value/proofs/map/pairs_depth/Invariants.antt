use Rattle.std.proofs.Common.{◌≡◌, ◌≤◌, ◌-◌, ◌^◌, max, drop}
use Rattle.ca_value.specs.Tree.{pairs_of}
use Rattle.ca_value.specs.Measure.{depth_of_pairs}
use Rattle.ca_value.specs.View.{pair_views}
use Rattle.ca_value.specs.Measured.{capped}
use Rattle.ca_value.proofs.map.pairs_depth.Given as goal

abbrev pub invariant-loop-pair : goal.invariant-loop-pair
invariant-loop-pair l = record {
  same : capped (max l.deepest (depth_of_pairs (pairs_of (pair_views (drop l.pair-index l.pairs))))) ≡ capped (depth_of_pairs (pairs_of (pair_views l.pairs)));
  fits : l.deepest ≤ 2 ^ 64 - 1;
}
