use Rattle.std.proofs.Common.{◌≡◌, ◌+◌, ◌≤◌, ◌-◌, ◌^◌, drop}
use Rattle.ca_value.specs.Tree.{pairs_of}
use Rattle.ca_value.specs.Measure.{weight_of_pairs}
use Rattle.ca_value.specs.View.{pair_views}
use Rattle.ca_value.specs.Measured.{capped}
use Rattle.ca_value.proofs.map.pairs_weight.Given as goal

abbrev pub invariant-loop-pair : goal.invariant-loop-pair
invariant-loop-pair l = record {
  same : capped (l.total + (weight_of_pairs (pairs_of (pair_views (drop l.pair-index l.pairs))))) ≡ capped (weight_of_pairs (pairs_of (pair_views l.pairs)));
  fits : l.total ≤ 2 ^ 64 - 1;
}
