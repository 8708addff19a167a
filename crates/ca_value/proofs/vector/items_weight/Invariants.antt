use Rattle.std.proofs.Common.{◌≡◌, ◌≤◌, ◌-◌, ◌^◌, ◌+◌, drop}
use Rattle.ca_value.specs.Tree.{trees_of}
use Rattle.ca_value.specs.Measure.{weight_of_items}
use Rattle.ca_value.specs.View.{views}
use Rattle.ca_value.specs.Measured.{capped}
use Rattle.ca_value.proofs.vector.items_weight.Given as goal

abbrev pub invariant-loop-value : goal.invariant-loop-value
invariant-loop-value l = record {
  same : capped (l.total + weight_of_items (trees_of (views (drop l.value-index l.values)))) ≡ capped (weight_of_items (trees_of (views l.values)));
  fits : l.total ≤ 2 ^ 64 - 1;
}
