use Rattle.std.proofs.Common.{◌≡◌, ◌≤◌, ◌-◌, ◌^◌, max, drop}
use Rattle.ca_value.specs.Tree.{trees_of}
use Rattle.ca_value.specs.Measure.{depth_of_items}
use Rattle.ca_value.specs.View.{views}
use Rattle.ca_value.specs.Measured.{capped}
use Rattle.ca_value.proofs.vector.items_depth.Given as goal

abbrev pub invariant-loop-value : goal.invariant-loop-value
invariant-loop-value l = record {
  same : capped (max l.deepest (depth_of_items (trees_of (views (drop l.value-index l.values))))) ≡ capped (depth_of_items (trees_of (views l.values)));
  fits : l.deepest ≤ 2 ^ 64 - 1;
}
