use Rattle.std.proofs.Common.{◌≡◌, ◌+◌, drop}
use Rattle.ca_value.specs.Seq.{list}
use Rattle.ca_value.specs.View.{trees}
use Rattle.ca_value.specs.Measure.{weight_of_items}
use Rattle.ca_term.proofs.cost.items_weight.Given as goal

abbrev pub invariant-loop-value : goal.invariant-loop-value
invariant-loop-value l = l.total + weight_of_items (trees (drop l.value-index l.value-items)) ≡ weight_of_items (trees (list l.items))
