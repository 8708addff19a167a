use Rattle.std.proofs.Common.{◌+◌, ◌*◌, drop}
use Rattle.ca_value.specs.Measure.{weight_of, weight_of_items, weight_of_pairs}
use Rattle.ca_value.specs.View.{view, trees, tree_pairs}
use Rattle.ca_meaning.specs.Shown.{AllPortsFit, PairsPortsFit}
use Rattle.ca_journal.proofs.numbered.+ports.Given as goal

abbrev pub decreases-ports_fit : goal.decreases-ports_fit
decreases-ports_fit l = 2 * weight_of (view l.value.now)

abbrev pub decreases-items_ports_fit : goal.decreases-items_ports_fit
decreases-items_ports_fit l = 2 * weight_of_items (trees l.items.now) + 1

abbrev pub decreases-pairs_ports_fit : goal.decreases-pairs_ports_fit
decreases-pairs_ports_fit l = 2 * weight_of_pairs (tree_pairs l.pairs.now) + 1

abbrev pub invariant-items_ports_fit-loop-item : goal.invariant-items_ports_fit-loop-item
invariant-items_ports_fit-loop-item l = AllPortsFit (trees (drop l.item-index l.items)) → AllPortsFit (trees l.items)

abbrev pub invariant-pairs_ports_fit-loop-pair : goal.invariant-pairs_ports_fit-loop-pair
invariant-pairs_ports_fit-loop-pair l = PairsPortsFit (tree_pairs (drop l.pair-index l.pairs)) → PairsPortsFit (tree_pairs l.pairs)
