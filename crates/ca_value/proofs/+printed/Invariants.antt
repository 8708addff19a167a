use Rattle.std.proofs.Common.{◌≡◌, ◌++◌, drop}
use Rattle.ca_value.specs.Seq.{list}
use Rattle.ca_value.specs.View.{trees, tree_pairs}
use Rattle.ca_value.specs.Printed.{printed_more, printed_more_pairs}
use Rattle.ca_value.proofs.+printed.Given as goal

abbrev pub invariant-print::Seq+Value::append_values-loop-value :
    goal.invariant-print::Seq+Value::append_values-loop-value
invariant-print::Seq+Value::append_values-loop-value l =
    list l.into ++ printed_more l.style (trees (drop l.value-index l.rest)) ≡ list l.initial.into ++ printed_more l.style (trees l.rest)

abbrev pub invariant-value::Pairs::append_pairs-loop-pair :
    goal.invariant-value::Pairs::append_pairs-loop-pair
invariant-value::Pairs::append_pairs-loop-pair l =
    list l.into ++ printed_more_pairs l.style (tree_pairs (drop l.pair-index l.rest)) ≡ list l.initial.into ++ printed_more_pairs l.style (tree_pairs l.rest)
