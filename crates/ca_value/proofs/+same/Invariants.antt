use Rattle.std.proofs.Common.{◌≡◌, drop}
use Rattle.ca_value.specs.View.{trees, tree_pairs}
use Rattle.ca_value.specs.Same.{same_items, same_pairs}
use Rattle.ca_value.proofs.+same.Given as goal

abbrev pub invariant-same::Seq+Value::same-loop-i : goal.invariant-same::Seq+Value::same-loop-i
invariant-same::Seq+Value::same-loop-i l = same_items (trees (drop l.i l.a)) (trees (drop l.i l.b)) ≡ same_items (trees l.a) (trees l.b)

abbrev pub invariant-value::Pairs::same-loop-i : goal.invariant-value::Pairs::same-loop-i
invariant-value::Pairs::same-loop-i l = same_pairs (tree_pairs (drop l.i l.a)) (tree_pairs (drop l.i l.b)) ≡ same_pairs (tree_pairs l.a) (tree_pairs l.b)
