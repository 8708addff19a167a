use Rattle.std.proofs.Common.{◌≡◌, drop}
use Rattle.ca_value.specs.View.{pair_view, pairs_view, trees, tree_pairs}
use Rattle.ca_value.specs.Equality.{equals, equal_items, is_map_within, has_pair}
use Rattle.ca_value.proofs.+equal.Given as goal

abbrev pub invariant-equal::Seq+Value::equal-loop-i : goal.invariant-equal::Seq+Value::equal-loop-i
invariant-equal::Seq+Value::equal-loop-i l =
    equal_items (trees (drop l.i l.a)) (trees (drop l.i l.b)) ≡ equal_items (trees l.a) (trees l.b)

abbrev pub invariant-value::Pairs::is_within-loop-pair : goal.invariant-value::Pairs::is_within-loop-pair
invariant-value::Pairs::is_within-loop-pair l =
    is_map_within (tree_pairs (drop l.pair-index l.pair-items)) (pairs_view l.other) ≡ is_map_within (pairs_view l.self) (pairs_view l.other)

abbrev pub invariant-value::Pair::is_in-loop-pair : goal.invariant-value::Pair::is_in-loop-pair
invariant-value::Pair::is_in-loop-pair l =
    let p = pair_view l.self in
    has_pair (equals p.0) (equals p.1) (tree_pairs (drop l.pair-index l.pair-items)) ≡ has_pair (equals p.0) (equals p.1) (pairs_view l.pairs)
