use Rattle.std.proofs.Common.{◌≡◌, ◌++◌}
use Rattle.std.specs.Vec.Iter.{into_iter_items}
use Rattle.ca_value.specs.View.{views, vector_trees}
use Rattle.ca_value.proofs.builtin.vectors.conj.Given as goal

abbrev pub invariant-loop-value : goal.invariant-loop-value
invariant-loop-value l =
    vector_trees l.items ++ views (into_iter_items l.value-iterator) ≡ vector_trees l.initial.items ++ views (into_iter_items l.initial.value-iterator)
