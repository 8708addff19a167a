use Rattle.std.proofs.Common.{◌≡◌, drop}
use Rattle.ca_value.specs.View.{view, views}
use Rattle.ca_value.specs.Tests.{all_equal}
use Rattle.ca_value.proofs.builtin.predicates.is_equal_to_all.Given as goal

abbrev pub invariant-loop-value : goal.invariant-loop-value
invariant-loop-value l = all_equal (view l.last) (views (drop l.value-index l.rest)) ≡ all_equal (view l.first) (views l.rest)
