use Rattle.std.proofs.Common.{◌≡◌, drop}
use Rattle.ca_value.specs.Tree.{int}
use Rattle.ca_value.specs.View.{pair_views}
use Rattle.ca_value.specs.Maps.{value_at}
use Rattle.ca_states.proofs.plain.integer_of_key.Given as goal

abbrev pub invariant-loop-pair : goal.invariant-loop-pair
invariant-loop-pair l = value_at (pair_views (drop l.pair-index l.pairs)) (int l.key) ≡ value_at (pair_views l.pairs) (int l.key)
