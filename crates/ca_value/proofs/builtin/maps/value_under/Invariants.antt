use Rattle.std.proofs.Common.{◌≡◌, drop}
use Rattle.ca_value.specs.View.{view, pair_views}
use Rattle.ca_value.specs.Maps.{value_at}
use Rattle.ca_value.proofs.builtin.maps.value_under.Given as goal

abbrev pub invariant-loop-pair : goal.invariant-loop-pair
invariant-loop-pair l = value_at (pair_views (drop l.pair-index l.pairs)) (view l.key) ≡ value_at (pair_views l.pairs) (view l.key)
