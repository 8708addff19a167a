use Rattle.std.proofs.Common.{◌≡◌, ◌+◌, drop}
use Rattle.std.specs.Prelude.{option_map}
use Rattle.ca_value.specs.View.{view, pair_views}
use Rattle.ca_value.specs.Maps.{key_place}
use Rattle.ca_value.proofs.map.place.Given as goal

abbrev pub invariant-loop-i : goal.invariant-loop-i
invariant-loop-i l = option_map (λ n. n + l.i) (key_place (pair_views (drop l.i l.pairs)) (view l.key)) ≡ key_place (pair_views l.pairs) (view l.key)
