use Rattle.std.proofs.Common.{◌≡◌, drop}
use Rattle.ca_value.specs.Pairs.{pairs_list}
use Rattle.ca_value.specs.View.{views, pair_views}
use Rattle.ca_value.specs.Maps.{without_all}
use Rattle.ca_value.proofs.builtin.maps.without_keys.Given as goal

abbrev pub invariant-loop-key : goal.invariant-loop-key
invariant-loop-key l =
    without_all (pair_views (pairs_list l.pairs)) (views (drop l.key-index l.keys))
    ≡ without_all (pair_views (pairs_list l.initial.pairs)) (views l.keys)
