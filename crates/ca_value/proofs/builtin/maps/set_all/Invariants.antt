use Rattle.std.proofs.Common.{◌≡◌, length}
use Rattle.std.specs.Vec.Iter.{into_iter_items}
use Rattle.ca_value.specs.View.{views, map_pairs}
use Rattle.ca_value.specs.Maps.{put_all, paired}
use Rattle.ca_value.proofs.builtin.maps.set_all.Given as goal

abbrev pub invariant-loop-key : goal.invariant-loop-key
invariant-loop-key l =
    put_all (map_pairs l.map) (paired (views (into_iter_items l.rest)))
    ≡ put_all (map_pairs l.initial.map) (paired (views (into_iter_items l.initial.rest)))

abbrev pub decreases-loop-key : goal.decreases-loop-key
decreases-loop-key l = length (into_iter_items l.rest)
