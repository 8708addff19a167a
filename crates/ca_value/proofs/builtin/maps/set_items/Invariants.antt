use Rattle.std.proofs.Common.{◌≡◌, length, cond, Ok, Err}
use Rattle.std.specs.Vec.Iter.{into_iter_items}
use Rattle.ca_value.specs.declared.fault.ValueFault.TheVariants.{OutOfRange}
use Rattle.ca_value.specs.View.{views, vector_trees}
use Rattle.ca_value.specs.Outcome.{◌>>=◌}
use Rattle.ca_value.specs.Kinds.{vector_from}
use Rattle.ca_value.specs.Maps.{items_assoc, places_of, all_set, paired}
use Rattle.ca_value.proofs.builtin.maps.set_items.Given as goal

abbrev pub invariant-loop-key : goal.invariant-loop-key
invariant-loop-key l =
    (places_of (paired (views (into_iter_items l.rest))) >>= λ zs. cond l.fits (all_set (vector_trees l.items) zs >>= λ us. Ok (vector_from us)) (Err OutOfRange))
    ≡ items_assoc (vector_trees l.initial.items) (paired (views (into_iter_items l.initial.rest)))

abbrev pub decreases-loop-key : goal.decreases-loop-key
decreases-loop-key l = length (into_iter_items l.rest)
