use Rattle.std.proofs.Common.{◌≡◌, pos, length, Ok, sym, ap, ◌∙◌, arith}
use Rattle.std.specs.Int.{w64, cast_signed}
use Rattle.std.proofs.lemmas.Int.{ints}
use Rattle.std.proofs.lemmas.List.{length-map}
use Rattle.ca_value.specs.View.{view, views, pair_view, pair_views, vector_trees, map_pairs}
use Rattle.ca_value.proofs.Lists.{items_of_trees_of, entries_of_pairs_of}
use Rattle.ca_value.proofs.builtin.maps.count.Goals as goal

pub returns-in-Map : goal.returns-in-Map
returns-in-Map c =
    let xs = c.as_slice.result.now in
    let size = length-map xs pair_view in
    let same : cast_signed w64 (length xs) ≡ pos (length (pair_views xs)) = omega (arith, ints) in
    rw c.in-Map.is (ap Ok (same ∙ ap (λ ts. pos (length ts)) (c.as_slice.ensures ∙ sym (entries_of_pairs_of (map_pairs c.in-Map.pairs)))))

pub returns-in-Vector : goal.returns-in-Vector
returns-in-Vector c =
    let xs = c.as_slice-in-Vector.result.now in
    let size = length-map xs view in
    let same : cast_signed w64 (length xs) ≡ pos (length (views xs)) = omega (arith, ints) in
    rw c.in-Vector.is (ap Ok (same ∙ ap (λ ts. pos (length ts)) (c.as_slice-in-Vector.ensures ∙ sym (items_of_trees_of (vector_trees c.in-Vector.items)))))
