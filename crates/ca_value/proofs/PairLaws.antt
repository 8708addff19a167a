-- Lists of pairs, seen as pairs of trees.
use Rattle.std.proofs.Common.{◌≡◌, ℕ, ◌<◌, ◌++◌, List, length, take, drop, suc, Some, sym, ap, ◌∙◌}
use Rattle.std.specs.Prelude.{slice_get, slice_set, slice_index_or, remove}
use Rattle.std.proofs.lemmas.List.{set-set, map-set, get_or-map, map-append, take-map, drop-map}
use Rattle.std.proofs.lemmas.Option.{get_or_from_slice_get}
use Rattle.ca_value.specs.declared.value.Pair.{Pair}
use Rattle.ca_value.specs.Tree.{Tree, nil}
use Rattle.ca_value.specs.View.{pair_view, pair_views}

-- the pair at a place, seen
pub view_there : (xs : List Pair) (i : ℕ) (p : Pair) → i < length xs → slice_get xs i ≡ Some p → slice_index_or (pair_views xs) i (nil, nil) ≡ pair_view p
view_there xs i p h at = get_or-map pair_view xs i p (nil, nil) h ∙ ap pair_view (get_or_from_slice_get xs i p p at)

-- a pair put in the place of another, whose key it keeps
pub pair_views_set : (xs : List Pair) (i : ℕ) (old vacant new : Pair) (v : Tree) → i < length xs → slice_get xs i ≡ Some old →
    pair_view new ≡ ((pair_view old).0, v) →
    pair_views (slice_set (slice_set xs i vacant) i new) ≡ slice_set (pair_views xs) i ((slice_index_or (pair_views xs) i (nil, nil)).0, v)
pair_views_set xs i old vacant new v h at same =
    let there = view_there xs i old h at in
    ap pair_views (set-set xs i vacant new) ∙ map-set pair_view xs i new
    ∙ ap (slice_set (pair_views xs) i) (same ∙ ap (λ (p : Tree × Tree). (p.0, v)) (sym there))

pub pair_views_remove : (xs : List Pair) (i : ℕ) → pair_views (remove xs i) ≡ remove (pair_views xs) i
pair_views_remove xs i =
    map-append pair_view (take i xs) (drop (suc i) xs)
    ∙ ap (λ ys. ys ++ pair_views (drop (suc i) xs)) (sym (take-map pair_view i xs))
    ∙ ap (λ ys. take i (pair_views xs) ++ ys) (sym (drop-map pair_view (suc i) xs))
