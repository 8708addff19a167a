-- Laws of the trees of lists.
use Rattle.std.proofs.Common.{◌≡◌, ◌≢◌, ℕ, suc, List, [], ◌∷◌, length, refl, ap, arith, get_or, drop, drop-cons, ◌<◌, ◌+◌, false, true, Bool, ◌&&◌, add-one}
use Rattle.ca_value.specs.declared.value.Value.{Value}
use Rattle.ca_value.specs.declared.value.Pairs.{Pairs}
use Rattle.ca_value.specs.declared.value.Pair.{Pair}
use Rattle.ca_value.specs.Pairs.{pairs_list}
use Rattle.ca_value.specs.View.{trees, tree_pairs, pairs_view, pair_view}
use Rattle.ca_value.specs.Tree.{TreePairs}
use Rattle.ca_value.specs.Equality.{equals, equal_items, pair_count, is_map_within, has_pair}

pub pair_count-tree_pairs : (ps : List Pair) → pair_count (tree_pairs ps) ≡ length ps
pair_count-tree_pairs [] = refl
pair_count-tree_pairs (p ∷ ps) = grind (arith, pair_count-tree_pairs ps)

pub pair_count-pairs_view : (s : Pairs) → pair_count (pairs_view s) ≡ length (pairs_list s)
pair_count-pairs_view s = pair_count-tree_pairs (pairs_list s)

and-false : (b : Bool) → (b && false) ≡ false
and-false true = refl
and-false false = refl

-- vectors of two lengths differ
pub equal_items-lengths : (xs ys : List Value) → length xs ≢ length ys → equal_items (trees xs) (trees ys) ≡ false
equal_items-lengths [] [] h = absurd (h refl)
equal_items-lengths [] (y ∷ ys) h = refl
equal_items-lengths (x ∷ xs) [] h = refl
equal_items-lengths (x ∷ xs) (y ∷ ys) h =
    let rest = equal_items-lengths xs ys (λ e. h (ap suc e)) in rw rest (and-false _)

pub within-next : (l : List Pair) (i : ℕ) (x : Pair) (b : TreePairs) → x ≡ get_or l i x → i < length l → is_map_within (tree_pairs (drop i l)) b ≡ has_pair (equals (pair_view x).0) (equals (pair_view x).1) b && is_map_within (tree_pairs (drop (i + 1) l)) b
within-next l i x b e h = rw (drop-cons l i x, ← e, add-one) refl
