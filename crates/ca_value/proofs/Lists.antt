-- Trees and lists of trees, one as good as the other.
use Rattle.std.proofs.Common.{◌≡◌, List, [], ◌∷◌, refl, ap}
use Rattle.ca_value.specs.Tree.{Tree, trees_of, pairs_of, items_of, entries_of}

pub items_of_trees_of : (ts : List Tree) → items_of (trees_of ts) ≡ ts
items_of_trees_of [] = refl
items_of_trees_of (t ∷ ts) = ap (λ us. t ∷ us) (items_of_trees_of ts)

pub entries_of_pairs_of : (ps : List (Tree × Tree)) → entries_of (pairs_of ps) ≡ ps
entries_of_pairs_of [] = refl
entries_of_pairs_of (p ∷ ps) = ap (λ qs. p ∷ qs) (entries_of_pairs_of ps)
