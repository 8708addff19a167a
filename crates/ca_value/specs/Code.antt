-- A code of trees: a tree of numbers that gives the tree back.
use Rattle.std.specs.Prelude.{◌≡◌, ℕ, zero, suc, ℤ, pos, negsuc, List, [], ◌∷◌, Bool, true, false, refl}
use Rattle.std.proofs.Common.{ap}
use Rattle.std.specs.Coded.{Coded, coded_list, coded×, code_by}
use base.Stored.{Gv, gnil, gnum, gcons}
use denote.Struct.Codes.{itself}
use Rattle.ca_value.specs.Tree.{Tree, Trees, TreePairs, nil, bool, int, text, key, vector, map, port, none, item, empty, pair}

abbrev from_bool : Bool → Gv
from_bool true = gnum 1
from_bool false = gnum 0

abbrev to_bool : Gv → Bool
to_bool gnil = false
to_bool (gnum zero) = false
to_bool (gnum (suc n)) = true
to_bool (gcons a b) = false

abbrev from_int : ℤ → Gv
from_int (pos n) = gcons gnil (gnum n)
from_int (negsuc n) = gnum n

abbrev to_number : Gv → ℕ
to_number gnil = 0
to_number (gnum n) = n
to_number (gcons a b) = 0

abbrev to_int : Gv → ℤ
to_int gnil = pos 0
to_int (gnum n) = negsuc n
to_int (gcons a b) = pos (to_number b)

abbrev from_bytes : List ℕ → Gv
from_bytes [] = gnil
from_bytes (n ∷ ns) = gcons (gnum n) (from_bytes ns)

abbrev to_bytes : Gv → List ℕ
to_bytes gnil = []
to_bytes (gnum n) = []
to_bytes (gcons a b) = to_number a ∷ to_bytes b

abbrev leaf : ℕ → Gv → Tree
leaf zero b = bool (to_bool b)
leaf (suc zero) b = int (to_int b)
leaf (suc (suc zero)) b = text (to_bytes b)
leaf (suc (suc (suc n))) b = key (to_bytes b)

abbrev mutual
  pub from_tree : Tree → Gv
  from_tree nil = gnil
  from_tree (bool b) = gcons (gnum 0) (from_bool b)
  from_tree (int z) = gcons (gnum 1) (from_int z)
  from_tree (text s) = gcons (gnum 2) (from_bytes s)
  from_tree (key s) = gcons (gnum 3) (from_bytes s)
  from_tree (vector ts) = gcons gnil (from_trees ts)
  from_tree (map ps) = gcons (gcons gnil gnil) (from_pairs ps)
  from_tree (port n) = gnum n

  pub from_trees : Trees → Gv
  from_trees none = gnil
  from_trees (item t ts) = gcons (from_tree t) (from_trees ts)

  pub from_pairs : TreePairs → Gv
  from_pairs empty = gnil
  from_pairs (pair k v ps) = gcons (from_tree k) (gcons (from_tree v) (from_pairs ps))

abbrev mutual
  pub to_tree : Gv → Tree
  to_tree gnil = nil
  to_tree (gnum n) = port n
  to_tree (gcons gnil b) = vector (to_trees b)
  to_tree (gcons (gnum n) b) = leaf n b
  to_tree (gcons (gcons x y) b) = map (to_pairs b)

  pub to_trees : Gv → Trees
  to_trees gnil = none
  to_trees (gnum n) = none
  to_trees (gcons a b) = item (to_tree a) (to_trees b)

  pub to_pairs : Gv → TreePairs
  to_pairs gnil = empty
  to_pairs (gnum n) = empty
  to_pairs (gcons a gnil) = empty
  to_pairs (gcons a (gnum n)) = empty
  to_pairs (gcons a (gcons b c)) = pair (to_tree a) (to_tree b) (to_pairs c)

back_bool : (b : Bool) → to_bool (from_bool b) ≡ b
back_bool true = refl
back_bool false = refl

back_int : (z : ℤ) → to_int (from_int z) ≡ z
back_int (pos n) = refl
back_int (negsuc n) = refl

back_bytes : (s : List ℕ) → to_bytes (from_bytes s) ≡ s
back_bytes [] = refl
back_bytes (n ∷ ns) = ap (λ r. n ∷ r) (back_bytes ns)

mutual
  pub back_tree : (t : Tree) → to_tree (from_tree t) ≡ t
  back_tree nil = refl
  back_tree (bool b) = ap bool (back_bool b)
  back_tree (int z) = ap int (back_int z)
  back_tree (text s) = ap text (back_bytes s)
  back_tree (key s) = ap key (back_bytes s)
  back_tree (vector ts) = ap vector (back_trees ts)
  back_tree (map ps) = ap map (back_pairs ps)
  back_tree (port n) = refl

  pub back_trees : (ts : Trees) → to_trees (from_trees ts) ≡ ts
  back_trees none = refl
  back_trees (item t ts) = λ i. item (back_tree t i) (back_trees ts i)

  pub back_pairs : (ps : TreePairs) → to_pairs (from_pairs ps) ≡ ps
  back_pairs empty = refl
  back_pairs (pair k v ps) = λ i. pair (back_tree k i) (back_tree v i) (back_pairs ps i)

abbrev pub coded_tree : Coded Tree
coded_tree = code_by Gv itself from_tree to_tree back_tree

abbrev pub coded_trees : Coded (List Tree)
coded_trees = coded_list coded_tree

abbrev pub coded_pairs : Coded (List (Tree × Tree))
coded_pairs = coded_list (coded× coded_tree coded_tree)
