-- The test of sameness tells exactly whether two trees are one; of lists of two lengths it is false.
use Rattle.std.proofs.Common.{◌≡◌, ◌≢◌, suc, List, [], ◌∷◌, length, refl, ap, ap₂, ◌∙◌, subst, sym, IsTrue, ◌↔◌, Bool, true, false, ◌&&◌, eqb-true, eq-eqb}
use Rattle.std.specs.Bool.{beq}
use Rattle.std.proofs.lemmas.Bool.{and_parts, and_from}
use Rattle.std.proofs.lemmas.Bool.Decides.{Decides-int_eq}
use Rattle.std.proofs.lemmas.Slice.Eq.{bytes_eq-Decides}
use Rattle.ca_value.specs.declared.value.Value.{Value}
use Rattle.ca_value.specs.declared.value.Pair.{Pair}
use Rattle.ca_value.specs.View.{view, trees, tree_pairs}
use Rattle.ca_value.specs.Tree.{Tree, Trees, TreePairs, nil, bool, int, text, key, vector, map, port, none, item, empty, pair}
use Rattle.ca_value.specs.Same.{same, same_items, same_pairs}

never : {G : Type 0} → false ≡ true → G
never e = absurd (let k : false ≡ true = e in cc)

bools : (a b : Bool) → beq a b ≡ true → bool a ≡ bool b
bools true true e = refl
bools false false e = refl
bools a b e = never e

bools_alike : (a : Bool) → beq a a ≡ true
bools_alike true = refl
bools_alike false = refl

-- what passes the test is one
mutual
  pub same_true : (a b : Tree) → same a b ≡ true → a ≡ b
  same_true nil nil e = refl
  same_true (bool a) (bool b) e = bools a b e
  same_true (int a) (int b) e = ap int ((Decides-int_eq a b).0 e)
  same_true (text a) (text b) e = ap text ((bytes_eq-Decides a b).0 e)
  same_true (key a) (key b) e = ap key ((bytes_eq-Decides a b).0 e)
  same_true (vector a) (vector b) e = ap vector (items_true a b e)
  same_true (map a) (map b) e = ap map (pairs_true a b e)
  same_true (port a) (port b) e = ap port (eqb-true a b e)
  same_true a b e = never e

  pub items_true : (a b : Trees) → same_items a b ≡ true → a ≡ b
  items_true none none e = refl
  items_true (item t ts) (item u us) e = let k = and_parts (same t u) (same_items ts us) e in ap₂ item (same_true t u k.0) (items_true ts us k.1)
  items_true a b e = never e

  pairs_true : (a b : TreePairs) → same_pairs a b ≡ true → a ≡ b
  pairs_true empty empty e = refl
  pairs_true (pair j u ps) (pair k v qs) e =
      let x = and_parts (same j k) (same u v && same_pairs ps qs) e in
      let y = and_parts (same u v) (same_pairs ps qs) x.1 in
      ap (λ (z : Tree). pair z u ps) (same_true j k x.0) ∙ ap₂ (pair k) (same_true u v y.0) (pairs_true ps qs y.1)
  pairs_true a b e = never e

-- and each tree passes it with itself
mutual
  same_itself : (a : Tree) → same a a ≡ true
  same_itself nil = refl
  same_itself (bool a) = bools_alike a
  same_itself (int a) = (Decides-int_eq a a).1 refl
  same_itself (text a) = (bytes_eq-Decides a a).1 refl
  same_itself (key a) = (bytes_eq-Decides a a).1 refl
  same_itself (vector a) = items_alike a
  same_itself (map a) = pairs_alike a
  same_itself (port a) = eq-eqb a a refl

  items_alike : (a : Trees) → same_items a a ≡ true
  items_alike none = refl
  items_alike (item t ts) = and_from (same t t) (same_items ts ts) (same_itself t) (items_alike ts)

  pairs_alike : (a : TreePairs) → same_pairs a a ≡ true
  pairs_alike empty = refl
  pairs_alike (pair k v ps) = and_from (same k k) (same v v && same_pairs ps ps) (same_itself k) (and_from (same v v) (same_pairs ps ps) (same_itself v) (pairs_alike ps))

pub same_from : (a b : Tree) → a ≡ b → same a b ≡ true
same_from a b e = subst (λ z. same a z ≡ true) e (same_itself a)

pub same_items_from : (a b : Trees) → a ≡ b → same_items a b ≡ true
same_items_from a b e = subst (λ z. same_items a z ≡ true) e (items_alike a)

-- what the test answers
pub same_tells : (a b : Tree) (r : Bool) → r ≡ same a b → IsTrue r ↔ (a ≡ b)
same_tells a b r e = (λ t. same_true a b (sym e ∙ t), λ f. e ∙ same_from a b f)

-- lists of two lengths
and_none : (b : Bool) → (b && false) ≡ false
and_none true = refl
and_none false = refl

pub items_differ : (xs ys : List Value) → length xs ≢ length ys → same_items (trees xs) (trees ys) ≡ false
items_differ [] [] h = absurd (h refl)
items_differ [] (y ∷ ys) h = refl
items_differ (x ∷ xs) [] h = refl
items_differ (x ∷ xs) (y ∷ ys) h = ap (λ (b : Bool). same (view x) (view y) && b) (items_differ xs ys (λ e. h (ap suc e))) ∙ and_none (same (view x) (view y))

pub pairs_differ : (xs ys : List Pair) → length xs ≢ length ys → same_pairs (tree_pairs xs) (tree_pairs ys) ≡ false
pairs_differ [] [] h = absurd (h refl)
pairs_differ [] (y ∷ ys) h = refl
pairs_differ (x ∷ xs) [] h = refl
pairs_differ (x ∷ xs) (y ∷ ys) h =
    ap (λ (b : Bool). same (view x.key) (view y.key) && (same (view x.value) (view y.value) && b)) (pairs_differ xs ys (λ e. h (ap suc e)))
    ∙ ap (λ (b : Bool). same (view x.key) (view y.key) && b) (and_none (same (view x.value) (view y.value))) ∙ and_none (same (view x.key) (view y.key))
