-- A list of values beside what stands in a registry, member by member.
use Rattle.std.proofs.Common.{◌≡◌, ◌≢◌, ℕ, zero, suc, ◌+◌, ◌<◌, ◌≤◌, List, [], ◌∷◌, length, map, drop, refl, sym, ap, ◌∙◌, arith, Bool, true, false, ◌&&◌, Some, None, slice_get, get_or, add-one}
use Rattle.ca_value.specs.Tree.{Tree, Trees, none, item, trees_of}
use Rattle.ca_value.specs.Same.{same, same_items}
use Rattle.ca_value.specs.View.{view, trees}
use Rattle.ca_value.specs.declared.value.Value.{Value}

and_none : (b : Bool) → (b && false) ≡ false
and_none true = refl
and_none false = refl

and_last : (b : Bool) → (b && true) ≡ b
and_last true = refl
and_last false = refl

module _ {X Y : Type 0} (f : X → Y) (g : Y → Tree) where
  abbrev among : List Value → List X → Bool
  among vs xs = same_items (trees vs) (trees_of (map g (map f xs)))

  pub given_differ : (vs : List Value) (xs : List X) → length vs ≢ length xs → among vs xs ≡ false
  given_differ [] [] h = absurd (h refl)
  given_differ [] (x ∷ xs) h = refl
  given_differ (v ∷ vs) [] h = refl
  given_differ (v ∷ vs) (x ∷ xs) h = ap (λ (b : Bool). same (view v) (g (f x)) && b) (given_differ vs xs (λ e. h (ap suc e))) ∙ and_none (same (view v) (g (f x)))

  next : (vs : List Value) (xs : List X) (i : ℕ) (d : Value) (x : X) → i < length vs → slice_get xs i ≡ Some x → among (drop i vs) (drop i xs) ≡ (same (view (get_or vs i d)) (g (f x)) && among (drop (suc i) vs) (drop (suc i) xs))
  next [] xs i d x lt e = absurd (omega (arith, lt))
  next (v ∷ vs) [] i d x lt e = absurd cc
  next (v ∷ vs) (y ∷ xs) zero d x lt e = ap (λ (z : X). same (view v) (g (f z)) && among vs xs) (let k : y ≡ x = cc in k)
  next (v ∷ vs) (y ∷ xs) (suc i) d x lt e = next vs xs i d x (omega (arith, lt)) e

  at_place : (vs : List Value) (xs : List X) (i : ℕ) (v : Value) (x : X) (b : Bool) → i < length vs → slice_get xs i ≡ Some x → v ≡ get_or vs i v → same (view v) (g (f x)) ≡ b → among (drop i vs) (drop i xs) ≡ (b && among (drop (suc i) vs) (drop (suc i) xs))
  at_place vs xs i v x b lt e is h =
      next vs xs i v x lt e
      ∙ ap (λ (u : Value). same (view u) (g (f x)) && among (drop (suc i) vs) (drop (suc i) xs)) (sym is)
      ∙ ap (λ (c : Bool). c && among (drop (suc i) vs) (drop (suc i) xs)) h

  -- the member at the place is another one
  pub given_other : (vs : List Value) (xs : List X) (i : ℕ) (v : Value) (x : X) → i < length vs → slice_get xs i ≡ Some x → v ≡ get_or vs i v → same (view v) (g (f x)) ≡ false → among (drop i vs) (drop i xs) ≡ false
  given_other vs xs i v x lt e is h = at_place vs xs i v x false lt e is h

  -- and this one
  pub given_same : (vs : List Value) (xs : List X) (i : ℕ) (v : Value) (x : X) → i < length vs → slice_get xs i ≡ Some x → v ≡ get_or vs i v → same (view v) (g (f x)) ≡ true → among (drop i vs) (drop i xs) ≡ among (drop (i + 1) vs) (drop (i + 1) xs)
  given_same vs xs i v x lt e is h = at_place vs xs i v x true lt e is h ∙ ap (λ k. among (drop k vs) (drop k xs)) (sym (add-one i))

-- two values, and four
pub not_two : (vs : List Value) (a b : Tree) → length vs ≢ 2 → same_items (trees vs) (item a (item b none)) ≡ false
not_two [] a b h = refl
not_two (u ∷ []) a b h = and_none (same (view u) a)
not_two (u ∷ v ∷ []) a b h = absurd (h refl)
not_two (u ∷ v ∷ w ∷ vs) a b h = ap (λ (z : Bool). same (view u) a && z) (and_none (same (view v) b)) ∙ and_none (same (view u) a)

pub two_given : (vs : List Value) (d e : Value) (a b : Tree) → length vs ≡ 2 → same_items (trees vs) (item a (item b none)) ≡ (same (view (get_or vs 0 d)) a && same (view (get_or vs 1 e)) b)
two_given [] d e a b h = absurd (let k : 0 ≡ 2 = h in cc)
two_given (u ∷ []) d e a b h = absurd (let k : 1 ≡ 2 = h in cc)
two_given (u ∷ v ∷ []) d e a b h = ap (λ (z : Bool). same (view u) a && z) (and_last (same (view v) b))
two_given (u ∷ v ∷ w ∷ vs) d e a b h = absurd (omega (arith, h))

pub not_four : (vs : List Value) (a b c d : Tree) → length vs ≢ 4 → same_items (trees vs) (item a (item b (item c (item d none)))) ≡ false
not_four [] a b c d h = refl
not_four (u ∷ vs) a b c d h = ap (λ (z : Bool). same (view u) a && z) (three vs (λ e. h (ap suc e))) ∙ and_none (same (view u) a) where
  three : (ws : List Value) → length ws ≢ 3 → same_items (trees ws) (item b (item c (item d none))) ≡ false
  three [] k = refl
  three (w ∷ ws) k = ap (λ (z : Bool). same (view w) b && z) (not_two ws c d (λ e. k (ap suc e))) ∙ and_none (same (view w) b)

pub four_given : (vs : List Value) (p q r s : Value) (a b c d : Tree) → length vs ≡ 4 → same_items (trees vs) (item a (item b (item c (item d none)))) ≡ (same (view (get_or vs 0 p)) a && (same (view (get_or vs 1 q)) b && (same (view (get_or vs 2 r)) c && same (view (get_or vs 3 s)) d)))
four_given [] p q r s a b c d h = absurd (let k : 0 ≡ 4 = h in cc)
four_given (u ∷ []) p q r s a b c d h = absurd (let k : 1 ≡ 4 = h in cc)
four_given (u ∷ v ∷ vs) p q r s a b c d h = ap (λ (z : Bool). same (view u) a && (same (view v) b && z)) (two_given vs r s c d (omega (arith, h)))
