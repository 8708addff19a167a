-- Lists with one element changed, lists put end to end, and functions changed at one place.
use Rattle.std.proofs.Common.{◌≡◌, ℕ, zero, suc, ◌+◌, ◌*◌, ◌<◌, ◌≤◌, ◌≢◌, ◌⊎◌, List, [], ◌∷◌, ◌++◌, length, get_or, set, replicate, sym, refl, ap, ◌∙◌, subst, inl, inr, ⊎_elim, arith}
use Rattle.std.proofs.Math.Nat.{mul-add}
use mathlib.Core.Path.{Path}
use mathlib.Core.Option.{some, some-injective, some-ne-none}
use native.Mathlib.Decide.{ℕ_discrete}
use lib.ListN.{get_elem?}
use Rattle.std.specs.Prelude.{Some, None}
use Rattle.ca_turns.specs.Places.{total}
use Rattle.atomic_table.proofs.Lists.{set_here, set_else}

pub zero_suc : (j : ℕ) → 0 ≡ suc j → ⊥
zero_suc j e = omega arith

pub suc-injective : {i j : ℕ} → suc i ≡ suc j → i ≡ j
suc-injective e = omega arith

pub both_some : {A : Type 0} (a b : A) → some (Some a) ≡ some (Some b) → a ≡ b
both_some a b e = cc

pub none_some : {A : Type 0} (a : A) → None ≡ Some a → ⊥
none_some a e = cc

abbrev pub pick : {A Q : Type 0} → Dec Q → A → A → A
pick (yes _) a b = a
pick (no _) a b = b

pub pick_yes : {A Q : Type 0} (d : Dec Q) (a b : A) → Q → Path A (pick d a b) a
pick_yes (yes _) a b q = refl
pick_yes (no n) a b q = absurd (n q)

pub pick_no : {A Q : Type 0} (d : Dec Q) (a b : A) → (Q → ⊥) → Path A (pick d a b) b
pick_no (yes q) a b n = absurd (n q)
pick_no (no _) a b n = refl

module _ {A : Type 0} where
  pub put : (ℕ → A) → ℕ → A → ℕ → A
  put f i a j = pick (ℕ_discrete j i) a (f j)

  -- what holds of the new value at i, and of each other value, holds after
  pub at_put : (f : ℕ → A) (i : ℕ) (a : A) (F : ℕ → A → Type 0) (j : ℕ) → F i a → (j ≢ i → F j (f j)) → F j (put f i a j)
  unfolding put
  at_put f i a F j here other = go (ℕ_discrete j i)
    where
      go : (d : Dec (j ≡ i)) → F j (pick d a (f j))
      go (yes e) = subst (λ (k : ℕ). F k a) (sym e) here
      go (no n) = other n

  pub put_here : (f : ℕ → A) (i : ℕ) (a : A) → Path A (put f i a i) a
  put_here f i a = at_put f i a (λ q x. q ≡ i → Path A x a) i (λ _. refl) (λ n. absurd (n refl)) refl

  pub put_else : (f : ℕ → A) (i j : ℕ) (a : A) → j ≢ i → Path A (put f i a j) (f j)
  put_else f i j a n = at_put f i a (λ q x. q ≢ i → Path A x (f q)) j (λ m. absurd (m refl)) (λ _ _. refl) n

  -- what stands at j after the value at i is changed
  pub after_set : (l : List A) (i : ℕ) (v w : A) → get_elem? l i ≡ some v → (j : ℕ) (u : A) → get_elem? l j ≡ some u → (u' : A) × (get_elem? (set l i w) j ≡ some u') × (((j ≡ i) × Path A u v × Path A u' w) ⊎ ((j ≢ i) × Path A u' u))
  after_set l i v w at j u e = go (ℕ_discrete j i)
    where
      go : Dec (j ≡ i) → (u' : A) × (get_elem? (set l i w) j ≡ some u') × (((j ≡ i) × Path A u v × Path A u' w) ⊎ ((j ≢ i) × Path A u' u))
      go (yes p) = let at' = subst (λ (k : ℕ). get_elem? l k ≡ some v) (sym p) at in
          (w, subst (λ (k : ℕ). get_elem? (set l i w) k ≡ some w) (sym p) (set_at l i v w at), inl (p, some-injective u v (sym e ∙ at'), refl))
        where
          set_at : (l : List A) (i : ℕ) (v w : A) → get_elem? l i ≡ some v → get_elem? (set l i w) i ≡ some w
          set_at [] i v w at = absurd (some-ne-none v (sym at))
          set_at (x ∷ xs) zero v w at = refl
          set_at (x ∷ xs) (suc i) v w at = set_at xs i v w at
      go (no n) = (u, set_else l i j w n ∙ e, inr (n, refl))

  pub in_range : (l : List A) (i : ℕ) (v : A) → get_elem? l i ≡ some v → i < length l
  in_range [] i v at = absurd (some-ne-none v (sym at))
  in_range (x ∷ xs) zero v at = omega arith
  in_range (x ∷ xs) (suc i) v at = let h = in_range xs i v at in omega arith

  pub total-set : (f : A → ℕ) (l : List A) (i : ℕ) (v w : A) → get_elem? l i ≡ some v → total f (set l i w) + f v ≡ total f l + f w
  total-set f [] i v w at = absurd (some-ne-none v (sym at))
  total-set f (x ∷ xs) zero v w at = let e : f x ≡ f v = ap f (some-injective x v at) in omega arith
  total-set f (x ∷ xs) (suc i) v w at = let h = total-set f xs i v w at in omega arith

  pub total-snoc : (f : A → ℕ) (l : List A) (v : A) → total f (l ++ v ∷ []) ≡ total f l + f v
  total-snoc f [] v = omega arith
  total-snoc f (x ∷ xs) v = let h = total-snoc f xs v in omega arith

  pub one_of : (f : A → ℕ) (l : List A) (i : ℕ) (v : A) → get_elem? l i ≡ some v → f v ≤ total f l
  one_of f [] i v at = absurd (some-ne-none v (sym at))
  one_of f (x ∷ xs) zero v at = let e : f x ≡ f v = ap f (some-injective x v at) in omega arith
  one_of f (x ∷ xs) (suc i) v at = let h = one_of f xs i v at in omega arith

  pub two_of : (f : A → ℕ) (l : List A) (i j : ℕ) (v w : A) → i ≢ j → get_elem? l i ≡ some v → get_elem? l j ≡ some w → f v + f w ≤ total f l
  two_of f [] i j v w n at at' = absurd (some-ne-none v (sym at))
  two_of f (x ∷ xs) zero zero v w n at at' = absurd (n refl)
  two_of f (x ∷ xs) zero (suc j) v w n at at' = let e : f x ≡ f v = ap f (some-injective x v at) in let h = one_of f xs j w at' in omega arith
  two_of f (x ∷ xs) (suc i) zero v w n at at' = let e : f x ≡ f w = ap f (some-injective x w at') in let h = one_of f xs i v at in omega arith
  two_of f (x ∷ xs) (suc i) (suc j) v w n at at' = let h = two_of f xs i j v w (λ e. n (ap suc e)) at at' in omega arith

  pub total-le : (f g : A → ℕ) (k : ℕ) (l : List A) → ((i : ℕ) (v : A) → get_elem? l i ≡ some v → f v ≤ k * g v) → total f l ≤ k * total g l
  total-le f g k [] h = omega arith
  total-le f g k (x ∷ xs) h = let a = h 0 x refl in let b = total-le f g k xs (λ i v e. h (suc i) v e) in grind arith

  pub total_but : (f g : A → ℕ) (k : ℕ) (l : List A) → ((i : ℕ) (v : A) → get_elem? l i ≡ some v → f v ≤ k * g v) → (i : ℕ) (v : A) → get_elem? l i ≡ some v → total f l + k * g v ≤ f v + k * total g l
  total_but f g k [] h i v at = absurd (some-ne-none v (sym at))
  total_but f g k (x ∷ xs) h zero v at = let e : f x ≡ f v = ap f (some-injective x v at) in let e' : g x ≡ g v = ap g (some-injective x v at) in let b = total-le f g k xs (λ i v e. h (suc i) v e) in
      let d : k * (g x + total g xs) ≡ k * g x + k * total g xs = mul-add k (g x) (total g xs) in let d' : k * g x ≡ k * g v = ap (λ m. k * m) e' in omega arith
  total_but f g k (x ∷ xs) h (suc i) v at = let a = h 0 x refl in let b = total_but f g k xs (λ i v e. h (suc i) v e) i v at in
      let d : k * (g x + total g xs) ≡ k * g x + k * total g xs = mul-add k (g x) (total g xs) in omega arith

module _ {A : Type 0} where
  pub set_at : (l : List A) (i : ℕ) (v w : A) → get_elem? l i ≡ some v → get_elem? (set l i w) i ≡ some w
  set_at l i v w at = set_here l i w (in_range l i v at)

  pub there_is : (l : List A) (i : ℕ) → i < length l → (a : A) × (get_elem? l i ≡ some a)
  there_is [] i h = absurd (omega arith)
  there_is (x ∷ xs) zero h = (x, refl)
  there_is (x ∷ xs) (suc i) h = there_is xs i (omega arith)

  -- the last place of a longer list
  pub at_snoc : (l : List A) (a b : A) (j : ℕ) → get_elem? (l ++ a ∷ []) j ≡ some b → (get_elem? l j ≡ some b) ⊎ ((j ≡ length l) × (a ≡ b))
  at_snoc [] a b zero e = inr (refl, some-injective a b e)
  at_snoc [] a b (suc j) e = absurd (some-ne-none b (sym e))
  at_snoc (x ∷ xs) a b zero e = inl e
  at_snoc (x ∷ xs) a b (suc j) e = ⊎_elim (λ t. inl t) (λ t. inr (ap suc t.0, t.1)) (at_snoc xs a b j e)

  pub at_second : (l m : List A) (i : ℕ) → get_elem? (l ++ m) (length l + i) ≡ get_elem? m i
  at_second [] m i = ap (get_elem? m) (omega arith)
  at_second (x ∷ xs) m i = ap (get_elem? (x ∷ (xs ++ m))) (let e : suc (length xs) + i ≡ suc (length xs + i) = omega arith in e) ∙ at_second xs m i

  pub at_either : (l m : List A) (i : ℕ) (a : A) → get_elem? (l ++ m) i ≡ some a → (get_elem? l i ≡ some a) ⊎ ((j : ℕ) × (i ≡ length l + j) × (get_elem? m j ≡ some a))
  at_either [] m i a e = inr (i, omega arith, e)
  at_either (x ∷ xs) m zero a e = inl e
  at_either (x ∷ xs) m (suc i) a e = ⊎_elim (λ t. inl t) (λ t. inr (t.0, (let f : i ≡ length xs + t.0 = t.1 in omega arith), t.2)) (at_either xs m i a e)

  pub read_at : (l : List A) (i : ℕ) (a d : A) → get_elem? l i ≡ some a → get_or l i d ≡ a
  read_at [] i a d e = absurd (some-ne-none a (sym e))
  read_at (x ∷ xs) zero a d e = some-injective x a e
  read_at (x ∷ xs) (suc i) a d e = read_at xs i a d e

pub no_part : {A : Type 0} (n i : ℕ) (c : A) → get_elem? (replicate n None) i ≡ some (Some c) → ⊥
no_part zero i c e = absurd (some-ne-none (Some c) (sym e))
no_part (suc n) zero c e = none_some c (some-injective None (Some c) e)
no_part (suc n) (suc i) c e = no_part n i c e
