-- Parts in order of their numbers, with nothing in them: one more at the end.
use Rattle.std.proofs.Common.{◌≡◌, ℕ, ◌+◌, ◌<◌, ◌≤◌, List, [], ◌∷◌, ◌++◌, refl, sym, ap, ◌∙◌, subst, arith, Bool, true, false, cond, Option, Some, None, is_some, option_map, eqb, eq-eqb, nat_lt, ltb-true, ltb-false}
use Rattle.ca_commit.specs.Listing.{listed}
use Rattle.ca_commit.specs.Running.{or_was}
use Rattle.ca_follow.specs.Has.{AreEmpty}

-- the first n of a kind are there, and none has anything in it
abbrev pub Filled : {X : Type 0} → ℕ → (ℕ → Option (ℕ → Option X)) → Type 0
Filled {X} n f = ((i : ℕ) → i < n → is_some (f i) ≡ true) × ((i k : ℕ) (g : ℕ → Option X) → f i ≡ Some g → g k ≡ None)

pub all_empty : {X : Type 0} (f : ℕ → Option (ℕ → Option X)) (n : ℕ) → 16 ≤ n → Filled n f → AreEmpty f
all_empty f n le filled = (λ i lt. filled.0 i (omega (arith, lt, le)), filled.1)

module _ {T X : Type 0} (number : T → ℕ) (view : T → ℕ → Option X) where
  abbrev all : List T → ℕ → Option (ℕ → Option X)
  all xs i = option_map view (listed number xs i)

  abbrev alone : T → ℕ → Option T
  alone x i = cond (eqb (number x) i) (Some x) None

  -- the new part counts where no other has its number
  listed_push : (xs : List T) (x : T) (i : ℕ) → listed number (xs ++ x ∷ []) i ≡ or_was (listed number xs i) (alone x i)
  listed_push [] x i = refl
  listed_push (y ∷ ys) x i = by (eqb (number y) i) (listed_push ys x i) where
    by : (c : Bool) → listed number (ys ++ x ∷ []) i ≡ or_was (listed number ys i) (alone x i) → cond c (Some y) (listed number (ys ++ x ∷ []) i) ≡ or_was (cond c (Some y) (listed number ys i)) (alone x i)
    by true e = refl
    by false e = e

  there : (xs : List T) (x : T) (n i : ℕ) → number x ≡ n → Filled n (all xs) → i < n + 1 → is_some (all (xs ++ x ∷ []) i) ≡ true
  there xs x n i is filled lt = ap (λ o. is_some (option_map view o)) (listed_push xs x i) ∙ by (listed number xs i) refl (nat_lt i n) refl where
    by : (o : Option T) → listed number xs i ≡ o → (c : Bool) → nat_lt i n ≡ c → is_some (option_map view (or_was o (alone x i))) ≡ true
    by (Some y) e c f = refl
    by None e true f = absurd (let z : false ≡ true = sym (ap (λ o. is_some (option_map view o)) e) ∙ filled.0 i (ltb-true i n f) in cc)
    by None e false f = let le = ltb-false i n f in ap (λ c. is_some (option_map view (cond c (Some x) None))) (eq-eqb (number x) i (omega (arith, is, lt, le)))

  nothing : (xs : List T) (x : T) (n i k : ℕ) (g : ℕ → Option X) → ((k : ℕ) → view x k ≡ None) → Filled n (all xs) → all (xs ++ x ∷ []) i ≡ Some g → g k ≡ None
  nothing xs x n i k g empty filled e = by (listed number xs i) refl (eqb (number x) i) (sym (ap (option_map view) (listed_push xs x i)) ∙ e) where
    by : (o : Option T) → listed number xs i ≡ o → (c : Bool) → option_map view (or_was o (cond c (Some x) None)) ≡ Some g → g k ≡ None
    by (Some y) f c h = filled.1 i k g (ap (option_map view) f ∙ h)
    by None f true h = let same : view x ≡ g = cc in sym (ap (λ (v : ℕ → Option X). v k) same) ∙ empty k
    by None f false h = absurd (let z : None ≡ Some g = h in cc)

  pub none_yet : (xs : List T) → xs ≡ [] → Filled 0 (all xs)
  none_yet xs e = (λ i lt. absurd (omega (arith, lt)), λ i k g f. absurd (let z : None ≡ Some g = sym (ap (λ (l : List T). all l i) e) ∙ f in cc))

  pub one_more : (xs ys : List T) (x : T) (n : ℕ) → ys ≡ xs ++ x ∷ [] → number x ≡ n → ((k : ℕ) → view x k ≡ None) → Filled n (all xs) → Filled (n + 1) (all ys)
  one_more xs ys x n e is empty filled = subst (λ (l : List T). Filled (n + 1) (all l)) (sym e) ((λ i lt. there xs x n i is filled lt), λ i k g f. nothing xs x n i k g empty filled f)
