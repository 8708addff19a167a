-- Rows of slots that are filled, or emptied one by one.
use Rattle.std.proofs.Common.{◌≡◌, ℕ, zero, suc, ◌+◌, ◌<◌, ◌≤◌, List, [], ◌∷◌, ◌++◌, map, get_or, set, take, replicate, sym, refl, ap, ◌∙◌, arith, Bool, true, false, get_or-set_other}
use mathlib.Core.Option.{some, some-injective, some-ne-none}
use native.Mathlib.Decide.{ℕ_discrete}
use lib.ListN.{get_elem?}
use Rattle.std.proofs.lemmas.List.Elements.{All-append}
use Rattle.std.specs.Prelude.{Option, Some, None, All}
use Rattle.ca_turns.proofs.Lists.{none_some}

pub replicate_more : {A : Type 0} (n : ℕ) (x : A) → replicate n x ++ x ∷ [] ≡ replicate (n + 1) x
replicate_more n x = go n ∙ ap (λ m. replicate m x) (let e : suc n ≡ n + 1 = omega arith in e)
  where
    go : (n : ℕ) → replicate n x ++ x ∷ [] ≡ replicate (suc n) x
    go zero = refl
    go (suc n) = ap (λ z. x ∷ z) (go n)

pub all_some : {A : Type 0} (ps : List A) (i : ℕ) → get_elem? (map Some ps) i ≡ some None → ⊥
all_some [] i e = some-ne-none None (sym e)
all_some (p ∷ ps) zero e = none_some p (sym (some-injective (Some p) None e))
all_some (p ∷ ps) (suc i) e = all_some ps i e

pub take_one : {A : Type 0} (l : List A) (i : ℕ) (a : A) → get_elem? l i ≡ some a → take (i + 1) l ≡ take i l ++ a ∷ []
take_one l i a e = ap (λ m. take m l) (let f : i + 1 ≡ suc i = omega arith in f) ∙ go l i e
  where
    go : (l : List _) (i : ℕ) → get_elem? l i ≡ some a → take (suc i) l ≡ take i l ++ a ∷ []
    go [] i e = absurd (some-ne-none a (sym e))
    go (x ∷ xs) zero e = ap (λ z. z ∷ []) (some-injective x a e)
    go (x ∷ xs) (suc i) e = ap (λ z. x ∷ z) (go xs i e)

pub more_left : (bs bs' : List Bool) (i n : ℕ) → bs' ≡ set bs i false → ((k : ℕ) → i ≤ k → k < n → get_or bs k false ≡ true) → (k : ℕ) → i + 1 ≤ k → k < n → get_or bs' k false ≡ true
more_left bs bs' i n e h k le lt = ap (λ b. get_or b k false) e ∙ get_or-set_other bs i k false false (λ z. omega arith) ∙ h k (omega arith) lt

pub more_gone : (bs bs' : List Bool) (i : ℕ) → bs' ≡ set bs i false → ((k : ℕ) → k < i → get_or bs k false ≡ false) → (k : ℕ) → k < i + 1 → get_or bs' k false ≡ false
more_gone bs bs' i e h k lt = ap (λ b. get_or b k false) e ∙ elim (ℕ_discrete k i) [ yes is ↦ ap (λ m. get_or (set bs i false) m false) is ∙ off bs i | no ne ↦ get_or-set_other bs i k false false ne ∙ h k (omega arith) ]
  where
    off : (bs : List Bool) (i : ℕ) → get_or (set bs i false) i false ≡ false
    off [] i = refl
    off (b ∷ bs) zero = refl
    off (b ∷ bs) (suc i) = off bs i

pub some_alike : {A : Type 0} (xs ys : List A) → map Some xs ≡ map Some ys → xs ≡ ys
some_alike {A} xs ys e = sym (unmade xs) ∙ ap un e ∙ unmade ys
  where
    first : Option A → List A → List A
    first None l = l
    first (Some x) l = x ∷ l

    un : List (Option A) → List A
    un [] = []
    un (o ∷ os) = first o (un os)

    unmade : (xs : List A) → un (map Some xs) ≡ xs
    unmade [] = refl
    unmade (x ∷ xs) = ap (λ z. x ∷ z) (unmade xs)

-- one more of which it is true
pub all_more : {X : Type 0} (P : X → Type 0) (xs : List X) (x : X) → All P xs → P x → All P (xs ++ x ∷ [])
all_more {X} P xs x all this = All-append P xs (x ∷ []) all (only {X = X} P x this)
  where
    only : {X : Type 0} (P : X → Type 0) (x : X) → P x → (k : ℕ) (d : X) → k < 1 → P (get_or (x ∷ []) k d)
    only P x this zero d h = this
    only P x this (suc k) d h = absurd (omega arith)
