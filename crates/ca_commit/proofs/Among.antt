-- Which parts are among those that an event touches, and that these are held.
use Rattle.std.proofs.Common.{◌≡◌, ℕ, zero, suc, ◌<◌, ◌≤◌, ◌+◌, List, [], ◌∷◌, ◌++◌, refl, sym, ap, ◌∙◌, subst, arith, Bool, true, false, cond, Option, Some, eqb, eqb-true, eq-eqb, ne_eqb, map}
use Rattle.std.proofs.lemmas.Bool.{eqb-false}
use mathlib.Core.Logic.{dite}
use native.Mathlib.Decide.{ℕ_discrete}
use Rattle.ca_meaning.specs.Wait.{is_among}
use Rattle.ca_commit.specs.Gathered.{pick}
use Rattle.ca_commit.specs.Running.{AreAt}
use Rattle.ca_commit.specs.Touched.{wanted}

pub le_but : (a b : ℕ) → a ≤ b → (a ≡ b → ⊥) → suc a ≤ b
le_but a b le ne = dite (ℕ_discrete a b) (λ e. absurd (ne e)) (λ n. omega (arith, le, n))

pub among_first : (i : ℕ) (is : List ℕ) (j : ℕ) → i ≡ j → is_among i (j ∷ is) ≡ true
among_first i is j e = ap (λ c. cond c true (is_among i is)) (eq-eqb i j e)

pub among_later : (i : ℕ) (is : List ℕ) (j : ℕ) → is_among i is ≡ true → is_among i (j ∷ is) ≡ true
among_later i is j e = by (eqb i j) where
  by : (b : Bool) → cond b true (is_among i is) ≡ true
  by true = refl
  by false = e

pub among_left : (i : ℕ) (xs ys : List ℕ) → is_among i xs ≡ true → is_among i (xs ++ ys) ≡ true
among_left i [] ys e = absurd (let z : false ≡ true = e in cc)
among_left i (x ∷ xs) ys e = by (eqb i x) (λ f. among_left i xs ys f) e where
  by : (b : Bool) → (is_among i xs ≡ true → is_among i (xs ++ ys) ≡ true) → cond b true (is_among i xs) ≡ true → cond b true (is_among i (xs ++ ys)) ≡ true
  by true ih e = refl
  by false ih e = ih e

pub among_right : (i : ℕ) (xs ys : List ℕ) → is_among i ys ≡ true → is_among i (xs ++ ys) ≡ true
among_right i [] ys e = e
among_right i (x ∷ xs) ys e = among_later i (xs ++ ys) x (among_right i xs ys e)

pub among_map : (f : ℕ → ℕ) (i : ℕ) (xs : List ℕ) → is_among i xs ≡ true → is_among (f i) (map f xs) ≡ true
among_map f i [] e = absurd (let z : false ≡ true = e in cc)
among_map f i (x ∷ xs) e = by (eqb i x) refl (λ h. among_map f i xs h) e where
  by : (b : Bool) → eqb i x ≡ b → (is_among i xs ≡ true → is_among (f i) (map f xs) ≡ true) → cond b true (is_among i xs) ≡ true → is_among (f i) (f x ∷ map f xs) ≡ true
  by true is ih e = among_first (f i) (map f xs) (f x) (ap f (eqb-true i x is))
  by false is ih e = among_later (f i) (map f xs) (f x) (ih e)

-- each number from k on that is wanted
pub among_wanted : (t : ℕ → Bool) (base k c i : ℕ) → k ≤ i → i < k + c → t i ≡ true → is_among (base + i) (wanted t base k c) ≡ true
among_wanted t base k zero i a b e = absurd (omega (arith, a, b))
among_wanted t base k (suc c) i a b e = dite (ℕ_discrete k i)
    (λ same. by_here (t k) (ap t same ∙ e) (among_first (base + i) (wanted t base (suc k) c) (base + k) (ap (λ z. base + z) (sym same))))
    (λ ne. by_later (t k) (among_wanted t base (suc k) c i (le_but k i a ne) (omega (arith, b)) e)) where
      by_here : (b2 : Bool) → b2 ≡ true → is_among (base + i) ((base + k) ∷ wanted t base (suc k) c) ≡ true → is_among (base + i) (cond b2 ((base + k) ∷ wanted t base (suc k) c) (wanted t base (suc k) c)) ≡ true
      by_here true is h = h
      by_here false is h = absurd (let z : false ≡ true = is in cc)

      by_later : (b2 : Bool) → is_among (base + i) (wanted t base (suc k) c) ≡ true → is_among (base + i) (cond b2 ((base + k) ∷ wanted t base (suc k) c) (wanted t base (suc k) c)) ≡ true
      by_later true h = among_later (base + i) (wanted t base (suc k) c) (base + k) h
      by_later false h = h

-- all parts are among those that are touched
pub among_all : (k i : ℕ) → i < k → is_among i (wanted (λ i. true) 0 0 k) ≡ true
among_all k i lt = subst (λ j. is_among j (wanted (λ i. true) 0 0 k) ≡ true) (let z : 0 + i ≡ i = omega arith in z) (among_wanted (λ i. true) 0 0 k i (omega arith) (omega (arith, lt)) refl)

-- what is touched is held
pub pick_all : {C : Type 0} (now : ℕ → Option C) (is : List ℕ) (cs : List C) (i : ℕ) → AreAt now is cs → is_among i is ≡ true → pick is cs i ≡ now i
pick_all now [] cs i r e = absurd (let z : false ≡ true = e in cc)
pick_all now (j ∷ is) [] i r e = absurd r
pick_all now (j ∷ is) (c ∷ cs) i r e = by (eqb j i) refl (pick_all now is cs i r.1) e where
  by : (b : Bool) → eqb j i ≡ b → (is_among i is ≡ true → pick is cs i ≡ now i) → is_among i (j ∷ is) ≡ true → cond b (Some c) (pick is cs i) ≡ now i
  by true same ih e = sym r.0 ∙ ap now (eqb-true j i same)
  by false same ih e = ih (sym (ap (λ b. cond b true (is_among i is)) (ne_eqb i j (λ z. eqb-false j i same (sym z)))) ∙ e)
