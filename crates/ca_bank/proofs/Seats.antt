-- What a row of places and a table beside it have at a number.
use Rattle.std.proofs.Common.{◌≡◌, ◌<◌, ◌≤◌, ◌+◌, ◌++◌, ℕ, zero, suc, List, [], ◌∷◌, Bool, true, false, cond, Option, Some, None, refl, ◌∙◌, ap, eqb, is_some, slice_get, arith}
use Rattle.std.specs.Prelude.{nat_eq}
use Rattle.std.specs.Map.{lookup, update}
use Rattle.std.proofs.lemmas.Bool.Decides.{nat_tests}
use Rattle.ca_bank.specs.NearRow.{near_value, seated}

module _ {V : Type 0} where
  -- a place more, with nothing there
  pub last_seat : (ps : List (Option (ℕ × V))) (i : ℕ) (e : ℕ × V) → slice_get (ps ++ None ∷ []) i ≡ Some (Some e) → slice_get ps i ≡ Some (Some e)
  last_seat [] zero e h = absurd (let q : Some None ≡ Some (Some e) = h in cc)
  last_seat [] (suc i) e h = h
  last_seat (p ∷ ps) zero e h = h
  last_seat (p ∷ ps) (suc i) e h = last_seat ps i e h

  pub last_value : (n : ℕ) (ps : List (Option (ℕ × V))) (i : ℕ) → near_value n (slice_get (ps ++ None ∷ []) i) ≡ near_value n (slice_get ps i)
  last_value n [] zero = refl
  last_value n [] (suc i) = refl
  last_value n (p ∷ ps) zero = refl
  last_value n (p ∷ ps) (suc i) = last_value n ps i

  pub last_entries : (ps : List (Option (ℕ × V))) → seated (ps ++ None ∷ []) ≡ seated ps
  last_entries [] = refl
  last_entries (None ∷ ps) = last_entries ps
  last_entries (Some e ∷ ps) = ap (λ (r : List (ℕ × V)). e ∷ r) (last_entries ps)

  module _ (place : ℕ → ℕ) (n : ℕ) where
    -- each stands at the place that its number tells, counted from k
    abbrev pub Seats : ℕ → List (Option (ℕ × V)) → Type 0
    Seats k ps = (i : ℕ) (e : ℕ × V) → slice_get ps i ≡ Some (Some e) → place e.0 ≡ i + k

    other : (e : ℕ × V) (k : ℕ) → place e.0 ≡ k → (place n ≡ k → ⊥) → nat_eq n e.0 ≡ false
    other e k s apart = by (nat_eq n e.0) refl where
      by : (b : Bool) → nat_eq n e.0 ≡ b → b ≡ false
      by true h = absurd (apart (ap place (let q : n ≡ e.0 = grind (arith, nat_tests) in q) ∙ s))
      by false h = refl

    -- its place is in front of them
    in_front : (k : ℕ) (ps : List (Option (ℕ × V))) → Seats k ps → place n < k → lookup (nat_eq n) (seated ps) ≡ None
    in_front k [] s lt = refl
    in_front k (None ∷ ps) s lt = in_front (k + 1) ps (λ i e h. s (suc i) e h ∙ omega arith) (omega arith)
    in_front k (Some e ∷ ps) s lt =
        let apart : nat_eq n e.0 ≡ false = other e k (s 0 e refl ∙ omega arith) (λ q. omega arith) in
        ap (λ (b : Bool). cond b (Some e.1) (lookup (nat_eq n) (seated ps))) apart ∙ in_front (k + 1) ps (λ i e h. s (suc i) e h ∙ omega arith) (omega arith)

    pub seat_found : (k i : ℕ) (ps : List (Option (ℕ × V))) → Seats k ps → place n ≡ i + k → lookup (nat_eq n) (seated ps) ≡ near_value n (slice_get ps i)
    seat_found k i [] s at = refl
    seat_found k zero (None ∷ ps) s at = in_front (k + 1) ps (λ i e h. s (suc i) e h ∙ omega arith) (omega arith)
    seat_found k (suc i) (None ∷ ps) s at = seat_found (k + 1) i ps (λ i e h. s (suc i) e h ∙ omega arith) (omega arith)
    seat_found k zero (Some e ∷ ps) s at = ap (λ (o : Option V). cond (nat_eq n e.0) (Some e.1) o) (in_front (k + 1) ps (λ i e h. s (suc i) e h ∙ omega arith) (omega arith))
    seat_found k (suc i) (Some e ∷ ps) s at =
        let apart : nat_eq n e.0 ≡ false = other e k (s 0 e refl ∙ omega arith) (λ q. omega arith) in
        ap (λ (b : Bool). cond b (Some e.1) (lookup (nat_eq n) (seated ps))) apart ∙ seat_found (k + 1) i ps (λ i e h. s (suc i) e h ∙ omega arith) (omega arith)

  -- the first of the two, else the second
  abbrev pub either : Option V → Option V → Option V
  either None o = o
  either (Some v) o = Some v

  pub lookup_either : (test : ℕ → Bool) (xs ys : List (ℕ × V)) → lookup test (xs ++ ys) ≡ either (lookup test xs) (lookup test ys)
  lookup_either test [] ys = refl
  lookup_either test (e ∷ xs) ys = by (test e.0) (lookup_either test xs ys) where
    by : (b : Bool) → lookup test (xs ++ ys) ≡ either (lookup test xs) (lookup test ys) → cond b (Some e.1) (lookup test (xs ++ ys)) ≡ either (cond b (Some e.1) (lookup test xs)) (lookup test ys)
    by true h = refl
    by false h = h

  -- what both have, when it changes at a number
  pub both_removed : (near near2 far far2 : ℕ → Option V) (k : ℕ) → ((n : ℕ) → near2 n ≡ update eqb near k None n) → ((n : ℕ) → far2 n ≡ update eqb far k None n) → (n : ℕ) → either (near2 n) (far2 n) ≡ cond (eqb k n) None (either (near n) (far n))
  both_removed near near2 far far2 k a b n = rw (a n, b n) (by (eqb k n)) where
    by : (t : Bool) → either (cond t None (near n)) (cond t None (far n)) ≡ cond t None (either (near n) (far n))
    by true = refl
    by false = refl

  pub near_put : (near near2 far : ℕ → Option V) (k : ℕ) (v : V) → ((n : ℕ) → near2 n ≡ update eqb near k (Some v) n) → (n : ℕ) → either (near2 n) (far n) ≡ cond (eqb k n) (Some v) (either (near n) (far n))
  near_put near near2 far k v a n = rw (a n) (by (eqb k n)) where
    by : (t : Bool) → either (cond t (Some v) (near n)) (far n) ≡ cond t (Some v) (either (near n) (far n))
    by true = refl
    by false = refl

  pub far_put : (near near2 far far2 : ℕ → Option V) (k : ℕ) (v : V) → ((n : ℕ) → near2 n ≡ update eqb near k None n) → ((n : ℕ) → far2 n ≡ update eqb far k (Some v) n) → (n : ℕ) → either (near2 n) (far2 n) ≡ cond (eqb k n) (Some v) (either (near n) (far n))
  far_put near near2 far far2 k v a b n = rw (a n, b n) (by (eqb k n)) where
    by : (t : Bool) → either (cond t None (near n)) (cond t (Some v) (far n)) ≡ cond t (Some v) (either (near n) (far n))
    by true = refl
    by false = refl

  -- a map without that number stays as it is without it
  pub stays_without : (f : ℕ → Option V) (k : ℕ) → f k ≡ None → (n : ℕ) → f n ≡ update eqb f k None n
  stays_without f k none n = by (eqb k n) refl where
    by : (t : Bool) → eqb k n ≡ t → f n ≡ cond t None (f n)
    by true h = ap f (let q : n ≡ k = grind (arith, nat_tests) in q) ∙ none
    by false h = refl

  -- where the first has nothing any more, the two stay apart whatever the second gets
  pub apart_without : (near near2 far far2 : ℕ → Option V) (k : ℕ) (o : Option V) → ((n : ℕ) → is_some (near n) ≡ true → far n ≡ None) → ((n : ℕ) → near2 n ≡ update eqb near k None n) → ((n : ℕ) → far2 n ≡ update eqb far k o n) → (n : ℕ) → is_some (near2 n) ≡ true → far2 n ≡ None
  apart_without near near2 far far2 k o apart a b n = rw (a n, b n) (by (eqb k n)) where
    by : (t : Bool) → is_some (cond t None (near n)) ≡ true → cond t o (far n) ≡ None
    by true s = absurd (let q : false ≡ true = s in cc)
    by false s = apart n s

  -- no number above the last one is there
  pub above_removed : (far far2 : ℕ → Option V) (k last : ℕ) → ((n : ℕ) → last < n → far n ≡ None) → ((n : ℕ) → far2 n ≡ update eqb far k None n) → (n : ℕ) → last < n → far2 n ≡ None
  above_removed far far2 k last above b n lt = rw (b n) (by (eqb k n)) where
    by : (t : Bool) → cond t None (far n) ≡ None
    by true = refl
    by false = above n lt

  pub above_put : (far far2 : ℕ → Option V) (k last last2 : ℕ) (v : V) → ((n : ℕ) → last < n → far n ≡ None) → last ≤ last2 → k ≤ last2 → ((n : ℕ) → far2 n ≡ update eqb far k (Some v) n) → (n : ℕ) → last2 < n → far2 n ≡ None
  above_put far far2 k last last2 v above le at b n lt =
      let other : eqb k n ≡ false = grind (arith, nat_tests) in
      b n ∙ ap (λ (t : Bool). cond t (Some v) (far n)) other ∙ above n (omega arith)
