-- A list of parts with their numbers, as a map.
use Rattle.std.proofs.Common.{◌≡◌, ℕ, zero, suc, List, [], ◌∷◌, length, refl, sym, ap, ◌∙◌, arith, Bool, true, false, cond, Option, Some, None, IfNone, IsSome, is_some, option_map, eqb, eqb-true, eq-eqb, ne_eqb, slice_index_or, slice_set}
use Rattle.std.specs.Map.{update}
use Rattle.ca_commit.specs.Contents.{at_key, home, whole}
use Rattle.ca_commit.specs.Listing.{listed, NoneBefore, IsFirst, changed_at}

module _ {T : Type 0} (number : T → ℕ) where
  step_down : (x : T) (xs : List T) (n i : ℕ) → NoneBefore number (x ∷ xs) n (suc i) → NoneBefore number xs n i
  step_down x xs n i none k d lt within = none (suc k) d (omega (arith, lt)) (omega (arith, within))

  passed : (x : T) (xs : List T) (n i : ℕ) → NoneBefore number (x ∷ xs) n (suc i) → listed number (x ∷ xs) n ≡ listed number xs n
  passed x xs n i none = ap (λ c. cond c (Some x) (listed number xs n)) (ne_eqb (number x) n (none 0 x (omega arith) (omega arith)))

  pub listed_none : (xs : List T) (n : ℕ) → NoneBefore number xs n (length xs) → listed number xs n ≡ None
  listed_none [] n none = refl
  listed_none (x ∷ xs) n none = passed x xs n (length xs) none ∙ listed_none xs n (step_down x xs n (length xs) none)

  pub listed_at : (xs : List T) (n i : ℕ) (e : T) → IsFirst number xs n i → e ≡ slice_index_or xs i e → listed number xs n ≡ Some e
  listed_at [] n i e first at = absurd (omega (arith, first.0))
  listed_at (x ∷ xs) n zero e first at = ap (λ c. cond c (Some x) (listed number xs n)) (eq-eqb (number x) n (first.1 x)) ∙ ap Some (sym at)
  listed_at (x ∷ xs) n (suc i) e first at = passed x xs n i first.2 ∙ listed_at xs n i e (omega (arith, first.0), first.1, step_down x xs n i first.2) at

  -- the first part with n is another one now, with the same number
  pub listed_set : (xs : List T) (n i : ℕ) (e : T) → number e ≡ n → IsFirst number xs n i → (j : ℕ) → listed number (slice_set xs i e) j ≡ update eqb (listed number xs) n (Some e) j
  listed_set [] n i e is first j = absurd (omega (arith, first.0))
  listed_set (x ∷ xs) n zero e is first j = ap (λ m. cond (eqb m j) (Some e) (listed number xs j)) is ∙ by (eqb n j) refl where
    by : (c : Bool) → eqb n j ≡ c → cond c (Some e) (listed number xs j) ≡ cond c (Some e) (cond (eqb (number x) j) (Some x) (listed number xs j))
    by true f = refl
    by false f = sym (ap (λ c. cond c (Some x) (listed number xs j)) (ap (λ m. eqb m j) (first.1 x) ∙ f))
  listed_set (x ∷ xs) n (suc i) e is first j = ap (λ o. cond (eqb (number x) j) (Some x) o) (listed_set xs n i e is (omega (arith, first.0), first.1, step_down x xs n i first.2) j) ∙ by (eqb (number x) j) (eqb n j) refl refl where
    by : (c d : Bool) → eqb (number x) j ≡ c → eqb n j ≡ d → cond c (Some x) (cond d (Some e) (listed number xs j)) ≡ cond d (Some e) (cond c (Some x) (listed number xs j))
    by true true f g = absurd (first.2 0 x (omega arith) (omega arith) (eqb-true (number x) j f ∙ sym (eqb-true n j g)))
    by true false f g = refl
    by false d f g = refl

  module _ {X : Type 0} (view : T → ℕ → Option X) where
    -- the part that has n changes at n
    pub changed_in : (xs : List T) (n i : ℕ) (e e2 : T) (f : Option X → Option X) → IsFirst number xs (home n) i → e ≡ slice_index_or xs i e → number e2 ≡ home n → ((q : ℕ) → view e2 q ≡ update eqb (view e) n (f (view e n)) q)
        → (j : ℕ) → option_map view (listed number (slice_set xs i e2) j) ≡ changed_at n f (λ i. option_map view (listed number xs i)) j
    changed_in xs n i e e2 f first at is after j = ap (option_map view) (listed_set xs (home n) i e2 is first j) ∙ by (eqb (home n) j) refl where
      by : (c : Bool) → eqb (home n) j ≡ c → option_map view (cond c (Some e2) (listed number xs j)) ≡ cond c (option_map (λ (g : ℕ → Option X). update eqb g n (f (g n))) (option_map view (listed number xs j))) (option_map view (listed number xs j))
      by true h = ap Some (λ k q. after q k) ∙ sym (ap (λ (o : Option T). option_map (λ (g : ℕ → Option X). update eqb g n (f (g n))) (option_map view o)) (ap (listed number xs) (sym (eqb-true (home n) j h)) ∙ listed_at xs (home n) i e first at))
      by false h = refl

    -- it isn't held
    pub unchanged_in : (xs : List T) (n : ℕ) (f : Option X → Option X) → NoneBefore number xs (home n) (length xs) → (j : ℕ) → option_map view (listed number xs j) ≡ changed_at n f (λ i. option_map view (listed number xs i)) j
    unchanged_in xs n f none j = by (eqb (home n) j) refl where
      by : (c : Bool) → eqb (home n) j ≡ c → option_map view (listed number xs j) ≡ cond c (option_map (λ (g : ℕ → Option X). update eqb g n (f (g n))) (option_map view (listed number xs j))) (option_map view (listed number xs j))
      by true h = let k : option_map view (listed number xs j) ≡ None = ap (λ i. option_map view (listed number xs i)) (sym (eqb-true (home n) j h)) ∙ ap (option_map view) (listed_none xs (home n) none) in k ∙ sym (ap (option_map (λ (g : ℕ → Option X). update eqb g n (f (g n)))) k)
      by false h = refl

  -- what stays of the part, stays of all
  pub same_in : {V : Type 0} (view : T → V) (xs : List T) (n i : ℕ) (e e2 : T) → IsFirst number xs n i → e ≡ slice_index_or xs i e → number e2 ≡ n → view e2 ≡ view e → (j : ℕ) → option_map view (listed number (slice_set xs i e2) j) ≡ option_map view (listed number xs j)
  same_in view xs n i e e2 first at is after j = ap (option_map view) (listed_set xs n i e2 is first j) ∙ by (eqb n j) refl where
    by : (c : Bool) → eqb n j ≡ c → option_map view (cond c (Some e2) (listed number xs j)) ≡ option_map view (listed number xs j)
    by true h = ap Some after ∙ sym (ap (option_map view) (ap (listed number xs) (sym (eqb-true n j h)) ∙ listed_at xs n i e first at))
    by false h = refl

  numbered : (xs : List T) (n i : ℕ) (e e2 : T) → IsFirst number xs n i → e ≡ slice_index_or xs i e → number e2 ≡ number e → number e2 ≡ n
  numbered xs n i e e2 first at same = same ∙ ap number at ∙ first.1 e

  -- the same, of parts whose number stays, where v is what the part showed
  pub part_changes : {X : Type 0} (view : T → ℕ → Option X) (xs : List T) (n i : ℕ) (e e2 : T) (v : ℕ → Option X) (f : Option X → Option X) → IsFirst number xs (home n) i → e ≡ slice_index_or xs i e → number e2 ≡ number e → v ≡ view e → ((q : ℕ) → view e2 q ≡ update eqb v n (f (v n)) q)
      → (j : ℕ) → option_map view (listed number (slice_set xs i e2) j) ≡ changed_at n f (λ i. option_map view (listed number xs i)) j
  part_changes {X} view xs n i e e2 v f first at same was after = changed_in view xs n i e e2 f first at (numbered xs (home n) i e e2 first at same) (λ q. after q ∙ ap (λ (w : ℕ → Option X). update eqb w n (f (w n)) q) was)

  pub part_stays : {X : Type 0} (view : T → ℕ → Option X) (xs : List T) (n i : ℕ) (e e2 : T) (v : ℕ → Option X) → IsFirst number xs n i → e ≡ slice_index_or xs i e → number e2 ≡ number e → v ≡ view e → ((q : ℕ) → view e2 q ≡ v q) → (j : ℕ) → option_map view (listed number (slice_set xs i e2) j) ≡ option_map view (listed number xs j)
  part_stays view xs n i e e2 v first at same was after = let now : view e2 ≡ v = λ k q. after q k in same_in view xs n i e e2 first at (numbered xs n i e e2 first at same) (now ∙ was)

  -- no place was found
  pub none_first : (xs : List T) (n : ℕ) (o : Option ℕ) → ((i : ℕ) → o ≡ Some i → ⊥) → IfNone o (NoneBefore number xs n (length xs)) → NoneBefore number xs n (length xs)
  none_first xs n None none f = f
  none_first xs n (Some i) none f = absurd (none i refl)

  -- what the parts show together is what the one that has n shows
  pub part_is : {X : Type 0} (view : T → ℕ → Option X) (xs : List T) (n i : ℕ) (e : T) (v : ℕ → Option X) → IsFirst number xs (home n) i → e ≡ slice_index_or xs i e → v ≡ view e → whole (λ i. option_map view (listed number xs i)) n ≡ v n
  part_is {X} view xs n i e v first at was = ap (λ (o : Option T). at_key (option_map view o) n) (listed_at xs (home n) i e first at) ∙ ap (λ (w : ℕ → Option X). w n) (sym was)

  pub part_after : {X : Type 0} (view : T → ℕ → Option X) (xs : List T) (n i : ℕ) (e e2 : T) → IsFirst number xs (home n) i → e ≡ slice_index_or xs i e → number e2 ≡ number e → whole (λ j. option_map view (listed number (slice_set xs i e2) j)) n ≡ view e2 n
  part_after view xs n i e e2 first at same = ap (λ (o : Option T). at_key (option_map view o) n) (listed_set xs (home n) i e2 (numbered xs (home n) i e e2 first at same) first (home n) ∙ ap (λ c. cond c (Some e2) (listed number xs (home n))) (eq-eqb (home n) (home n) refl))

  pub no_part : {X : Type 0} (view : T → ℕ → Option X) (xs : List T) (n : ℕ) → NoneBefore number xs (home n) (length xs) → whole (λ i. option_map view (listed number xs i)) n ≡ None
  no_part view xs n f = ap (λ (o : Option T). at_key (option_map view o) n) (listed_none xs (home n) f)

  -- the part stands where it stood
  pub part_there : (xs : List T) (n i : ℕ) (e e2 : T) → IsFirst number xs n i → e ≡ slice_index_or xs i e → number e2 ≡ number e → listed number (slice_set xs i e2) n ≡ Some e2
  part_there xs n i e e2 first at same = listed_set xs n i e2 (numbered xs n i e e2 first at same) first n ∙ ap (λ c. cond c (Some e2) (listed number xs n)) (eq-eqb n n refl)

  pub part_unheld : {V : Type 0} (view : T → V) (xs : List T) (n : ℕ) → NoneBefore number xs n (length xs) → IsSome (option_map view (listed number xs n)) → ⊥
  part_unheld view xs n none there = let k : false ≡ true = sym (ap (λ (o : Option T). is_some (option_map view o)) (listed_none xs n none)) ∙ there in cc
