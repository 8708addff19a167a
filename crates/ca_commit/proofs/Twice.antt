-- One entry of one held part is changed twice.
use Rattle.std.proofs.Common.{◌≡◌, ℕ, refl, ap, ◌∙◌, Bool, true, false, cond, Option, Some, None, option_map, eqb, eq-eqb}
use Rattle.std.specs.Map.{update}
use Rattle.ca_bank.specs.Kept.{entry_changed}
use Rattle.ca_commit.specs.Contents.{home}
use Rattle.ca_commit.specs.Listing.{changed_at}

module _ {X : Type 0} where
  once_more : (n : ℕ) (f h : X → X) (g : ℕ → Option X) (q : ℕ) → update eqb (update eqb g n (option_map f (g n))) n (option_map h (update eqb g n (option_map f (g n)) n)) q ≡ update eqb g n (option_map (λ x. h (f x)) (g n)) q
  once_more n f h g q = ap (λ b. cond (eqb n q) (option_map h (cond b (option_map f (g n)) (g n))) (cond (eqb n q) (option_map f (g n)) (g q))) (eq-eqb n n refl) ∙ by (eqb n q) (g n) where
    by : (b : Bool) (o : Option X) → cond b (option_map h (option_map f o)) (cond b (option_map f o) (g q)) ≡ cond b (option_map (λ x. h (f x)) o) (g q)
    by false o = refl
    by true None = refl
    by true (Some x) = refl

  pub changed_twice : (n : ℕ) (f h : X → X) (old mid new : ℕ → Option (ℕ → Option X)) → ((i : ℕ) → mid i ≡ changed_at n (option_map f) old i) → ((i : ℕ) → new i ≡ changed_at n (option_map h) mid i) → (i : ℕ) → new i ≡ changed_at n (option_map (λ x. h (f x))) old i
  changed_twice n f h old mid new a b i = b i ∙ ap (λ o. cond (eqb (home n) i) (option_map (λ (g : ℕ → Option X). update eqb g n (option_map h (g n))) o) o) (a i) ∙ by (eqb (home n) i) (old i) where
    by : (c : Bool) (o : Option (ℕ → Option X)) → cond c (option_map (λ (g : ℕ → Option X). update eqb g n (option_map h (g n))) (cond c (option_map (λ (g : ℕ → Option X). update eqb g n (option_map f (g n))) o) o)) (cond c (option_map (λ (g : ℕ → Option X). update eqb g n (option_map f (g n))) o) o)
        ≡ cond c (option_map (λ (g : ℕ → Option X). update eqb g n (option_map (λ x. h (f x)) (g n))) o) o
    by false o = refl
    by true None = refl
    by true (Some g) = ap Some (λ k q. once_more n f h g q k)

  -- the same, of a map by itself
  pub turned_twice : (n : ℕ) (f h : X → X) (old mid new : ℕ → Option X) → ((q : ℕ) → mid q ≡ entry_changed old n f q) → ((q : ℕ) → new q ≡ entry_changed mid n h q) → (q : ℕ) → new q ≡ entry_changed old n (λ x. h (f x)) q
  turned_twice n f h old mid new a b q = b q ∙ ap (λ (m : ℕ → Option X). entry_changed m n h q) (λ j r. a r j) ∙ once_more n f h old q
