-- Held parts with one entry changed, seen as one map.
use Rattle.std.proofs.Common.{◌≡◌, ℕ, refl, sym, ap, ◌∙◌, subst, Bool, true, false, cond, Option, Some, None, option_map, eqb, eq-eqb, ne_eqb}
use Rattle.std.specs.Map.{update}
use mathlib.Core.Logic.{dite}
use native.Mathlib.Decide.{ℕ_discrete}
use Rattle.ca_commit.specs.Contents.{at_key, home, whole}
use Rattle.ca_commit.specs.Listing.{changed_at}

module _ {X : Type 0} (n : ℕ) (f : X → X) where
  abbrev changed : (ℕ → Option X) → ℕ → Option X
  changed g = update eqb g n (option_map f (g n))

  here : (o : Option (ℕ → Option X)) → at_key (option_map changed o) n ≡ option_map f (at_key o n)
  here None = refl
  here (Some g) = ap (λ b. cond b (option_map f (g n)) (g n)) (eq-eqb n n refl)

  apart : (q : ℕ) (o : Option (ℕ → Option X)) (b : Bool) → (n ≡ q → ⊥) → at_key (cond b (option_map changed o) o) q ≡ at_key o q
  apart q o false ne = refl
  apart q None true ne = refl
  apart q (Some g) true ne = ap (λ b. cond b (option_map f (g n)) (g q)) (ne_eqb n q ne)

  pub whole_changed : (m new : ℕ → Option (ℕ → Option X)) → ((i : ℕ) → new i ≡ changed_at n (option_map f) m i) → (q : ℕ) → whole new q ≡ cond (eqb n q) (option_map f (whole m n)) (whole m q)
  whole_changed m new is q = dite (ℕ_discrete n q)
      (λ e. subst (λ (z : ℕ). whole new z ≡ cond (eqb n z) (option_map f (whole m n)) (whole m z)) e
      (ap (λ o. at_key o n) (is (home n)) ∙ ap (λ b. at_key (cond b (option_map changed (m (home n))) (m (home n))) n) (eq-eqb (home n) (home n) refl) ∙ here (m (home n)) ∙ sym (ap (λ b. cond b (option_map f (whole m n)) (whole m n)) (eq-eqb n n refl))))
      (λ ne. ap (λ o. at_key o q) (is (home q)) ∙ apart q (m (home q)) (eqb (home n) (home q)) ne ∙ sym (ap (λ b. cond b (option_map f (whole m n)) (whole m q)) (ne_eqb n q ne)))
