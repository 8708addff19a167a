-- Held parts with one entry changed, seen as one map.
use Rattle.std.proofs.Common.{◌≡◌, ℕ, refl, sym, ap, ◌∙◌, subst, Bool, true, false, cond, Option, Some, None, option_map, eqb, eq-eqb, ne_eqb}
use Rattle.std.specs.Map.{update}
use mathlib.Core.Logic.{dite}
use native.Mathlib.Decide.{ℕ_discrete}
use Rattle.ca_commit.specs.Contents.{at_key, home, whole}
use Rattle.ca_commit.specs.Listing.{changed_at}
use Rattle.ca_commit.proofs.Laid.{same_map}

module _ {X : Type 0} (n : ℕ) (f : Option X → Option X) where
  abbrev entered : (ℕ → Option X) → ℕ → Option X
  entered g = update eqb g n (f (g n))

  apart : (q : ℕ) (o : Option (ℕ → Option X)) (b : Bool) → (n ≡ q → ⊥) → at_key (cond b (option_map entered o) o) q ≡ at_key o q
  apart q o false ne = refl
  apart q None true ne = refl
  apart q (Some g) true ne = ap (λ b. cond b (f (g n)) (g q)) (ne_eqb n q ne)

  changed_here : (m new : ℕ → Option (ℕ → Option X)) (g : ℕ → Option X) → m (home n) ≡ Some g → ((i : ℕ) → new i ≡ changed_at n f m i) → whole new n ≡ f (whole m n)
  changed_here m new g at is = ap (λ (o : Option (ℕ → Option X)). at_key o n) (is (home n)) ∙ ap (λ b. at_key (cond b (option_map entered (m (home n))) (m (home n))) n) (eq-eqb (home n) (home n) refl)
      ∙ ap (λ (o : Option (ℕ → Option X)). at_key (option_map entered o) n) at ∙ ap (λ b. cond b (f (g n)) (g n)) (eq-eqb n n refl) ∙ sym (ap (λ (o : Option (ℕ → Option X)). f (at_key o n)) at)

  -- where the part of n is held
  pub whole_entered : (m new : ℕ → Option (ℕ → Option X)) (g : ℕ → Option X) → m (home n) ≡ Some g → ((i : ℕ) → new i ≡ changed_at n f m i) → whole new ≡ update eqb (whole m) n (f (whole m n))
  whole_entered m new g at is = same_map (whole new) (update eqb (whole m) n (f (whole m n))) (λ q. dite (ℕ_discrete n q)
      (λ e. subst (λ (z : ℕ). whole new z ≡ cond (eqb n z) (f (whole m n)) (whole m z)) e (changed_here m new g at is ∙ sym (ap (λ b. cond b (f (whole m n)) (whole m n)) (eq-eqb n n refl))))
      (λ ne. ap (λ (o : Option (ℕ → Option X)). at_key o q) (is (home q)) ∙ apart q (m (home q)) (eqb (home n) (home q)) ne ∙ sym (ap (λ b. cond b (f (whole m n)) (whole m q)) (ne_eqb n q ne))))

-- an entry that is there is in a part that is held
pub part_with : {X : Type 0} (m : ℕ → Option (ℕ → Option X)) (n : ℕ) (x : X) → whole m n ≡ Some x → (g : ℕ → Option X) × (m (home n) ≡ Some g)
part_with {X} m n x e = by (m (home n)) refl e where
  by : (o : Option (ℕ → Option X)) → m (home n) ≡ o → at_key o n ≡ Some x → (g : ℕ → Option X) × (m (home n) ≡ Some g)
  by None is k = absurd (let z : None ≡ Some x = k in cc)
  by (Some g) is k = (g, is)
