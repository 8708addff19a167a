-- One entry of one held part was changed.
use Rattle.std.proofs.Common.{◌≡◌, ℕ, refl, sym, ap, ◌∙◌, subst, cond, Option, Some, None, option_map, eqb, eq-eqb, ne_eqb}
use Rattle.std.specs.Map.{update}
use Rattle.ca_commit.specs.Contents.{at_key, home, whole}
use Rattle.ca_commit.specs.Listing.{changed_at}
use Rattle.ca_commit.specs.Moves.{Alters}

module _ {X : Type 0} where
  get_of : (o : Option (ℕ → Option X)) (n : ℕ) (x : X) → at_key o n ≡ Some x → (g : ℕ → Option X) × (o ≡ Some g) × (g n ≡ Some x)
  get_of None n x e = absurd cc
  get_of (Some g) n x e = (g, refl, e)

  -- in a part that is held
  pub alters_held : (old new : ℕ → Option (ℕ → Option X)) (n : ℕ) (f : Option X → Option X) (g : ℕ → Option X) → old (home n) ≡ Some g → ((i : ℕ) → new i ≡ changed_at n f old i) → Alters old new n (f (g n))
  alters_held old new n f g at is = record {
    from = g;
    was = at;
    is = is (home n) ∙ ap (λ c. cond c (option_map (λ (g : ℕ → Option X). update eqb g n (f (g n))) (old (home n))) (old (home n))) (eq-eqb (home n) (home n) refl)
        ∙ ap (option_map (λ (g : ℕ → Option X). update eqb g n (f (g n)))) at;
    others = λ i ne. is i ∙ ap (λ c. cond c (option_map (λ (g : ℕ → Option X). update eqb g n (f (g n))) (old i)) (old i)) (ne_eqb (home n) i (λ e. ne (sym e)));
  }

  pub alters : (old new : ℕ → Option (ℕ → Option X)) (n : ℕ) (f : Option X → Option X) (x : X) → whole old n ≡ Some x → ((i : ℕ) → new i ≡ changed_at n f old i) → Alters old new n (f (Some x))
  alters old new n f x at is = let g = get_of (old (home n)) n x at in subst (λ (o : Option X). Alters old new n (f o)) g.2 (alters_held old new n f g.0 g.1 is)
