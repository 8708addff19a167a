-- Parts that move out of a hand into a list are sound.
use Rattle.std.proofs.Common.{◌≡◌, ◌∙◌, ℕ, ◌+◌, List, [], ◌∷◌, ◌++◌, refl, sym, ap, subst, Bool, true, false, Option, Some, None, eqb, eqb-true}
use Rattle.std.proofs.lemmas.Bool.{eqb-false}
use Rattle.ca_meaning.specs.Body.{At}
use Rattle.ca_states.specs.Code.{CodeView}
use Rattle.ca_commit.specs.Listing.{listed}
use Rattle.ca_table.specs.Parts.{contents_seen}
use Rattle.ca_table.specs.Seen.{held_of}
use Rattle.ca_table.specs.Sound.{IsSound}
use Rattle.ca_table.specs.declared.part.Contents.{Contents}
use Rattle.ca_table.proofs.Liftings.{listed_else, listed_last}

of_some : {X : Type 0} (x y : X) → Some x ≡ Some y → x ≡ y
of_some x y e = cc

module _ {A C T : Type 0} (over : CodeView → A → Type 0) (place : A → At) (code : CodeView) (least faults : C → ℕ) (readings : C → Option (List ℕ)) (as_contents : T → Contents A C) (number : T → ℕ) (n first : ℕ) where
  abbrev Sound : ℕ → T → Type 0
  Sound i x = IsSound over place code n (first + i) (held_of (contents_seen least faults readings (as_contents x)))

  -- each of the list, whose numbers begin there
  abbrev pub AreSound : List T → Type 0
  AreSound xs = (i : ℕ) (x : T) → listed number xs i ≡ Some x → IsSound over place code n (first + i) (held_of (contents_seen least faults readings (as_contents x)))

  pub none_sound : (xs : List T) → xs ≡ [] → AreSound xs
  none_sound xs e i x is = absurd (let z : None ≡ Some x = sym (ap (λ (l : List T). listed number l i) e) ∙ is in cc)

  -- one more, last
  pub one_sound : (xs ys : List T) (y : T) (k : ℕ) → AreSound xs → ys ≡ xs ++ y ∷ [] → number y ≡ k → listed number xs k ≡ None → Sound k y → AreSound ys
  one_sound xs ys y k all more is none sound i x e = by (eqb k i) refl where
    here : k ≡ i → Sound i x
    here same = subst (λ (j : ℕ). Sound j x) same
        (subst (λ (z : T). Sound k z) (of_some y x (sym (ap (λ (l : List T). listed number l k) more ∙ listed_last number xs y k is none) ∙ ap (listed number ys) same ∙ e)) sound)

    by : (b : Bool) → eqb k i ≡ b → Sound i x
    by true t = here (eqb-true k i t)
    by false f = all i x (sym (ap (λ (l : List T). listed number l i) more ∙ listed_else number xs y i (λ s. eqb-false k i f (sym is ∙ s))) ∙ e)
