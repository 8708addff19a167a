-- Two lists of one length, one of which has all members of the other, each of these once, have the same members as often.
use Rattle.std.proofs.Common.{◌≡◌, ◌≢◌, ◌∙◌, ◌⊎◌, inl, inr, ⊎_elim, ℕ, suc, ◌+◌, List, [], ◌∷◌, ◌++◌, length, refl, sym, ap, subst, arith}
use Rattle.ca_turns.specs.Places.{total}
use Rattle.ca_table.specs.Members.{Differ, In}

module _ {X : Type 0} where
  pub in_first : (y : X) (xs ys : List X) → In y xs → In y (xs ++ ys)
  in_first y [] ys h = absurd h
  in_first y (x ∷ xs) ys h = ⊎_elim inl (λ k. inr (in_first y xs ys k)) h

  pub in_second : (y : X) (xs ys : List X) → In y ys → In y (xs ++ ys)
  in_second y [] ys h = h
  in_second y (x ∷ xs) ys h = inr (in_second y xs ys h)

  pub in_either : (y : X) (xs ys : List X) → In y (xs ++ ys) → In y xs ⊎ In y ys
  in_either y [] ys h = inr h
  in_either y (x ∷ xs) ys h = ⊎_elim (λ e. inl (inl e)) (λ k. ⊎_elim (λ a. inl (inr a)) inr (in_either y xs ys k)) h

  abbrev pub Split : X → List X → Type 0
  Split y xs = (a b : List X) × (xs ≡ a ++ y ∷ b)

  pub split_at : (y : X) (xs : List X) → In y xs → Split y xs
  split_at y [] h = absurd h
  split_at y (x ∷ xs) h = ⊎_elim (λ e. ([], xs, ap (λ z. z ∷ xs) (sym e))) (λ k. let s = split_at y xs k in (x ∷ s.0, s.1, ap (λ l. x ∷ l) s.2)) h

  pub in_rest : (z y : X) (a b : List X) → z ≢ y → In z (a ++ y ∷ b) → In z (a ++ b)
  in_rest z y [] b ne h = ⊎_elim (λ e. absurd (ne e)) (λ k. k) h
  in_rest z y (x ∷ a) b ne h = ⊎_elim inl (λ k. inr (in_rest z y a b ne k)) h

  pub one_less : (y : X) (a b : List X) → length (a ++ y ∷ b) ≡ suc (length (a ++ b))
  one_less y [] b = refl
  one_less y (x ∷ a) b = ap suc (one_less y a b)

  total_split : (f : X → ℕ) (y : X) (a b : List X) → total f (a ++ y ∷ b) ≡ f y + total f (a ++ b)
  total_split f y [] b = refl
  total_split f y (x ∷ a) b = let k = total_split f y a b in omega (arith, k)

  -- so any count of them is the same
  pub same_total : (f : X → ℕ) (ys xs : List X) → Differ ys → length xs ≡ length ys → ((z : X) → In z ys → In z xs) → total f xs ≡ total f ys
  same_total f [] [] d e all = refl
  same_total f [] (x ∷ xs) d e all = absurd (omega (arith, e))
  same_total f (y ∷ ys) xs d e all = ap (total f) s.2 ∙ total_split f y s.0 s.1 ∙ ap (λ (n : ℕ). f y + n) (same_total f ys (s.0 ++ s.1) d.1 shorter rest) where
    s : Split y xs
    s = split_at y xs (all y (inl refl))

    shorter : length (s.0 ++ s.1) ≡ length ys
    shorter = let a = ap length s.2 in let b = one_less y s.0 s.1 in omega (arith, a, b, e)

    rest : (z : X) → In z ys → In z (s.0 ++ s.1)
    rest z h = in_rest z y s.0 s.1 (λ is. d.0 (subst (λ x. In x ys) is h)) (subst (In z) s.2 (all z (inr h)))
