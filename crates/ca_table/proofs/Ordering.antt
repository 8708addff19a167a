-- Entries put in order of their numbers are those of the list that has them in that order.
use Rattle.std.proofs.Common.{◌≡◌, ◌≢◌, ◌∙◌, inl, inr, ⊎_elim, ◌<◌, List, [], ◌∷◌, ◌++◌, length, refl, ap, subst, arith, Bool, true, false, cond}
use Rattle.std.specs.Prelude.{nat_le}
use Rattle.std.proofs.lemmas.Bool.{le-leb, lt-leb}
use Rattle.ca_table.specs.Members.{In}
use Rattle.ca_journal.specs.Merge.{Numbered, in_order, placed}
use Rattle.ca_table.proofs.Members.{Split, in_rest, one_less, split_at}

-- each number is above the ones before it
abbrev pub Climbs : List Numbered → Type 0
Climbs [] = Unit {0}
Climbs (e ∷ es) = ((z : Numbered) → In z es → e.number < z.number) × Climbs es

placed_has : (z e : Numbered) (xs : List Numbered) → In z (e ∷ xs) → In z (placed e xs)
placed_has z e [] h = h
placed_has z e (x ∷ xs) h = by (nat_le e.number x.number) h (λ k. placed_has z e xs k) where
  by : (b : Bool) → In z (e ∷ (x ∷ xs)) → (In z (e ∷ xs) → In z (placed e xs)) → In z (cond b (e ∷ (x ∷ xs)) (x ∷ placed e xs))
  by true h k = h
  by false h k = ⊎_elim (λ is. inr (k (inl is))) (λ r. ⊎_elim inl (λ q. inr (k (inr q))) r) h

placed_from : (z e : Numbered) (xs : List Numbered) → In z (placed e xs) → In z (e ∷ xs)
placed_from z e [] h = h
placed_from z e (x ∷ xs) h = by (nat_le e.number x.number) h (λ k. placed_from z e xs k) where
  by : (b : Bool) → In z (cond b (e ∷ (x ∷ xs)) (x ∷ placed e xs)) → (In z (placed e xs) → In z (e ∷ xs)) → In z (e ∷ (x ∷ xs))
  by true h k = h
  by false h k = ⊎_elim (λ is. inr (inl is)) (λ r. ⊎_elim inl (λ q. inr (inr q)) (k r)) h

ordered_has : (z : Numbered) (xs : List Numbered) → In z xs → In z (in_order xs)
ordered_has z [] h = h
ordered_has z (x ∷ xs) h = placed_has z x (in_order xs) (⊎_elim inl (λ k. inr (ordered_has z xs k)) h)

ordered_from : (z : Numbered) (xs : List Numbered) → In z (in_order xs) → In z xs
ordered_from z [] h = h
ordered_from z (x ∷ xs) h = ⊎_elim inl (λ k. inr (ordered_from z xs k)) (placed_from z x (in_order xs) h)

placed_first : (e : Numbered) (xs : List Numbered) → ((z : Numbered) → In z xs → e.number < z.number) → placed e xs ≡ e ∷ xs
placed_first e [] low = refl
placed_first e (x ∷ xs) low = ap (λ b. cond b (e ∷ (x ∷ xs)) (x ∷ placed e xs)) (let lt = low x (inl refl) in le-leb e.number x.number (omega (arith, lt)))

placed_behind : (x m : Numbered) (xs : List Numbered) → m.number < x.number → placed x (m ∷ xs) ≡ m ∷ placed x xs
placed_behind x m xs lt = ap (λ b. cond b (x ∷ (m ∷ xs)) (m ∷ placed x xs)) (lt-leb x.number m.number lt)

first_out : (y : Numbered) (a b : List Numbered) → ((z : Numbered) → In z (a ++ b) → y.number < z.number) → in_order (a ++ y ∷ b) ≡ y ∷ in_order (a ++ b)
first_out y [] b low = placed_first y (in_order b) (λ z h. low z (ordered_from z b h))
first_out y (x ∷ a) b low = ap (placed x) (first_out y a b (λ z h. low z (inr h))) ∙ placed_behind x y (in_order (a ++ b)) (low x (inl refl))

pub in_order_is : (ys xs : List Numbered) → Climbs ys → length xs ≡ length ys → ((z : Numbered) → In z ys → In z xs) → in_order xs ≡ ys
in_order_is [] [] c e all = refl
in_order_is [] (x ∷ xs) c e all = absurd (omega (arith, e))
in_order_is (y ∷ ys) xs c e all = done (in_order_is ys (s.0 ++ s.1) c.1 shorter rest) where
  s : Split y xs
  s = split_at y xs (all y (inl refl))

  shorter : length (s.0 ++ s.1) ≡ length ys
  shorter = let a = ap length s.2 in let b = one_less y s.0 s.1 in omega (arith, a, b, e)

  not_it : (z : Numbered) → In z ys → z ≢ y
  not_it z h is = let lt = c.0 z h in let k = ap (λ (x : Numbered). x.number) is in omega (arith, lt, k)

  rest : (z : Numbered) → In z ys → In z (s.0 ++ s.1)
  rest z h = in_rest z y s.0 s.1 (not_it z h) (subst (In z) s.2 (all z (inr h)))

  done : in_order (s.0 ++ s.1) ≡ ys → in_order xs ≡ y ∷ ys
  done k = ap in_order s.2 ∙ first_out y s.0 s.1 (λ z h. c.0 z (subst (In z) k (ordered_has z (s.0 ++ s.1) h))) ∙ ap (λ l. y ∷ l) k
