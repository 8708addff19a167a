-- Each list of channels can be put in order.
use Rattle.std.proofs.Common.{◌≡◌, ◌⊎◌, inl, inr, ⊎_elim, ℕ, ◌<◌, ◌≤◌, List, [], ◌∷◌, refl, arith, Bool, true, false, cond, nat_le, leb-true, leb-false}
use Rattle.ca_meaning.specs.Sound.{Each}
use Rattle.ca_solo.specs.Stirs.{AmongPorts, PortsAscend, Ordered}

abbrev insert : ℕ → List ℕ → List ℕ
insert p [] = p ∷ []
insert p (q ∷ qs) = cond (nat_le p q) (p ∷ (q ∷ qs)) (q ∷ insert p qs)

each_insert : (b p : ℕ) (us : List ℕ) → b ≤ p → Each (λ q. b ≤ q) us → Each (λ q. b ≤ q) (insert p us)
each_insert b p [] le all = (le, tt)
each_insert b p (q ∷ qs) le all = by (each_insert b p qs le all.1) (nat_le p q) where
  by : Each (λ q. b ≤ q) (insert p qs) → (t : Bool) → Each (λ q. b ≤ q) (cond t (p ∷ (q ∷ qs)) (q ∷ insert p qs))
  by k true = (le, (all.0, all.1))
  by k false = (all.0, k)

each_more : (p q : ℕ) (us : List ℕ) → p ≤ q → Each (λ r. q ≤ r) us → Each (λ r. p ≤ r) us
each_more p q [] le all = tt
each_more p q (u ∷ us) le all = (let k : q ≤ u = all.0 in omega (arith, le, k), each_more p q us le all.1)

ascends_insert : (p : ℕ) (us : List ℕ) → PortsAscend us → PortsAscend (insert p us)
ascends_insert p [] up = (tt, tt)
ascends_insert p (q ∷ qs) up = by (ascends_insert p qs up.1) (nat_le p q) refl where
  by : PortsAscend (insert p qs) → (t : Bool) → nat_le p q ≡ t → PortsAscend (cond t (p ∷ (q ∷ qs)) (q ∷ insert p qs))
  by k true e = let le : p ≤ q = leb-true p q e in ((le, each_more p q qs le up.0), (up.0, up.1))
  by k false e = let lt : q < p = leb-false p q e in (each_insert q p qs (omega (arith, lt)) up.0, k)

in_insert : (p q : ℕ) (us : List ℕ) → (q ≡ p) ⊎ AmongPorts q us → AmongPorts q (insert p us)
in_insert p q [] i = i
in_insert p q (u ∷ us) i = by (λ k. in_insert p q us k) (nat_le p u) i where
  by : ((q ≡ p) ⊎ AmongPorts q us → AmongPorts q (insert p us)) → (t : Bool) → (q ≡ p) ⊎ ((q ≡ u) ⊎ AmongPorts q us) → AmongPorts q (cond t (p ∷ (u ∷ us)) (u ∷ insert p us))
  by f true i = i
  by f false (inl e) = inr (f (inl e))
  by f false (inr (inl e)) = inl e
  by f false (inr (inr k)) = inr (f (inr k))

pub in_order : (ports : List ℕ) → (us : List ℕ) × Ordered ports us
in_order [] = ([], (tt, λ q i. i))
in_order (p ∷ ps) = let r = in_order ps in (insert p r.0, (ascends_insert p r.0 r.1.0, λ q i. in_insert p q r.0 (⊎_elim (λ e. inl e) (λ k. inr (r.1.1 q k)) i)))
