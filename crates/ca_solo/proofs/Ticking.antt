-- The channels that a Tick closes can be put in order by a sort, and there are some where a deadline is due.
use Rattle.std.proofs.Common.{◌≡◌, ◌≢◌, inl, inr, ℕ, zero, suc, ◌<◌, ◌≤◌, List, [], ◌∷◌, length, refl, sym, subst, arith, Bool, true, false, cond, filter, map, nat_le, leb-false, get_or}
use Rattle.std.specs.List.Sorted.{IsPermutation, IsNonDecreasing}
use Rattle.std.proofs.lemmas.List.Sorted.{Contains-permutation}
use Rattle.ca_meaning.specs.State.{Deadline, due}
use Rattle.ca_meaning.specs.Sound.{Each}
use Rattle.ca_solo.specs.Stirs.{AmongPorts, PortsAscend, Ordered}

le_is : (a b : ℕ) → a ≤ b → nat_le a b ≡ true
le_is a b le = by (nat_le a b) refl where
  by : (t : Bool) → nat_le a b ≡ t → nat_le a b ≡ true
  by true e = e
  by false e = absurd (let lt : b < a = leb-false a b e in omega (arith, lt, le))

-- a moment that is at least the first deadline
pub first_due : (m : ℕ) (d : Deadline) (ds : List Deadline) → d.moment ≤ m → due m (d ∷ ds) ≢ []
first_due m d ds le k = by (nat_le d.moment m) (le_is d.moment m le) k where
  by : (t : Bool) → t ≡ true → map (λ (d : Deadline). d.port) (cond t (d ∷ filter (λ (d : Deadline). nat_le d.moment m) ds) (filter (λ (d : Deadline). nat_le d.moment m) ds)) ≡ [] → ⊥
  by true e k = cc
  by false e k = let j : false ≡ true = e in cc

in_at : (us : List ℕ) (k d : ℕ) → k < length us → AmongPorts (get_or us k d) us
in_at [] k d lt = absurd (omega (arith, lt))
in_at (u ∷ us) zero d lt = inl refl
in_at (u ∷ us) (suc k) d lt = inr (in_at us k d (omega (arith, lt)))

at_in : (us : List ℕ) (q : ℕ) → AmongPorts q us → (k : ℕ) × (k < length us) × (get_or us k q ≡ q)
at_in [] q i = absurd i
at_in (u ∷ us) q (inl e) = (0, omega arith, sym e)
at_in (u ∷ us) q (inr i) = let r = at_in us q i in let lt : r.0 < length us = r.1 in (suc r.0, omega (arith, lt), r.2)

each_at : (p : ℕ) (xs : List ℕ) → ((k d : ℕ) → k < length xs → p ≤ get_or xs k d) → Each (λ q. p ≤ q) xs
each_at p [] f = tt
each_at p (x ∷ xs) f = (f 0 0 (omega arith), each_at p xs (λ k d lt. f (suc k) d (omega (arith, lt))))

ascends_of : (us : List ℕ) → IsNonDecreasing us → PortsAscend us
ascends_of [] up = tt
ascends_of (u ∷ us) up = (each_at u us (λ k d lt. up 0 (suc k) d (omega arith) (omega (arith, lt))), ascends_of us (λ i j d le lt. up (suc i) (suc j) d (omega (arith, le)) (omega (arith, lt))))

pub ordered_by_sort : (ports us : List ℕ) → IsPermutation ports us → IsNonDecreasing us → Ordered ports us
ordered_by_sort ports us same up = (ascends_of us up, λ q i. let r = Contains-permutation ports us q same (at_in ports q i) in subst (λ z. AmongPorts z us) r.2 (in_at us r.0 q r.1))
