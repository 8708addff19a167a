-- The ports of a tick beside those that are due, one by one.
use Rattle.std.proofs.Common.{◌≡◌, ℕ, zero, suc, ◌+◌, ◌<◌, ◌≤◌, List, [], ◌∷◌, length, map, drop, refl, sym, ap, ◌∙◌, arith, Bool, true, false, not, ◌&&◌, Option, Some, None, is_some, slice_get, get_or, add-one}
use Rattle.ca_value.specs.declared.value.PortId.{PortId}
use Rattle.ca_term.specs.Event.{port_number}
use Rattle.ca_scene.specs.Same.{same_numbers, is_number_there}

abbrev beside : List ℕ → List PortId → Bool
beside ns ps = same_numbers ns (map port_number ps)

short : (ps : List PortId) (i : ℕ) → i < length ps → beside [] (drop i ps) ≡ false
short [] i lt = absurd (omega (arith, lt))
short (p ∷ ps) zero lt = refl
short (p ∷ ps) (suc i) lt = short ps i (omega (arith, lt))

next : (ns : List ℕ) (ps : List PortId) (i : ℕ) (d : PortId) → i < length ps → beside (drop i ns) (drop i ps) ≡ (is_number_there (get_or ps i d).n (slice_get ns i) && beside (drop (suc i) ns) (drop (suc i) ps))
next ns [] i d lt = absurd (omega (arith, lt))
next [] (p ∷ ps) zero d lt = refl
next [] (p ∷ ps) (suc i) d lt = short ps i (omega (arith, lt))
next (n ∷ ns) (p ∷ ps) zero d lt = refl
next (n ∷ ns) (p ∷ ps) (suc i) d lt = next ns ps i d (omega (arith, lt))

-- another port is due at the place, or none
pub due_other : (ns : List ℕ) (ps : List PortId) (i : ℕ) (d : PortId) → i < length ps → is_number_there (get_or ps i d).n (slice_get ns i) ≡ false → beside (drop i ns) (drop i ps) ≡ false
due_other ns ps i d lt e = next ns ps i d lt ∙ ap (λ (b : Bool). b && beside (drop (suc i) ns) (drop (suc i) ps)) e

-- this one is
pub due_same : (ns : List ℕ) (ps : List PortId) (i : ℕ) (d : PortId) → i < length ps → is_number_there (get_or ps i d).n (slice_get ns i) ≡ true → beside (drop i ns) (drop i ps) ≡ beside (drop (i + 1) ns) (drop (i + 1) ps)
due_same ns ps i d lt e = next ns ps i d lt ∙ ap (λ (b : Bool). b && beside (drop (suc i) ns) (drop (suc i) ps)) e ∙ ap (λ k. beside (drop k ns) (drop k ps)) (sym (add-one i))

none_left : (ps : List PortId) (i : ℕ) → length ps ≤ i → drop i ps ≡ []
none_left [] zero h = refl
none_left [] (suc i) h = refl
none_left (p ∷ ps) zero h = absurd (omega (arith, h))
none_left (p ∷ ps) (suc i) h = none_left ps i (omega (arith, h))

some_left : (ns : List ℕ) (i : ℕ) → beside (drop i ns) [] ≡ not (is_some (slice_get ns i))
some_left [] zero = refl
some_left [] (suc i) = refl
some_left (n ∷ ns) zero = refl
some_left (n ∷ ns) (suc i) = some_left ns i

-- behind the last port
pub due_end : (ns : List ℕ) (ps : List PortId) (i : ℕ) → i ≡ length ps → beside (drop i ns) (drop i ps) ≡ not (is_some (slice_get ns (length ps)))
due_end ns ps i e = ap (beside (drop i ns)) (none_left ps i (omega (arith, e))) ∙ some_left ns i ∙ ap (λ k. not (is_some (slice_get ns k))) e
