-- A vector of integers weighs 1 more than their number, and is at most 2 deep.
use Rattle.std.proofs.Common.{◌≡◌, ◌≤◌, ◌<◌, ◌+◌, ℕ, suc, ℤ, pos, ◌+ℤ◌, List, [], ◌∷◌, ◌++◌, length, map, Ok, Err, refl, ap, ◌∙◌, arith, true, false}
use Rattle.std.specs.Prelude.{nat_le}
use Rattle.std.specs.List.{range_with_len}
use Rattle.std.proofs.lemmas.List.FromFn.{length-range_with_len, map-range_with_len_more}
use Rattle.std.proofs.lemmas.Bool.Decides.{nat_tests}
use Rattle.ca_value.specs.declared.fault.ValueFault.TheVariants.{TooHeavy}
use Rattle.ca_value.specs.Tree.{int, trees_of}
use Rattle.ca_value.specs.Measure.{weight_of, weight_of_items, depth_of, depth_of_items}
use Rattle.ca_value.specs.Outcome.{judged}
use Rattle.ca_value.specs.Kinds.{vector_from}
use Rattle.ca_value.specs.Vectors.{integers_from}

weight_of_integers : (f : ℕ → ℤ) (ks : List ℕ) → weight_of_items (trees_of (map (λ k. int (f k)) ks)) ≡ length ks
weight_of_integers f [] = refl
weight_of_integers f (k ∷ ks) = grind (arith, weight_of_integers f ks)

depth_of_integers : (f : ℕ → ℤ) (ks : List ℕ) → depth_of_items (trees_of (map (λ k. int (f k)) ks)) ≤ 1
depth_of_integers f [] = omega arith
depth_of_integers f (k ∷ ks) = omega (arith, depth_of_integers f ks)

pub weight_of_range : (low : ℤ) (n : ℕ) → weight_of (vector_from (integers_from low n)) ≡ suc n
weight_of_range low n = ap suc (weight_of_integers (λ k. low +ℤ pos k) (range_with_len 0 n) ∙ length-range_with_len 0 n)

pub depth_of_range : (low : ℤ) (n : ℕ) → depth_of (vector_from (integers_from low n)) ≤ 2
depth_of_range low n = omega (arith, depth_of_integers (λ k. low +ℤ pos k) (range_with_len 0 n))

pub light_range : (low : ℤ) (n : ℕ) → n < 65536 → judged (Ok (vector_from (integers_from low n))) ≡ Ok (vector_from (integers_from low n))
light_range low n h =
    let light : nat_le (weight_of (vector_from (integers_from low n))) 65536 ≡ true = grind (arith, nat_tests, weight_of_range low n) in
    let shallow : nat_le (depth_of (vector_from (integers_from low n))) 64 ≡ true = grind (arith, nat_tests, depth_of_range low n) in
    rw (light, shallow) refl

pub heavy_range : (low : ℤ) (n : ℕ) → 65536 ≤ n → judged (Ok (vector_from (integers_from low n))) ≡ Err TooHeavy
heavy_range low n h =
    let heavy : nat_le (weight_of (vector_from (integers_from low n))) 65536 ≡ false = grind (arith, nat_tests, weight_of_range low n) in
    rw heavy refl

pub integers_from_more : (low : ℤ) (n : ℕ) → integers_from low (n + 1) ≡ integers_from low n ++ int (low +ℤ pos n) ∷ []
integers_from_more low n = map-range_with_len_more (λ k. int (low +ℤ pos k)) 0 n n (omega arith)
