-- Vectors of values, seen as lists of trees.
use Rattle.std.proofs.Common.{◌≡◌, ℕ, ℤ, pos, ◌≤ℤ◌, ◌+◌, ◌-◌, ◌≤◌, List, ◌++◌, length, take, drop, reverse, Option, Some, None, Ok, refl, sym, ap, ◌∙◌, arith}
use Rattle.std.specs.Prelude.{slice_range, option_map, unwrap_or, unsigned_abs}
use Rattle.std.proofs.lemmas.Int.{ints}
use Rattle.std.proofs.lemmas.List.{take-append-drop, take_at, length-drop, length-reverse, reverse-append, reverse-reverse, take-map, drop-map, drop-take, length-take-le}
use Rattle.ca_value.specs.declared.value.Value.{Value}
use Rattle.ca_value.specs.View.{view, views}
use Rattle.ca_value.specs.Tree.{Tree}
use Rattle.ca_value.specs.Kinds.{vector_from}
use Rattle.ca_value.specs.Vectors.{part_between}

pub view_unwrap_or : (o : Option Value) (d : Value) → view (unwrap_or o d) ≡ unwrap_or (option_map view o) (view d)
view_unwrap_or None d = refl
view_unwrap_or (Some v) d = refl

-- the end of a list, by way of the reversed list
pub reverse_take_reverse : {X : Type 0} (n : ℕ) (ys : List X) → n ≤ length ys → reverse (take n (reverse ys)) ≡ drop (length ys - n) ys
reverse_take_reverse {X} n ys h =
    let front : List X = take (length ys - n) ys in
    let back : List X = drop (length ys - n) ys in
    let whole : front ++ back ≡ ys = take-append-drop (length ys - n) ys in
    let size : length (reverse back) ≡ n = omega (arith, length-reverse back, length-drop (length ys - n) ys) in
    let turned : reverse ys ≡ reverse back ++ reverse front = ap reverse (sym whole) ∙ reverse-append front back in
    ap (λ zs. reverse (take n zs)) turned ∙ ap reverse (take_at (reverse back) (reverse front) n size) ∙ reverse-reverse back

pub range_by_reverse : {X : Type 0} (i j : ℕ) (xs : List X) → i ≤ j → j ≤ length xs → reverse (take (j - i) (reverse (take j xs))) ≡ slice_range xs i j
range_by_reverse i j xs h k =
    let size : length (take j xs) ≡ j = length-take-le j xs k in
    let turned = reverse_take_reverse (j - i) (take j xs) (omega arith) in
    let left : length (take j xs) - (j - i) ≡ i = omega arith in
    let split : i + (j - i) ≡ j = omega arith in
    turned ∙ ap (λ n. drop n (take j xs)) left ∙ ap (λ n. drop i (take n xs)) (sym split) ∙ drop-take i (j - i) xs

pub views_slice_range : (xs : List Value) (i j : ℕ) → views (slice_range xs i j) ≡ slice_range (views xs) i j
views_slice_range xs i j = sym (ap (take (j - i)) (drop-map view i xs) ∙ take-map view (j - i) (drop i xs))

pub part_between_in : (ts : List Tree) (i j : ℤ) → pos 0 ≤ℤ i → i ≤ℤ j → j ≤ℤ pos (length ts) →
    part_between ts i j ≡ Ok (vector_from (slice_range ts (unsigned_abs i) (unsigned_abs j)))
part_between_in ts i j low order high = grind (arith, ints)
