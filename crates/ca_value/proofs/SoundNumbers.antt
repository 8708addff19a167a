-- The numbers that builtins answer lie in 64 bits where those that they are given do.
use lib.Signed.{mag, mag_rem}
use Rattle.std.proofs.Common.{◌≡◌, ℕ, zero, suc, ◌+◌, ◌≤◌, ◌<◌, ◌^◌, ℤ, pos, negsuc, ◌+ℤ◌, ◌-ℤ◌, neg_ℤ, Bool, true, false, List, [], ◌∷◌, ◌++◌, length, Option, Some, None, Ok, Err, refl, sym, ap, ◌∙◌, subst, arith}
use Rattle.std.specs.Prelude.{fold, int_lt, int_rem, int_div, if◌then◌else◌}
use Rattle.std.specs.Int.{int_min, int_max}
use Rattle.std.proofs.lemmas.Int.{ints, clamps}
use Rattle.ca_value.specs.declared.fault.ValueFault.TheVariants.{Overflow, ZeroDivisor, OutOfRange}
use Rattle.ca_value.specs.Tree.{Tree, Trees, TreePairs, nil, bool, int, text, key, vector, map, port, none, item, empty, pair, items_of, entries_of}
use Rattle.ca_value.specs.Measure.{weight_of, weight_of_items, weight_of_pairs}
use Rattle.ca_value.specs.IsValue.{Scalars, any, written, IsInteger, IsRegular}
use Rattle.ca_value.specs.Outcome.{Answer, number_outcome}
use Rattle.ca_value.specs.Kinds.{integer_of, integers_of, with_integer, with_two, with_integers}
use Rattle.ca_value.specs.Numbers.{fits_64, lies_within, in_range, folded_in_range, difference_of, is_zero, quotient_of, remainder_of, floored, modulus_of, preferred, worker_count_of}
use Rattle.ca_value.specs.Maps.{count_answer}
use Rattle.ca_value.specs.Vectors.{distance_of, integers_from, bounds_of}
use Rattle.ca_value.proofs.RangeLaws.{integers_from_more}
use Rattle.ca_value.proofs.Sound.{AreSound, IsSoundOption, AnswerIs, IsSound, goes_on, choice_sound, append_sound}

-- by its bits
fits_mag : (z : ℤ) → fits_64 z ≡ true → mag z < 2 ^ 63
fits_mag (pos n) e = grind (arith, ints)
fits_mag (negsuc n) e = grind (arith, ints)

mag_fits : (z : ℤ) → mag z < 2 ^ 63 → fits_64 z ≡ true
mag_fits (pos n) h = grind (arith, ints)
mag_fits (negsuc n) h = grind (arith, ints)

floored_fits : (r b : ℤ) → fits_64 r ≡ true → fits_64 b ≡ true → fits_64 (floored r b) ≡ true
floored_fits r b p q = grind (arith, ints)

counted_fits : (low high : ℤ) (n : ℕ) → n < distance_of low high → fits_64 low ≡ true → fits_64 high ≡ true → fits_64 (low +ℤ pos n) ≡ true
counted_fits low high n h p q = grind (arith, ints, clamps)

workers_fit : (z : ℤ) → lies_within (pos 1) (pos 64) z ≡ true → fits_64 z ≡ true
workers_fit z e = grind (arith, ints)

-- what a collection counts is no more than it weighs
weighs : (t : Tree) → 1 ≤ weight_of t
weighs nil = omega arith
weighs (bool b) = omega arith
weighs (int z) = omega arith
weighs (text s) = omega arith
weighs (key s) = omega arith
weighs (vector ts) = omega arith
weighs (map ps) = omega arith
weighs (port n) = omega arith

items_counted : (ts : Trees) → length (items_of ts) ≤ weight_of_items ts
items_counted none = omega arith
items_counted (item t ts) = omega (arith, weighs t, items_counted ts)

entries_counted : (ps : TreePairs) → length (entries_of ps) ≤ weight_of_pairs ps
entries_counted empty = omega arith
entries_counted (pair k v ps) = omega (arith, weighs k, entries_counted ps)

any_number : (o : Answer ℤ) → AnswerIs (IsInteger any) o
any_number (Ok z) = tt
any_number (Err f) = tt

-- each number by what is said of scalars
pub whole : (w : Scalars) (z : ℤ) → fits_64 z ≡ true → IsInteger w z
whole any z e = tt
whole written z e = e

rem_fits : (a b : ℤ) → fits_64 a ≡ true → fits_64 (int_rem a b) ≡ true
rem_fits a b e = mag_fits (int_rem a b) (omega (arith, mag_rem a b, fits_mag a e))

pub in_range_is : (w : Scalars) (z : ℤ) → AnswerIs (IsInteger w) (in_range z)
in_range_is w z = by (fits_64 z) refl where
  by : (b : Bool) → fits_64 z ≡ b → AnswerIs (IsInteger w) (if b then Ok z else Err Overflow)
  by true e = whole w z e
  by false e = tt

pub remainder_is : (w : Scalars) (a b : ℤ) → IsInteger w a → AnswerIs (IsInteger w) (remainder_of a b)
remainder_is any a b i = any_number (remainder_of a b)
remainder_is written a b i = choice_sound (AnswerIs (IsInteger written)) (is_zero b) (Err ZeroDivisor) (Ok (int_rem a b)) tt (rem_fits a b i)

pub modulus_is : (w : Scalars) (a b : ℤ) → IsInteger w a → IsInteger w b → AnswerIs (IsInteger w) (modulus_of a b)
modulus_is any a b i j = any_number (modulus_of a b)
modulus_is written a b i j = choice_sound (AnswerIs (IsInteger written)) (is_zero b) (Err ZeroDivisor) (Ok (floored (int_rem a b) b)) tt (floored_fits (int_rem a b) b (rem_fits a b i) j)

pub count_is : (w : Scalars) (c : Tree) → weight_of c ≤ 131072 → AnswerIs (IsInteger w) (count_answer c)
count_is w (map ps) h = whole w (pos (length (entries_of ps))) (mag_fits (pos (length (entries_of ps))) (omega (arith, entries_counted ps, h)))
count_is w (vector ts) h = whole w (pos (length (items_of ts))) (mag_fits (pos (length (items_of ts))) (omega (arith, items_counted ts, h)))
count_is w nil h = whole w (pos 0) refl
count_is w (bool b) h = tt
count_is w (int z) h = tt
count_is w (text s) h = tt
count_is w (key s) h = tt
count_is w (port n) h = tt

pub worker_count_is : (w : Scalars) (z : ℤ) → AnswerIs (IsInteger w) (worker_count_of z)
worker_count_is w z = by (lies_within (pos 1) (pos 64) z) refl where
  by : (b : Bool) → lies_within (pos 1) (pos 64) z ≡ b → AnswerIs (IsInteger w) (if b then Ok z else Err OutOfRange)
  by true e = whole w z (workers_fit z e)
  by false e = tt

counted_is : (w : Scalars) (low high : ℤ) (n : ℕ) → n < distance_of low high → IsInteger w low → IsInteger w high → IsInteger w (low +ℤ pos n)
counted_is any low high n h i j = tt
counted_is written low high n h i j = counted_fits low high n h i j

module _ (w : Scalars) where
  abbrev pub IsNumber : Answer ℤ → Type 0
  IsNumber o = AnswerIs (IsInteger w) o

  abbrev pub AreIntegers : List ℤ → Type 0
  AreIntegers [] = Unit {0}
  AreIntegers (z ∷ zs) = IsInteger w z × AreIntegers zs

  pub number_sound : (o : Answer ℤ) → IsNumber o → IsSound w (number_outcome o)
  number_sound (Ok z) i = i
  number_sound (Err f) i = tt

  -- the numbers that a builtin is given
  integer_is : (t : Tree) → IsRegular w t → AnswerIs (IsInteger w) (integer_of t)
  integer_is (int z) s = s
  integer_is t s = tt

  integers_are : (ts : List Tree) → AreSound w ts → AnswerIs AreIntegers (integers_of ts)
  integers_are [] s = tt
  integers_are (t ∷ ts) s =
      goes_on (IsInteger w) AreIntegers (integer_of t) _ (integer_is t s.0)
      (λ z i. goes_on AreIntegers AreIntegers (integers_of ts) (λ zs. Ok (z ∷ zs)) (integers_are ts s.1) (λ zs j. (i, j)))

  pub one_number : (f : ℤ → Answer ℤ) (t : Tree) → IsRegular w t → ((z : ℤ) → IsInteger w z → IsNumber (f z)) → IsSound w (number_outcome (with_integer f t))
  one_number f t s h = number_sound (with_integer f t) (goes_on (IsInteger w) (IsInteger w) (integer_of t) f (integer_is t s) h)

  pub two_numbers : (f : ℤ → ℤ → Answer ℤ) (t u : Tree) → IsRegular w t → IsRegular w u → ((x y : ℤ) → IsInteger w x → IsInteger w y → IsNumber (f x y)) → IsSound w (number_outcome (with_two f t u))
  two_numbers f t u s r h =
      number_sound (with_two f t u) (goes_on (IsInteger w) (IsInteger w) (integer_of t) _ (integer_is t s)
      (λ x i. goes_on (IsInteger w) (IsInteger w) (integer_of u) (λ y. f x y) (integer_is u r) (λ y j. h x y i j)))

  pub all_numbers : (f : List ℤ → Answer ℤ) (ts : List Tree) → AreSound w ts → ((zs : List ℤ) → AreIntegers zs → IsNumber (f zs)) → IsSound w (number_outcome (with_integers f ts))
  all_numbers f ts s h = number_sound (with_integers f ts) (goes_on AreIntegers (IsInteger w) (integers_of ts) f (integers_are ts s) h)

  -- the numbers that it answers
  pub bounds_are : (a : Tree) (b : Option Tree) → IsRegular w a → IsSoundOption w b → AnswerIs (λ (r : ℤ × ℤ). IsInteger w r.0 × IsInteger w r.1) (bounds_of a b)
  bounds_are a None s r = goes_on (IsInteger w) _ (integer_of a) (λ high. Ok (pos 0, high)) (integer_is a s) (λ z i. (whole w (pos 0) refl, i))
  bounds_are a (Some b) s r =
      goes_on (IsInteger w) _ (integer_of a) _ (integer_is a s)
      (λ low i. goes_on (IsInteger w) _ (integer_of b) (λ high. Ok (low, high)) (integer_is b r) (λ high j. (i, j)))

  pub running_is : (f : ℤ → ℤ → ℤ) (a : ℤ) (bs : List ℤ) → IsInteger w a → IsNumber (folded_in_range f a bs)
  running_is f a [] i = i
  running_is f a (b ∷ bs) i = goes_on (IsInteger w) (IsInteger w) (in_range (f a b)) (λ c. folded_in_range f c bs) (in_range_is w (f a b)) (λ c j. running_is f c bs j)

  pub difference_is : (zs : List ℤ) → AreIntegers zs → IsNumber (difference_of zs)
  difference_is [] i = tt
  difference_is (a ∷ []) i = in_range_is w (neg_ℤ a)
  difference_is (a ∷ b ∷ bs) i = running_is ◌-ℤ◌ a (b ∷ bs) i.0

  pub quotient_is : (a b : ℤ) → IsNumber (quotient_of a b)
  quotient_is a b = choice_sound IsNumber (is_zero b) (Err ZeroDivisor) (in_range (int_div a b)) tt (in_range_is w (int_div a b))

  folded : (f : ℤ → ℤ → ℤ) (a : ℤ) (zs : List ℤ) → ((x y : ℤ) → IsInteger w x → IsInteger w y → IsInteger w (f x y)) → IsInteger w a → AreIntegers zs → IsInteger w (fold f a zs)
  folded f a [] h i j = i
  folded f a (z ∷ zs) h i j = folded f (f a z) zs h (h a z i j.0) j.1

  chosen_is : (f : ℤ → ℤ → ℤ) (zs : List ℤ) → ((x y : ℤ) → IsInteger w x → IsInteger w y → IsInteger w (f x y)) → AreIntegers zs → IsNumber (preferred f zs)
  chosen_is f [] h i = tt
  chosen_is f (a ∷ bs) h i = folded f a bs h i.0 i.1

  pub least_is : (zs : List ℤ) → AreIntegers zs → IsNumber (preferred int_min zs)
  least_is zs i = chosen_is int_min zs (λ x y p q. choice_sound (IsInteger w) (int_lt y x) y x q p) i

  pub greatest_is : (zs : List ℤ) → AreIntegers zs → IsNumber (preferred int_max zs)
  greatest_is zs i = chosen_is int_max zs (λ x y p q. choice_sound (IsInteger w) (int_lt y x) x y p q) i

  pub integers_sound : (low high : ℤ) (n : ℕ) → n ≤ distance_of low high → IsInteger w low → IsInteger w high → AreSound w (integers_from low n)
  integers_sound low high zero h i j = tt
  integers_sound low high (suc n) h i j =
      let one : suc n ≡ n + 1 = omega arith in
      let more : integers_from low (suc n) ≡ integers_from low n ++ int (low +ℤ pos n) ∷ [] = ap (integers_from low) one ∙ integers_from_more low n in
      subst (AreSound w) (sym more) (append_sound w (integers_from low n) (int (low +ℤ pos n) ∷ []) (integers_sound low high n (omega (arith, h)) i j) (counted_is w low high n (omega (arith, h)) i j, tt))
