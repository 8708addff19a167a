-- Builtins on integers. They compute with whole numbers of any size, and each result must lie in 64 bits.
use Rattle.std.specs.Prelude.{ℤ, pos, negsuc, neg_ℤ, ◌+ℤ◌, ◌-ℤ◌, int_lt, int_le, int_div, int_rem, Bool, true, ◌&&◌, ◌||◌, if◌then◌else◌, List, [], ◌∷◌, fold, Ok, Err}
use Rattle.std.specs.Ordering.{int_eq}
use Rattle.std.specs.Bool.{beq}
use Rattle.ca_value.specs.declared.fault.ValueFault.TheVariants.{Overflow, ZeroDivisor, WrongKind, OutOfRange}
use Rattle.ca_value.specs.Outcome.{Answer, ◌>>=◌}

abbrev pub lies_within : ℤ → ℤ → ℤ → Bool
lies_within low high z = int_le low z && int_le z high

-- it lies in 64 bits
abbrev pub fits_64 : ℤ → Bool
fits_64 z = lies_within (negsuc 9223372036854775807) (pos 9223372036854775807) z

-- the number, if it lies in 64 bits
abbrev pub in_range : ℤ → Answer ℤ
in_range z = if fits_64 z then Ok z else Err Overflow

-- from left to right, each partial result in range
abbrev pub folded_in_range : (ℤ → ℤ → ℤ) → ℤ → List ℤ → Answer ℤ
folded_in_range f a [] = Ok a
folded_in_range f a (b ∷ bs) = in_range (f a b) >>= λ c. folded_in_range f c bs

-- the negation of one number, or the first less the others
abbrev pub difference_of : List ℤ → Answer ℤ
difference_of [] = Err WrongKind
difference_of (a ∷ []) = in_range (neg_ℤ a)
difference_of (a ∷ b ∷ bs) = folded_in_range ◌-ℤ◌ a (b ∷ bs)

abbrev pub is_zero : ℤ → Bool
is_zero z = int_eq z (pos 0)

abbrev pub is_even : ℤ → Bool
is_even z = is_zero (int_rem z (pos 2))

-- cut toward zero
abbrev pub quotient_of : ℤ → ℤ → Answer ℤ
quotient_of a b = if is_zero b then Err ZeroDivisor else in_range (int_div a b)

-- with the dividend's sign
abbrev pub remainder_of : ℤ → ℤ → Answer ℤ
remainder_of a b = if is_zero b then Err ZeroDivisor else Ok (int_rem a b)

-- with the divisor's sign
abbrev pub floored : ℤ → ℤ → ℤ
floored r b = if is_zero r || beq (int_lt r (pos 0)) (int_lt b (pos 0)) then r else (r +ℤ b)

abbrev pub modulus_of : ℤ → ℤ → Answer ℤ
modulus_of a b = if is_zero b then Err ZeroDivisor else Ok (floored (int_rem a b) b)

-- the first of the numbers that the choice prefers to all others
abbrev pub preferred : (ℤ → ℤ → ℤ) → List ℤ → Answer ℤ
preferred f [] = Err WrongKind
preferred f (a ∷ bs) = Ok (fold f a bs)

-- each number and the next stand in this order
abbrev pub rising : (ℤ → ℤ → Bool) → ℤ → List ℤ → Bool
rising r a [] = true
rising r a (b ∷ bs) = r a b && rising r b bs

abbrev pub are_in_order : (ℤ → ℤ → Bool) → List ℤ → Answer Bool
are_in_order r [] = Err WrongKind
are_in_order r (a ∷ bs) = Ok (rising r a bs)

abbrev pub worker_count_of : ℤ → Answer ℤ
worker_count_of z = if lies_within (pos 1) (pos 64) z then Ok z else Err OutOfRange
