-- The digits of a number.
use Rattle.std.proofs.Common.{◌≡◌, ℕ, ◌+◌, ◌-◌, ◌*◌, ◌<◌, ◌≤◌, Bool, true, false, List, length, get_or, take, refl, arith}
use Rattle.std.specs.Prelude.{◌&&◌, nat_le}
use Rattle.std.specs.List.{list_all}
use Rattle.std.specs.Char.{digit_value}
use Rattle.std.specs.Str.Parse.{digits_value}
use Rattle.std.proofs.lemmas.Int.Digits.{digits_value_more}
use Rattle.std.proofs.lemmas.List.Folds.{list_all_at}
use Rattle.std.proofs.lemmas.Str.{digit_value_digit}
use Rattle.std.proofs.lemmas.Str.Parse.{digits_value-take-le}
use Rattle.ca_reader.specs.Bytes.{is_digit}
use borrow.Author.Tests.{leb-true}

pub both : (a b : Bool) → (a && b) ≡ true → (a ≡ true) × (b ≡ true)
both true true e = (refl, refl)
both true false e = cc
both false b e = cc

pub digit_bounds : (c : ℕ) → is_digit c ≡ true → (48 ≤ c) × (c ≤ 57)
digit_bounds c e = let h = both (nat_le 48 c) (nat_le c 57) e in (leb-true 48 c h.0, leb-true c 57 h.1)

pub digit_in : (ds : List ℕ) (i : ℕ) → i < length ds → list_all is_digit ds ≡ true → is_digit (get_or ds i 0) ≡ true
digit_in ds i l h =
    let by : (b : Bool) → is_digit (get_or ds i 0) ≡ b → is_digit (get_or ds i 0) ≡ true = λ b. elim b as (λ b. is_digit (get_or ds i 0) ≡ b → is_digit (get_or ds i 0) ≡ true) [
      | true ↦ λ e. e
      | false ↦ λ e. let f = list_all_at is_digit ds i 0 l e in cc
    ]
    in by (is_digit (get_or ds i 0)) refl

pub digit_value_is : (ds : List ℕ) (i : ℕ) → i < length ds → list_all is_digit ds ≡ true → (digit_value (get_or ds i 0) ≡ get_or ds i 0 - 48) × (48 ≤ get_or ds i 0) × (get_or ds i 0 ≤ 57)
digit_value_is ds i l h =
    let e = digit_bounds (get_or ds i 0) (digit_in ds i l h) in
    let d = digit_value_digit (get_or ds i 0) e in
    (omega arith, e.0, e.1)

-- one more digit
pub number_more : (ds : List ℕ) (i : ℕ) → i < length ds → list_all is_digit ds ≡ true → digits_value 10 (take (i + 1) ds) ≡ digits_value 10 (take i ds) * 10 + (get_or ds i 0 - 48)
number_more ds i l h = let d = digit_value_is ds i l h in let e = digits_value_more 10 ds i l in cc

pub number_at_least : (ds : List ℕ) (i : ℕ) → i < length ds → list_all is_digit ds ≡ true → digits_value 10 (take i ds) * 10 + (get_or ds i 0 - 48) ≤ digits_value 10 ds
number_at_least ds i l h =
    let e = number_more ds i l h in
    let f : digits_value 10 (take (i + 1) ds) ≤ digits_value 10 ds = digits_value-take-le 10 ds (i + 1) (omega arith) in
    omega arith
