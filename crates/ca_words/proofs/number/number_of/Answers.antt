use Rattle.std.proofs.Common.{◌≡◌, ◌&&◌, ℕ, List, Result, Ok, length, true, rules, arith, leb-true}
use Rattle.std.specs.List.{list_all}
use Rattle.std.specs.Prelude.{nat_le}
use Rattle.std.specs.Str.Parse.{digits_value, ParsesUnsigned}
use Rattle.std.proofs.lemmas.Str.Parse.{IsNumeralModel, numerals_by_value, parse_gives, digits_value_short}
use Rattle.clap.proofs.WalkLemmas.{both}
use Rattle.ca_words.specs.Words.{is_decimal_digit, is_number}
use Rattle.ca_words.proofs.LongWords.{some≢none}
use Rattle.ca_words.proofs.number.number_of.Goals as goal

own : IsNumeralModel (λ ds. list_all is_decimal_digit ds ≡ true) (digits_value 10)
own = numerals_by_value _ (search rules)

never : {E : Type 0} (bs : List ℕ) (r : Result ℕ E) → ParsesUnsigned 64 10 bs r → is_number bs ≡ true → r ≡ Ok (digits_value 10 bs)
never bs r h e =
    let parts = both (nat_le 1 (length bs)) (nat_le (length bs) 7 && list_all is_decimal_digit bs) e in
    let digits = both (nat_le (length bs) 7) (list_all is_decimal_digit bs) parts.1 in
    let short = digits_value_short own bs 7 digits.1 (leb-true _ _ digits.0) in
    parse_gives own 64 bs r h digits.1 (omega (arith, leb-true _ _ parts.0)) (omega (arith, short))

pub returns-in_err-n : goal.returns-in_err-n
returns-in_err-n c =
    let tested : is_number c.args.text.now ≡ true = grind (arith, c.is_number.ensures, c.if-not-is_number.false) in
    let read = never c.args.text.now c.parse.result c.parse.ensures.value.0 tested in
    absurd (some≢none _ (rw read at c.in_err-n.ensures.value))
