use Rattle.std.proofs.Common.{◌≡◌, ◌<◌, ◌+◌, ◌*◌, ◌-◌, rules, true, get_or}
use Rattle.ca_journal_reader.specs.Words.{is_digit_byte}
use Rattle.ca_journal_reader.proofs.Numbers.{product_over, sum_over}
use Rattle.ca_journal_reader.proofs.cursor.number_of.Goals as goal

pub returns-in_err-checked_mul-clause-none : goal.returns-in_err-checked_mul-clause-none
returns-in_err-checked_mul-clause-none c = λ e.
    let over : c.loop-place.value * 10 < 18446744073709551616 → ⊥ = search rules in
    let is : is_digit_byte (get_or c.args.text.now c.loop-place.place 0) ≡ true = search rules in
    product_over c.args.text.now c.loop-place.place c.loop-place.value 18446744073709551616 c.loop-place-test.true is c.loop-place.invariant over

pub returns-in_err-value-clause-none : goal.returns-in_err-value-clause-none
returns-in_err-value-clause-none c = λ e.
    let over : c.loop-place.value * 10 + (get_or c.args.text.now c.loop-place.place 0 - 48) < 18446744073709551616 → ⊥ = search rules in
    let is : is_digit_byte (get_or c.args.text.now c.loop-place.place 0) ≡ true = search rules in
    sum_over c.args.text.now c.loop-place.place c.loop-place.value 18446744073709551616 c.loop-place-test.true is c.loop-place.invariant over
