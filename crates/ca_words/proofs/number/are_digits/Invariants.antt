use Rattle.std.proofs.Common.{◌≡◌, drop}
use Rattle.std.specs.List.{list_all}
use Rattle.ca_words.specs.Words.{is_decimal_digit}
use Rattle.ca_words.proofs.number.are_digits.Given as goal

abbrev pub invariant-loop-byte : goal.invariant-loop-byte
invariant-loop-byte l = list_all is_decimal_digit (drop l.byte-index l.bytes) ≡ list_all is_decimal_digit l.bytes
