-- What a token says.
use Rattle.std.specs.Prelude.{ℕ, ◌^◌, ℤ, pos, neg_ℤ, List, Bool, not, ◌||◌, ◌&&◌, ◌==◌, nat_lt, nat_le, codes, length, drop, slice_index, if◌then◌else◌, Option, Some, None, Result, Ok, Err, true, false}
use Rattle.std.specs.Str.{bytes_eq}
use Rattle.std.specs.List.{list_all}
use Rattle.std.specs.Str.Parse.{digits_value}
use Rattle.ca_reader.specs.declared.error.ReadErrorKind.{ReadErrorKind}
use Rattle.ca_reader.specs.declared.error.ReadErrorKind.TheVariants.{BadByte, BadNumber}
use Rattle.ca_reader.specs.Form.{Atom, nil, bool, int, key, symbol}
use Rattle.ca_reader.specs.Bytes.{has_byte, is_digit}

-- the token without the sign, + or - (bytes 43 and 45), that it may begin with
abbrev pub unsigned : List ℕ → List ℕ
unsigned t = if slice_index t 0 == 43 || slice_index t 0 == 45 then drop 1 t else t

-- it begins with a digit, or with a sign and a digit
abbrev pub is_numeral : List ℕ → Bool
is_numeral t = is_digit (slice_index (unsigned t) 0)

-- digits that begin with `0` (byte 48) are that one alone
abbrev pub is_decimal : List ℕ → Bool
is_decimal ds = if slice_index ds 0 == 48 then length ds == 1 else list_all is_digit ds

-- the number of this sign and magnitude, in 64 bits
abbrev pub with_sign : Bool → ℕ → Option ℤ
with_sign true n = if nat_le n (2 ^ 63) then Some (neg_ℤ (pos n)) else None
with_sign false n = if nat_lt n (2 ^ 63) then Some (pos n) else None

-- the number that a token writes
abbrev pub number : List ℕ → Option ℤ
number t = if is_decimal (unsigned t) then with_sign (slice_index t 0 == 45) (digits_value 10 (unsigned t)) else None

abbrev pub or_bad_number : Option ℤ → Result Atom ReadErrorKind
or_bad_number (Some z) = Ok (int z)
or_bad_number None = Err BadNumber

-- a colon (byte 58), and then something without one
abbrev pub keyword : List ℕ → Result Atom ReadErrorKind
keyword t = if nat_lt 1 (length t) && not (has_byte 58 (drop 1 t)) then Ok (key (drop 1 t)) else Err BadByte

-- what a token says that is neither number nor keyword
abbrev pub token_word : List ℕ → Atom
token_word t =
    if bytes_eq t (codes "nil") then nil
    else (if bytes_eq t (codes "true") then bool true
    else (if bytes_eq t (codes "false") then bool false else symbol t))

-- what a token says, or the kind of its fault, which stands at its first byte
unfoldable pub meaning : List ℕ → Result Atom ReadErrorKind
meaning t =
    if is_numeral t then or_bad_number (number t)
    else (if slice_index t 0 == 58 then keyword t
    else (if has_byte 58 t then Err BadByte else Ok (token_word t)))
