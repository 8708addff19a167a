-- The bytes of a script by what they may do in it, and places.
use Rattle.std.specs.Prelude.{ℕ, ◌+◌, List, [], ◌∷◌, Bool, ◌||◌, ◌==◌, codes, if◌then◌else◌}
use Rattle.std.specs.Int.{is_in_range}
use Rattle.std.specs.List.{list_any}
use Rattle.ca_term.specs.declared.place.Place.{Place}

abbrev pub has_byte : ℕ → List ℕ → Bool
has_byte b bytes = list_any (λ c. c == b) bytes

-- space, tab, line feed, carriage return and comma
abbrev pub is_separator : ℕ → Bool
is_separator b = b == 32 || b == 9 || b == 10 || b == 13 || b == 44

abbrev pub is_digit : ℕ → Bool
is_digit b = is_in_range 48 57 b

-- ASCII letters and digits, and these
unfoldable pub is_token_byte : ℕ → Bool
is_token_byte b = is_in_range 97 122 b || is_in_range 65 90 b || is_digit b || has_byte b (codes "*+!-_?<>=&%$./:")

-- lines and columns count from 1, columns in bytes
abbrev pub start : Place
start = record { line = 1; column = 1 }

-- the place behind a byte at p: a line feed ends its line
abbrev pub place_behind : Place → ℕ → Place
place_behind p b = if b == 10 then record { line = p.line + 1; column = 1 } else record { line = p.line; column = p.column + 1 }

-- the place behind these bytes, of which the first is at p
abbrev pub past : Place → List ℕ → Place
past p [] = p
past p (b ∷ bs) = past (place_behind p b) bs
