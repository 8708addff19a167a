-- Words and numbers as a line has them. What is read leniently here is printed again, and compared with the line.
use Rattle.std.specs.Prelude.{ℕ, ◌+◌, ◌-◌, ◌*◌, ◌^◌, List, [], ◌∷◌, Some, None, Bool, false, ◌||◌, ◌==◌, not, cond, nat_lt, take, drop}
use Rattle.std.specs.Int.{is_in_range}
use Rattle.std.specs.List.{prefix_len}
use Rattle.ca_journal_reader.specs.Found.{Found, then}

abbrev pub is_digit_byte : ℕ → Bool
is_digit_byte b = is_in_range 48 57 b

-- the number of the digits in front, after those that make v, and what follows
abbrev pub number_from : ℕ → List ℕ → ℕ × List ℕ
number_from v [] = (v, [])
number_from v (b ∷ bs) = cond (is_digit_byte b) (number_from (v * 10 + (b - 48)) bs) (v, b ∷ bs)

-- where 64 bits hold it
abbrev pub number_in : List ℕ → Found ℕ
number_in text = let r = number_from 0 text in cond (nat_lt r.0 (2 ^ 64)) (Some r) None

-- without the space in front
abbrev pub unspaced : List ℕ → List ℕ
unspaced [] = []
unspaced (b ∷ s) = cond (b == 32) s (b ∷ s)

-- this byte stands in front
abbrev pub is_first : ℕ → List ℕ → Bool
is_first c [] = false
is_first c (b ∷ s) = b == c

-- the bytes behind it
abbrev pub byte_in : ℕ → List ℕ → Found (Unit {0})
byte_in c [] = None
byte_in c (b ∷ s) = cond (b == c) (Some (tt, s)) None

-- the bytes behind a word
abbrev pub word_behind : List ℕ → List ℕ → Found (Unit {0})
word_behind [] text = Some (tt, text)
word_behind (a ∷ w) [] = None
word_behind (a ∷ w) (b ∷ text) = cond (a == b) (word_behind w text) None

-- neither a space nor a line feed
abbrev pub is_word_byte : ℕ → Bool
is_word_byte b = not (b == 32 || b == 10)

-- what a field leaves, without the space in front
abbrev pub field : {A : Type 0} → Found A → Found A
field None = None
field (Some r) = Some (r.0, unspaced r.1)

-- up to a space or a line feed
abbrev pub word_in : List ℕ → List ℕ × List ℕ
word_in text = let n = prefix_len is_word_byte text in (take n text, unspaced (drop n text))

abbrev pub decimal_in : List ℕ → Found ℕ
decimal_in text = field (number_in text)

-- a number behind this letter
abbrev pub numbered_in : ℕ → List ℕ → Found ℕ
numbered_in letter text = then (byte_in letter text) (λ x rest. decimal_in rest)
