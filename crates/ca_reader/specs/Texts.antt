-- Texts between quotes, letter by letter. The quote is byte 34, the backslash 92.
use Rattle.std.specs.Prelude.{ℕ, zero, suc, ◌+◌, List, [], ◌∷◌, ◌++◌, Bool, ◌&&◌, ◌==◌, nat_lt, length, take, drop, slice_index, if◌then◌else◌, Option, Some, None}
use Rattle.std.specs.Int.{is_in_range}
use Rattle.ca_reader.specs.declared.error.ReadErrorKind.{ReadErrorKind}
use Rattle.ca_reader.specs.declared.error.ReadErrorKind.TheVariants.{BadByte, BadEscape}

abbrev pub is_continuation : ℕ → Bool
is_continuation b = is_in_range 0x80 0xBF b

-- the second byte c may follow the first byte b (the Unicode Standard, table 3-7)
abbrev pub may_follow : ℕ → ℕ → Bool
may_follow b c = is_in_range
    (if b == 0xE0 then 0xA0 else (if b == 0xF0 then 0x90 else 0x80))
    (if b == 0xED then 0x9F else (if b == 0xF4 then 0x8F else 0xBF)) c

-- how many bytes the character of UTF-8 has that begins these bytes, or 0 where none does
unfoldable pub char_len : List ℕ → ℕ
char_len bs =
    if nat_lt (slice_index bs 0) 0x80 then 1
    else (if is_in_range 0xC2 0xDF (slice_index bs 0) && is_continuation (slice_index bs 1) then 2
    else (if is_in_range 0xE0 0xEF (slice_index bs 0) && may_follow (slice_index bs 0) (slice_index bs 1)
    && is_continuation (slice_index bs 2) then 3
    else (if is_in_range 0xF0 0xF4 (slice_index bs 0) && may_follow (slice_index bs 0) (slice_index bs 1)
    && is_continuation (slice_index bs 2) && is_continuation (slice_index bs 3) then 4 else 0)))

-- What comes next in a text: bytes that it says, spelled by so many bytes; the closing quote; the end of
-- the script; or a fault.
pub data Letter : Type 0 where
  says : List ℕ → ℕ → Letter
  quote : Letter
  missing : Letter
  bad : ReadErrorKind → Letter

-- the byte that a backslash and this byte stand for: quote, backslash, and n, t and r for line feed, tab
-- and carriage return
abbrev pub byte_meant : ℕ → Option ℕ
byte_meant c =
    if c == 34 then Some 34
    else (if c == 92 then Some 92
    else (if c == 110 then Some 10
    else (if c == 116 then Some 9
    else (if c == 114 then Some 13 else None))))

abbrev pub escape_of : Option ℕ → Letter
escape_of (Some b) = says (b ∷ []) 2
escape_of None = bad BadEscape

abbrev pub escape : List ℕ → Letter
escape [] = missing
escape (c ∷ bs) = escape_of (byte_meant c)

-- a character of n bytes, if there is one
abbrev pub character : List ℕ → ℕ → Letter
character bs n = if n == 0 then bad BadByte else says (take n bs) n

unfoldable pub letter : List ℕ → Letter
letter [] = missing
letter (b ∷ bs) =
    if b == 34 then quote
    else (if b == 92 then escape bs else character (b ∷ bs) (char_len (b ∷ bs)))

-- A text behind its opening quote: what it says, and how many bytes it takes with its closing quote; or
-- the script ends first; or a fault, and how many bytes stand before it.
pub data TextCut : Type 0 where
  closed : List ℕ → ℕ → TextCut
  unclosed : TextCut
  broken : ReadErrorKind → ℕ → TextCut

-- the same with a letter before it
abbrev pub with_letter : List ℕ → ℕ → TextCut → TextCut
with_letter x m (closed xs n) = closed (x ++ xs) (m + n)
with_letter x m unclosed = unclosed
with_letter x m (broken k n) = broken k (m + n)

-- a text by its first letter, where more says what a text is
abbrev pub text_step : (List ℕ → TextCut) → List ℕ → Letter → TextCut
text_step more bs (says x m) = with_letter x m (more (drop m bs))
text_step more bs quote = closed [] 1
text_step more bs missing = unclosed
text_step more bs (bad k) = broken k 0

-- the text of less than n letters
unfoldable pub text_within : ℕ → List ℕ → TextCut
text_within zero bs = unclosed
text_within (suc n) bs = text_step (text_within n) bs (letter bs)

-- a text has no more letters than bytes
abbrev pub text_cut : List ℕ → TextCut
text_cut bs = text_within (suc (length bs)) bs
