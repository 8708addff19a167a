-- A text cut into pieces.
use Rattle.std.specs.Prelude.{ℕ, zero, suc, List, [], ◌∷◌, ◌==◌, length, take, drop, if◌then◌else◌, Result, Ok, Err}
use Rattle.std.specs.List.{position_or_len, take_while}
use Rattle.ca_term.specs.declared.place.Place.{Place}
use Rattle.ca_reader.specs.declared.form.Bracket.{Bracket}
use Rattle.ca_reader.specs.declared.form.Bracket.TheVariants.{Round, Square, Curly}
use Rattle.ca_reader.specs.declared.error.ReadErrorKind.{ReadErrorKind}
use Rattle.ca_reader.specs.declared.error.ReadErrorKind.TheVariants.{BadByte, UnclosedText}
use Rattle.ca_reader.specs.Form.{Atom, text}
use Rattle.ca_reader.specs.Bytes.{is_separator, is_token_byte, start, past}
use Rattle.ca_reader.specs.Tokens.{meaning}
use Rattle.ca_reader.specs.Texts.{TextCut, closed, unclosed, broken, text_cut}

-- a text or a token, an opening bracket or a closing one
pub data Piece : Type 0 where
  one : Atom → Piece
  opener : Bracket → Piece
  closer : Bracket → Piece

-- What a text begins with: its end, a separator or comment of so many bytes, a piece of so many bytes, or
-- something that no rule admits, with so many bytes before the fault.
pub data First : Type 0 where
  over : First
  blank : ℕ → First
  found : Piece → ℕ → First
  wrong : ReadErrorKind → ℕ → First

-- a text begins with its quote; if the script ends first, the fault is that quote
abbrev pub text_first : TextCut → First
text_first (closed s n) = found (one (text s)) (suc n)
text_first unclosed = wrong UnclosedText 0
text_first (broken k n) = wrong k (suc n)

-- a token of n bytes, by what it says; its fault stands at its first byte
abbrev pub token_first : ℕ → Result Atom ReadErrorKind → First
token_first n (Ok a) = found (one a) n
token_first n (Err k) = wrong k 0

-- ( ) [ ] { }
abbrev pub bracket_first : ℕ → First
bracket_first b =
    if b == 40 then found (opener Round) 1
    else (if b == 41 then found (closer Round) 1
    else (if b == 91 then found (opener Square) 1
    else (if b == 93 then found (closer Square) 1
    else (if b == 123 then found (opener Curly) 1
    else (if b == 125 then found (closer Curly) 1 else wrong BadByte 0)))))

-- how far a comment goes: to the next line feed, or to the end
abbrev pub comment_len : List ℕ → ℕ
comment_len bs = position_or_len (λ b. b == 10) bs

-- the longest run of token bytes in front
abbrev pub token : List ℕ → List ℕ
token bs = take_while is_token_byte bs

-- a comment begins with a semicolon (byte 59), a text with a quote (byte 34)
unfoldable pub first : List ℕ → First
first [] = over
first (b ∷ bs) =
    if is_separator b then blank 1
    else (if b == 59 then blank (comment_len (b ∷ bs))
    else (if b == 34 then text_first (text_cut bs)
    else (if is_token_byte b then token_first (length (token (b ∷ bs))) (meaning (token (b ∷ bs)))
    else bracket_first b)))

-- the pieces of a text, each with its place, up to its end or to the first thing that no rule admits
pub data Pieces : Type 0 where
  end : Pieces
  stop : ReadErrorKind → Place → Pieces
  piece : Piece → Place → Pieces → Pieces

-- the pieces of a text whose first byte is at p, by what it begins with, where more says what pieces are
abbrev pub pieces_step : (Place → List ℕ → Pieces) → Place → List ℕ → First → Pieces
pieces_step more p bs over = end
pieces_step more p bs (blank m) = more (past p (take m bs)) (drop m bs)
pieces_step more p bs (found x m) = piece x p (more (past p (take m bs)) (drop m bs))
pieces_step more p bs (wrong k m) = stop k (past p (take m bs))

-- the first n pieces, counting separators and comments
unfoldable pub pieces_within : ℕ → Place → List ℕ → Pieces
pieces_within zero p bs = end
pieces_within (suc n) p bs = pieces_step (pieces_within n) p bs (first bs)

-- a text has no more pieces than bytes
abbrev pub pieces_from : Place → List ℕ → Pieces
pieces_from p bs = pieces_within (suc (length bs)) p bs

abbrev pub pieces : List ℕ → Pieces
pieces bytes = pieces_from start bytes
