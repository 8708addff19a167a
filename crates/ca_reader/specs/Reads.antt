-- Which forms a text has, or which fault.
use Rattle.std.specs.Prelude.{◌≡◌, ℕ, suc, ◌<◌, ◌%◌, List, Bool, true, false, ◌==◌, nat_lt, if◌then◌else◌, Option, Some, None}
use Rattle.ca_term.specs.declared.place.Place.{Place}
use Rattle.ca_reader.specs.declared.form.Bracket.{Bracket}
use Rattle.ca_reader.specs.declared.form.Bracket.TheVariants.{Round, Square, Curly}
use Rattle.ca_reader.specs.declared.error.ReadError.{ReadError}
use Rattle.ca_reader.specs.declared.error.ReadError.TheVariants.{Fault, OutOfMemory}
use Rattle.ca_reader.specs.declared.error.ReadErrorKind.{ReadErrorKind}
use Rattle.ca_reader.specs.declared.error.ReadErrorKind.TheVariants.{UnclosedList, StrayClose, OddMap, TooDeep}
use Rattle.ca_reader.specs.Form.{FormTree, FormTrees, ShapeTree, form, atom, group, none, item}
use Rattle.ca_reader.specs.Pieces.{Piece, one, opener, closer, Pieces, end, stop, piece, pieces}

abbrev pub form_count : FormTrees → ℕ
form_count none = 0
form_count (item f fs) = suc (form_count fs)

-- a map has a value for each key
abbrev pub is_paired : Bracket → FormTrees → Bool
is_paired Round fs = true
is_paired Square fs = true
is_paired Curly fs = form_count fs % 2 == 0

-- The pieces ps are these forms, with d brackets open around them, and then rest.
abbrev mutual
  pub Nest : ℕ → FormTrees → Pieces → Pieces → Type 0
  Nest d none ps rest = ps ≡ rest
  Nest d (item f fs) ps rest = (mid : Pieces) × NestForm d f ps mid × Nest d fs mid rest

  pub NestForm : ℕ → FormTree → Pieces → Pieces → Type 0
  NestForm d (form s p) ps rest = NestShape d s p ps rest

  pub NestShape : ℕ → ShapeTree → Place → Pieces → Pieces → Type 0
  NestShape d (atom a) p ps rest = ps ≡ piece (one a) p rest
  NestShape d (group b fs) p ps rest =
      (d < 200) × (is_paired b fs ≡ true)
      × (inner : Pieces) × (q : Place) × (ps ≡ piece (opener b) p inner) × Nest (suc d) fs inner (piece (closer b) q rest)

-- the text has these forms
abbrev pub Reads : List ℕ → FormTrees → Type 0
Reads bytes fs = Nest 0 fs (pieces bytes) end

-- Where a reading stands: the forms so far outside all brackets; or those behind an opening bracket at a
-- place, which itself stands somewhere.
pub data Context : Type 0 where
  outside : FormTrees → Context
  inside : Context → Bracket → Place → FormTrees → Context

abbrev pub depth : Context → ℕ
depth (outside fs) = 0
depth (inside c b p fs) = suc (depth c)

-- a reading of ps can come to where rest is left, and stands there
abbrev pub ReadingStands : Context → Pieces → Pieces → Type 0
ReadingStands (outside fs) ps rest = Nest 0 fs ps rest
ReadingStands (inside c b p fs) ps rest =
    (depth c < 200) × (inner : Pieces) × ReadingStands c ps (piece (opener b) p inner) × Nest (suc (depth c)) fs inner rest

abbrev pub same_bracket : Bracket → Bracket → Bool
same_bracket Round Round = true
same_bracket Square Square = true
same_bracket Curly Curly = true
same_bracket a b = false

-- what is wrong with this closing bracket, at q
abbrev pub closing_fault : Context → Bracket → Place → Option (ReadErrorKind × Place)
closing_fault (outside fs) b q = Some (StrayClose, q)
closing_fault (inside c a p fs) b q =
    if same_bracket a b then (if is_paired b fs then None else Some (OddMap, p)) else Some (StrayClose, q)

-- what is wrong if the text ends here
abbrev pub end_fault : Context → Option (ReadErrorKind × Place)
end_fault (outside fs) = None
end_fault (inside c b p fs) = Some (UnclosedList, p)

-- what is wrong with this piece, at q
abbrev pub piece_fault : Context → Piece → Place → Option (ReadErrorKind × Place)
piece_fault c (one a) q = None
piece_fault c (opener b) q = if nat_lt (depth c) 200 then None else Some (TooDeep, q)
piece_fault c (closer b) q = closing_fault c b q

-- why a reading that stands here can't go on
abbrev pub reading_fault : Context → Pieces → Option (ReadErrorKind × Place)
reading_fault c end = end_fault c
reading_fault c (stop k q) = Some (k, q)
reading_fault c (piece x q more) = piece_fault c x q

-- a reading of the text can come somewhere, and can't go on there for this fault; as each text has exactly
-- one reading, that is the first fault from the left
abbrev pub ReadFault : List ℕ → ReadErrorKind → Place → Type 0
ReadFault bytes k p = (c : Context) × (rest : Pieces) × ReadingStands c (pieces bytes) rest × (reading_fault c rest ≡ Some (k, p))

-- the error is the fault of this text, or want of memory
abbrev pub IsFaultOf : List ℕ → ReadError → Type 0
IsFaultOf bytes (Fault k p) = ReadFault bytes k p
IsFaultOf bytes OutOfMemory = Unit {0}
