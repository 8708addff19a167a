-- What the reader's own types stand for.
use Rattle.std.specs.Prelude.{ℕ, ◌<◌, ◌≤◌, List, [], ◌∷◌, take}
use Rattle.ca_value.specs.Seq.{list}
use Rattle.ca_reader.specs.declared.letter.Letter.{Letter}
use Rattle.ca_reader.specs.declared.letter.Letter.TheVariants.{Character, Escape, Quote, Missing, Bad}
use Rattle.ca_reader.specs.declared.piece.Atom.{Atom}
use Rattle.ca_reader.specs.declared.piece.Atom.TheVariants.{Nil, Bool, Int, Text, Key, Symbol}
use Rattle.ca_reader.specs.declared.piece.Piece.{Piece}
use Rattle.ca_reader.specs.declared.piece.Piece.TheVariants.{One, Opener, Closer}
use Rattle.ca_reader.specs.declared.piece.First.{First}
use Rattle.ca_reader.specs.declared.piece.First.TheVariants.{Over, Blank, Found, Wrong}
use Rattle.ca_reader.specs.Form.{Atom as AtomTree, nil, bool, int, text, key, symbol}
use Rattle.ca_reader.specs.Texts.{Letter as LetterCut, says, quote, missing, bad}
use Rattle.ca_reader.specs.Pieces.{Piece as PieceCut, one, opener, closer, First as FirstCut, over, blank, found, wrong}

abbrev pub letter_view : List ℕ → Letter → LetterCut
letter_view bs (Character n) = says (take n bs) n
letter_view bs (Escape b) = says (b ∷ []) 2
letter_view bs Quote = quote
letter_view bs Missing = missing
letter_view bs (Bad k) = bad k

abbrev pub atom_view : Atom → AtomTree
atom_view Nil = nil
atom_view (Bool b) = bool b
atom_view (Int z) = int z
atom_view (Text s) = text (list s)
atom_view (Key s) = key (list s)
atom_view (Symbol s) = symbol (list s)

abbrev pub piece_view : Piece → PieceCut
piece_view (One a) = one (atom_view a)
piece_view (Opener b) = opener b
piece_view (Closer b) = closer b

abbrev pub first_cut_view : First → FirstCut
first_cut_view Over = over
first_cut_view (Blank n) = blank n
first_cut_view (Found x n) = found (piece_view x) n
first_cut_view (Wrong k n) = wrong k n

-- a letter lies within so many bytes
abbrev pub LetterFits : ℕ → LetterCut → Type 0
LetterFits most (says x m) = (0 < m) × (m ≤ most)
LetterFits most quote = 0 < most
LetterFits most missing = Unit {0}
LetterFits most (bad k) = 0 < most

-- what a text begins with lies within so many bytes
abbrev pub FirstFits : ℕ → FirstCut → Type 0
FirstFits most over = Unit {0}
FirstFits most (blank m) = (0 < m) × (m ≤ most)
FirstFits most (found x m) = (0 < m) × (m ≤ most)
FirstFits most (wrong k m) = m ≤ most
