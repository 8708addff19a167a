-- What the atoms of forms are. Those of a text are integers of 64 bits, keywords, and symbols of token bytes.
use Rattle.std.specs.Prelude.{◌≡◌, true}
use Rattle.std.specs.List.{list_all}
use Rattle.ca_value.specs.IsValue.{Scalars, IsInteger, IsKeyword, is_keyword}
use Rattle.ca_value.specs.Numbers.{fits_64}
use Rattle.ca_reader.specs.Bytes.{is_token_byte}
use Rattle.ca_reader.specs.Form.{Atom, int, key, symbol, FormTree, ShapeTree, FormTrees, form, atom, group, none, item}

-- of each atom in the form
abbrev mutual
  pub FormAtoms : (Atom → Type 0) → FormTree → Type 0
  FormAtoms P (form s p) = ShapeAtoms P s

  pub ShapeAtoms : (Atom → Type 0) → ShapeTree → Type 0
  ShapeAtoms P (atom a) = P a
  ShapeAtoms P (group b fs) = EachAtom P fs

  pub EachAtom : (Atom → Type 0) → FormTrees → Type 0
  EachAtom P none = Unit {0}
  EachAtom P (item f fs) = FormAtoms P f × EachAtom P fs

abbrev pub IsWrittenAtom : Atom → Type 0
IsWrittenAtom (int z) = fits_64 z ≡ true
IsWrittenAtom (key s) = is_keyword s ≡ true
IsWrittenAtom (symbol s) = list_all is_token_byte s ≡ true
IsWrittenAtom a = Unit {0}

-- what a script's text can write
abbrev pub AreWritten : FormTrees → Type 0
AreWritten fs = EachAtom IsWrittenAtom fs

-- an integer or a keyword is as said
abbrev pub AtomHas : Scalars → Atom → Type 0
AtomHas scalars (int z) = IsInteger scalars z
AtomHas scalars (key s) = IsKeyword scalars s
AtomHas scalars a = Unit {0}

abbrev pub HaveScalars : Scalars → FormTrees → Type 0
HaveScalars scalars fs = EachAtom (AtomHas scalars) fs
