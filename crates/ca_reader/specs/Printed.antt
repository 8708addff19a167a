-- The text of forms, as a script would write them.
use Rattle.std.specs.Prelude.{◌≡◌, ℕ, List, [], ◌∷◌, ◌++◌, codes}
use Rattle.std.specs.Fmt.{signed_decimal}
use Rattle.ca_value.specs.Printed.{bool_text, quoted}
use Rattle.ca_reader.specs.declared.form.Bracket.{Bracket}
use Rattle.ca_reader.specs.declared.form.Bracket.TheVariants.{Round, Square, Curly}
use Rattle.ca_reader.specs.Form.{Atom, FormTree, FormTrees, ShapeTree, nil, bool, int, text, key, symbol, form, atom, group, none, item}
use Rattle.ca_reader.specs.Bytes.{start}
use Rattle.ca_reader.specs.Reads.{Reads}

abbrev pub atom_text : Atom → List ℕ
atom_text nil = codes "nil"
atom_text (bool b) = bool_text b
atom_text (int z) = signed_decimal z
atom_text (text s) = quoted s
atom_text (key s) = 58 ∷ s
atom_text (symbol s) = s

abbrev pub opening : Bracket → ℕ
opening Round = 40
opening Square = 91
opening Curly = 123

abbrev pub closing_bracket : Bracket → ℕ
closing_bracket Round = 41
closing_bracket Square = 93
closing_bracket Curly = 125

abbrev mutual
  pub form_text : FormTree → List ℕ
  form_text (form s p) = shape_text s

  pub shape_text : ShapeTree → List ℕ
  shape_text (atom a) = atom_text a
  shape_text (group b fs) = opening b ∷ (forms_text fs ++ closing_bracket b ∷ [])

  -- forms are joined by a space
  pub forms_text : FormTrees → List ℕ
  forms_text none = []
  forms_text (item f fs) = form_text f ++ more_text fs

  pub more_text : FormTrees → List ℕ
  more_text none = []
  more_text (item f fs) = 32 ∷ (form_text f ++ more_text fs)

-- the same forms, all at one place
abbrev mutual
  pub bare_forms : FormTrees → FormTrees
  bare_forms none = none
  bare_forms (item f fs) = item (bare_form f) (bare_forms fs)

  pub bare_form : FormTree → FormTree
  bare_form (form s p) = form (bare_shape s) start

  pub bare_shape : ShapeTree → ShapeTree
  bare_shape (atom a) = atom a
  bare_shape (group b fs) = group b (bare_forms fs)

-- the text reads to these forms, places aside
abbrev pub ReadsAside : List ℕ → FormTrees → Type 0
ReadsAside bytes fs = (gs : FormTrees) × Reads bytes gs × (bare_forms gs ≡ bare_forms fs)
