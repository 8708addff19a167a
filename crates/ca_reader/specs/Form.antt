-- The forms of a script as plain data: each has a shape, and the place of its first byte.
use Rattle.std.specs.Prelude.{ℕ, ℤ, List, Bool}
use Rattle.ca_term.specs.declared.place.Place.{Place}
use Rattle.ca_reader.specs.declared.form.Bracket.{Bracket}

-- what one text or token says
pub data Atom : Type 0 where
  nil : Atom
  bool : Bool → Atom
  int : ℤ → Atom
  text : List ℕ → Atom
  key : List ℕ → Atom
  symbol : List ℕ → Atom

-- an atom, or forms in brackets: round for a list, square for a vector, curly for a map, whose keys and
-- values stand in turn
mutual
  pub data FormTree : Type 0 where
    form : ShapeTree → Place → FormTree

  pub data ShapeTree : Type 0 where
    atom : Atom → ShapeTree
    group : Bracket → FormTrees → ShapeTree

  pub data FormTrees : Type 0 where
    none : FormTrees
    item : FormTree → FormTrees → FormTrees

abbrev pub form_place : FormTree → Place
form_place (form s p) = p

abbrev pub shape_of : FormTree → ShapeTree
shape_of (form s p) = s
