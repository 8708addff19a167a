-- What the Rust types of forms stand for.
use Rattle.std.specs.Prelude.{List, [], ◌∷◌, map}
use Rattle.ca_value.specs.Seq.{list}
use Rattle.ca_reader.specs.declared.form.Bracket.TheVariants.{Round, Square, Curly}
use Rattle.ca_reader.specs.declared.form.Form.{Form, fold-Form}
use Rattle.ca_reader.specs.declared.form.Shape.{Shape, fold-Shape}
use Rattle.ca_reader.specs.declared.form.Shape.TheOpen.{Form-F, Shape-F}
use Rattle.ca_reader.specs.Form.{FormTree, FormTrees, ShapeTree, form, atom, group, nil, bool, int, text, key, symbol, none, item}

abbrev pub form_trees_of : List FormTree → FormTrees
form_trees_of [] = none
form_trees_of (f ∷ fs) = item f (form_trees_of fs)

abbrev pub shape_step : Shape-F ShapeTree FormTree → ShapeTree
shape_step Shape-F.Nil = atom nil
shape_step (Shape-F.Bool b) = atom (bool b)
shape_step (Shape-F.Int z) = atom (int z)
shape_step (Shape-F.Text s) = atom (text (list s))
shape_step (Shape-F.Key s) = atom (key (list s))
shape_step (Shape-F.Symbol s) = atom (symbol (list s))
shape_step (Shape-F.List fs) = group Round (form_trees_of (list fs))
shape_step (Shape-F.Vector fs) = group Square (form_trees_of (list fs))
shape_step (Shape-F.Map fs) = group Curly (form_trees_of (list fs))

abbrev pub form_step : Form-F ShapeTree FormTree → FormTree
form_step f = form f.shape f.place

abbrev pub form_tree : Form → FormTree
form_tree = fold-Form ShapeTree FormTree shape_step form_step

abbrev pub shape_tree : Shape → ShapeTree
shape_tree = fold-Shape ShapeTree FormTree shape_step form_step

-- the forms of a list, in order
abbrev pub form_trees : List Form → FormTrees
form_trees fs = form_trees_of (map form_tree fs)
