-- Hidden names that stand free in a form: those that no list around them within the form binds.
use Rattle.std.specs.Prelude.{◌≡◌, ℕ, List, ◌∷◌, Bool, true, false, not, ◌||◌, ◌&&◌, codes}
use Rattle.std.specs.List.{list_any}
use Rattle.std.specs.Str.{bytes_eq}
use Rattle.ca_reader.specs.declared.form.Bracket.{Bracket}
use Rattle.ca_reader.specs.declared.form.Bracket.TheVariants.{Round, Square}
use Rattle.ca_reader.specs.Bytes.{has_byte}
use Rattle.ca_reader.specs.Form.{FormTree, FormTrees, ShapeTree, form, atom, group, symbol, none, item}

-- it holds the byte `#`
abbrev pub is_hidden_name : List ℕ → Bool
is_hidden_name s = has_byte 35 s

-- The heads of lists that bind: in the vector behind the head names stand in turn with values, and each is bound in the
-- values behind it and in the forms behind the vector. (`if-some` binds in the first of these alone; the rows give it nil
-- as the second.)
abbrev pub is_binder : FormTree → Bool
is_binder (form (atom (symbol s)) p) = bytes_eq s (codes "let") || (bytes_eq s (codes "loop") || (bytes_eq s (codes "go-loop") || bytes_eq s (codes "if-some")))
is_binder f = false

abbrev pub is_vector_form : FormTree → Bool
is_vector_form (form (group Square fs) p) = true
is_vector_form f = false

abbrev pub is_binding_form : Bracket → FormTrees → Bool
is_binding_form Round (item h (item v fs)) = is_vector_form v && is_binder h
is_binding_form b fs = false

-- hidden names
abbrev pub Names : Type 0
Names = List (List ℕ)

-- the name isn't hidden, or is one of these
abbrev pub is_bound : Names → List ℕ → Bool
is_bound ns s = not (is_hidden_name s) || list_any (bytes_eq s) ns

abbrev pub with_hidden_name : FormTree → Names → Names
with_hidden_name (form (atom (symbol s)) p) ns = s ∷ ns
with_hidden_name f ns = ns

abbrev pub either : Bool → (Names → Type 0) → (Names → Type 0) → Names → Type 0
either true f g = f
either false f g = g

-- where these names are bound, each hidden name in the form is bound
abbrev mutual
  pub IsBound : FormTree → Names → Type 0
  IsBound (form s p) ns = ShapeBound s ns

  pub ShapeBound : ShapeTree → Names → Type 0
  ShapeBound (atom (symbol s)) ns = is_bound ns s ≡ true
  ShapeBound (atom a) ns = Unit {0}
  ShapeBound (group b fs) ns = either (is_binding_form b fs) (ListBound fs) (AllBound fs) ns

  pub AllBound : FormTrees → Names → Type 0
  AllBound none ns = Unit {0}
  AllBound (item f fs) ns = IsBound f ns × AllBound fs ns

  -- a list that binds: its head, the vector, and the forms behind it
  pub ListBound : FormTrees → Names → Type 0
  ListBound none ns = Unit {0}
  ListBound (item h fs) ns = BehindHead fs ns

  pub BehindHead : FormTrees → Names → Type 0
  BehindHead none ns = Unit {0}
  BehindHead (item v fs) ns = VectorBound v (AllBound fs) ns

  pub VectorBound : FormTree → (Names → Type 0) → Names → Type 0
  VectorBound (form s p) body ns = NamesBound s body ns

  pub NamesBound : ShapeTree → (Names → Type 0) → Names → Type 0
  NamesBound (atom a) body ns = body ns
  NamesBound (group b fs) body ns = PairsBound fs body ns

  pub PairsBound : FormTrees → (Names → Type 0) → Names → Type 0
  PairsBound none body ns = body ns
  PairsBound (item n fs) body ns = ValueBound n fs body ns

  pub ValueBound : FormTree → FormTrees → (Names → Type 0) → Names → Type 0
  ValueBound n none body ns = body ns
  ValueBound n (item e fs) body ns = IsBound e ns × PairsBound fs body (with_hidden_name n ns)
