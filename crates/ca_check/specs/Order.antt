-- The go blocks of a script in order of its text, and the place that a go body keeps of its block.
use Rattle.std.specs.Prelude.{List, [], ◌∷◌, ◌++◌, Option, None, Some, Bool, true, false, cond}
use Rattle.ca_term.specs.declared.place.Place.{Place}
use Rattle.ca_term.specs.Kernel.{Kernel, bind, seq, apply, none, item}
use Rattle.ca_term.specs.Program.{ProcedureView}
use Rattle.ca_reader.specs.declared.form.Bracket.{Bracket}
use Rattle.ca_reader.specs.declared.form.Bracket.TheVariants.{Round}
use Rattle.ca_reader.specs.Form.{FormTree, FormTrees, ShapeTree, form, atom, group, symbol, none as no_forms, item as form_item}
use Rattle.ca_forms.specs.declared.special.Special.{Special}
use Rattle.ca_forms.specs.Words.{special}
use Rattle.ca_check.specs.Expansion.{is_namespace}

abbrev pub is_go : Option Special → Bool
is_go (Some Special.Go) = true
is_go (Some Special.GoLoop) = true
is_go k = false

-- a list headed by `go` or `go-loop`
abbrev pub is_go_block : Bracket → FormTrees → Bool
is_go_block Round (form_item (form (atom (symbol s)) q) fs) = is_go (special s)
is_go_block b fs = false

-- the places of the go blocks in a text, one that stands around others before them
abbrev mutual
  pub go_blocks : FormTrees → List Place
  go_blocks no_forms = []
  go_blocks (form_item f fs) = go_blocks_in f ++ go_blocks fs

  pub go_blocks_in : FormTree → List Place
  go_blocks_in (form s p) = go_blocks_of s p

  pub go_blocks_of : ShapeTree → Place → List Place
  go_blocks_of (atom a) p = []
  go_blocks_of (group b fs) p = cond (is_go_block b fs) (p ∷ []) [] ++ go_blocks fs

-- of a script, whose namespace form is passed over
abbrev pub script_go_blocks : FormTrees → List Place
script_go_blocks no_forms = []
script_go_blocks (form_item f fs) = cond (is_namespace f) [] (go_blocks_in f) ++ go_blocks fs

-- the place of the Close at the end of a go body
abbrev pub end_place : Kernel → Option Place
end_place (bind bs (seq (item t (item (apply h ts p) none)))) = Some p
end_place t = None

-- where the block of a go body stands
abbrev pub block_place : ProcedureView → Option Place
block_place b = end_place b.body
