-- The forms of a script with the lists of the six words rewritten, or the first error: a form before its parts, from
-- left to right.
use Rattle.std.specs.Prelude.{ℕ, List, Option, Some, None, Bool, false, cond, codes}
use Rattle.std.specs.Str.{bytes_eq}
use Rattle.ca_term.specs.declared.place.Place.{Place}
use Rattle.ca_reader.specs.declared.form.Bracket.{Bracket}
use Rattle.ca_reader.specs.declared.form.Bracket.TheVariants.{Round, Square, Curly}
use Rattle.ca_reader.specs.Form.{FormTree, FormTrees, ShapeTree, Atom, form, atom, group, symbol, none, item}
use Rattle.ca_derived.specs.declared.word.Word.{Word}
use Rattle.ca_derived.specs.declared.word.Word.TheVariants.{Choose, ChooseBlocking, Reduce, Into, Split, Take}
use Rattle.ca_derived.specs.declared.error.FormsErrorKind.{FormsErrorKind}
use Rattle.ca_derived.specs.declared.error.FormsErrorKind.TheVariants.{BadForm}
use Rattle.ca_derived.specs.Words.{word}
use Rattle.ca_derived.specs.Outcome.{ExpansionOutcome, made, refused, after_expansion}
use Rattle.ca_derived.specs.Rows.{row_reduce, row_into, row_of_take, row_split}
use Rattle.ca_derived.specs.Choice.{row_choose}
use Rattle.ca_derived.specs.Shapes.{shape_fault}

-- the word's list, of the parts behind it
abbrev pub word_row : Word → Place → FormTrees → FormTree
word_row Choose p fs = row_choose p (codes "alts!") fs
word_row ChooseBlocking p fs = row_choose p (codes "alts!!") fs
word_row Reduce p fs = row_reduce p fs
word_row Into p fs = row_into p fs
word_row Split p fs = row_split p fs
word_row Take p fs = row_of_take p fs

-- a word that heads no list
abbrev pub expand_symbol : Option Word → List ℕ → Place → ExpansionOutcome FormTree
expand_symbol None s p = made (form (atom (symbol s)) p)
expand_symbol (Some w) s p = refused BadForm p

abbrev pub expand_atom : Atom → Place → ExpansionOutcome FormTree
expand_atom (symbol s) p = expand_symbol (word s) s p
expand_atom a p = made (form (atom a) p)

-- the word at the head of a list
abbrev pub word_at : FormTree → Option Word
word_at (form (atom (symbol s)) p) = word s
word_at f = None

abbrev pub leading_word : FormTrees → Option Word
leading_word none = None
leading_word (item f fs) = word_at f

abbrev pub tail : FormTrees → FormTrees
tail none = none
tail (item f fs) = fs

abbrev pub rewritten : Option FormsErrorKind → Word → Place → ExpansionOutcome FormTrees → ExpansionOutcome FormTree
rewritten (Some k) w p parts = refused k p
rewritten None w p parts = after_expansion parts (λ fs. made (word_row w p fs))

abbrev pub by_head : Option Word → FormTrees → Place → ExpansionOutcome FormTrees → ExpansionOutcome FormTrees → ExpansionOutcome FormTree
by_head None fs p all rest = after_expansion all (λ gs. made (form (group Round gs) p))
by_head (Some w) fs p all rest = rewritten (shape_fault w (tail fs)) w p rest

abbrev pub expand_group : Bracket → FormTrees → Place → ExpansionOutcome FormTrees → ExpansionOutcome FormTrees → ExpansionOutcome FormTree
expand_group Round fs p all rest = by_head (leading_word fs) fs p all rest
expand_group Square fs p all rest = after_expansion all (λ gs. made (form (group Square gs) p))
expand_group Curly fs p all rest = after_expansion all (λ gs. made (form (group Curly gs) p))

abbrev mutual
  pub expand_form : FormTree → ExpansionOutcome FormTree
  expand_form (form s p) = expand_shape s p

  pub expand_shape : ShapeTree → Place → ExpansionOutcome FormTree
  expand_shape (atom a) p = expand_atom a p
  expand_shape (group b fs) p = expand_group b fs p (expand_all fs) (expand_rest fs)

  pub expand_all : FormTrees → ExpansionOutcome FormTrees
  expand_all none = made none
  expand_all (item f fs) = after_expansion (expand_form f) (λ g. after_expansion (expand_all fs) (λ gs. made (item g gs)))

  -- behind the first
  pub expand_rest : FormTrees → ExpansionOutcome FormTrees
  expand_rest none = made none
  expand_rest (item f fs) = expand_all fs

-- a list of these forms at p
abbrev pub expand_list : FormTrees → Place → ExpansionOutcome FormTree
expand_list fs p = expand_group Round fs p (expand_all fs) (expand_rest fs)

-- a list headed by `ns`
abbrev pub is_namespace_form : FormTree → Bool
is_namespace_form (form (group Round (item (form (atom (symbol s)) q) fs)) p) = bytes_eq s (codes "ns")
is_namespace_form f = false

abbrev pub begins_with_namespace : FormTrees → Bool
begins_with_namespace none = false
begins_with_namespace (item f fs) = is_namespace_form f

-- the first form as it is, and the others rewritten
abbrev pub expand_behind : FormTrees → ExpansionOutcome FormTrees
expand_behind none = made none
expand_behind (item f fs) = after_expansion (expand_all fs) (λ gs. made (item f gs))

-- a first form that is a list headed by `ns` stays as it is
abbrev pub expand : FormTrees → ExpansionOutcome FormTrees
expand fs = cond (begins_with_namespace fs) (expand_behind fs) (expand_all fs)
