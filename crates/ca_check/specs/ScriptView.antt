-- What the top-level forms so far, and those behind them, come to.
use Rattle.std.specs.Prelude.{◌≡◌, ◌≤◌, ℕ, List, [], length, cond, Bool, true, false}
use Rattle.ca_value.specs.Seq.{list}
use Rattle.ca_term.specs.Kernel.{Bindings}
use Rattle.ca_term.specs.View.{bindings}
use Rattle.ca_reader.specs.Form.{FormTree, FormTrees, none, item, form_place}
use Rattle.ca_forms.specs.declared.error.CheckError.{CheckError}
use Rattle.ca_forms.specs.declared.error.CheckErrorKind.TheVariants.{TooMany}
use Rattle.ca_check.specs.declared.tops.Expansion.{Expansion}
use Rattle.ca_check.specs.declared.tops.Kind.{Kind}
use Rattle.ca_forms.specs.Outcome.{Gathered, WalkOutcome, done, refused, after_walk}
use Rattle.ca_forms.specs.Meaning.{Meaning, bindings_joined}
use Rattle.ca_forms.specs.Binders.{Part}
use Rattle.ca_forms.specs.Tops.{Tops, Top, Ended, top, one_top, is_past, def_top, defn_top, expression}
use Rattle.ca_check.specs.Expansion.{is_namespace}
use Rattle.ca_check.specs.TopsView.{tops_of, IsSafe}
use Rattle.ca_forms.specs.WalkView.{gathered, Fails}

abbrev pub nothing_defined : Tops
nothing_defined = record { scope = []; functions = []; procedures = []; defined = 0 }

abbrev pub nothing_gathered : Gathered
nothing_gathered = record { bodies = []; deep = false }

abbrev pub kind_top : Kind → List Part → Meaning → Top
kind_top Kind.Definition ps m = def_top ps
kind_top Kind.Function ps m = defn_top ps
kind_top Kind.Expression ps m = expression m

abbrev pub is_defining_kind : Kind → Bool
is_defining_kind Kind.Definition = true
is_defining_kind Kind.Function = true
is_defining_kind Kind.Expression = false

-- the first form is a list headed by `ns`
abbrev pub has_namespace : FormTrees → Bool
has_namespace none = false
has_namespace (item f fs) = is_namespace f

-- what the rest of a script gives
abbrev pub ScriptRest : Type 0
ScriptRest = Tops → Gathered → WalkOutcome Ended

-- these bindings of the main text, and those that follow
abbrev pub ahead : Bindings → WalkOutcome Ended → WalkOutcome Ended
ahead bs o = after_walk o (λ r s. done (record r { bindings = bindings_joined bs r.bindings }) s)

-- the rest, behind the forms so far
abbrev pub rest_of_script : Expansion → ScriptRest → WalkOutcome Ended
rest_of_script e rest = rest (tops_of e.definitions) (gathered e.definitions.walker.gathered)

-- the form leads from the one to the other, whatever comes behind it
abbrev pub FormLeads : (ScriptRest → ScriptRest) → Expansion → Expansion → Type 0
FormLeads form a b = (rest : ScriptRest) → ahead (bindings (list a.bindings)) (rest_of_script a (form rest)) ≡ ahead (bindings (list b.bindings)) (rest_of_script b rest)

-- the error is that of the form
abbrev pub Stops : CheckError → (ScriptRest → ScriptRest) → Expansion → Type 0
Stops e form a = (rest : ScriptRest) → Fails e (rest_of_script a (form rest))

-- the form of that number
abbrev pub form_top : ℕ → FormTree → ScriptRest → ScriptRest
form_top i f rest t s = cond (is_past i f t) (refused TooMany (form_place f)) (one_top (top f) (form_place f) rest t s)

-- what holds behind n forms: there are no more names and definitions than forms, and calls pass names of the main text
abbrev pub Behind : ℕ → Expansion → Type 0
Behind n e = (length e.definitions.walker.scope ≤ n) × (e.definitions.defined ≤ n) × IsSafe (tops_of e.definitions)
