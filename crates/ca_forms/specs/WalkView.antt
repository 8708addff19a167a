-- What the code's types stand for along a walk.
use Rattle.std.specs.Prelude.{◌≡◌, ℕ, List, map}
use Rattle.ca_value.specs.Seq.{list}
use Rattle.ca_term.specs.declared.term.Term.{Term}
use Rattle.ca_term.specs.Kernel.{Kernel}
use Rattle.ca_term.specs.Program.{procedure_view}
use Rattle.ca_term.specs.View.{kernel}
use Rattle.ca_reader.specs.declared.form.Form.{Form}
use Rattle.ca_reader.specs.View.{form_tree, form_trees}
use Rattle.ca_forms.specs.declared.context.At.{At}
use Rattle.ca_forms.specs.declared.error.CheckError.{CheckError}
use Rattle.ca_forms.specs.declared.error.CheckError.TheVariants.{Fault, OutOfMemory}
use Rattle.ca_forms.specs.declared.gathered.Bodies.{Bodies}
use Rattle.ca_forms.specs.Outcome.{Gathered, WalkOutcome, refused}
use Rattle.ca_forms.specs.Meaning.{Env, Signature}
use Rattle.ca_forms.specs.Binders.{Pair, Part}
use Rattle.ca_forms.specs.Walk.{walk, walked_parts, pairs, within}

-- what was gathered
abbrev pub gathered : Bodies → Gathered
gathered g = record { bodies = map procedure_view (list g.bodies); deep = g.deep }

-- where a form stands
abbrev pub env : List (List ℕ) → List Signature → At → Env
env scope functions at = record { scope = scope; functions = functions; target = at.target; context = at.context }

-- a form as a part of a list, and the parts and pairs of forms
abbrev pub part : Form → Part
part f = record { form = form_tree f; means = walk (form_tree f); within = within (form_tree f) }

abbrev pub form_parts : List Form → List Part
form_parts fs = walked_parts (form_trees fs)

abbrev pub form_pairs : List Form → List Pair
form_pairs fs = pairs (form_trees fs)

abbrev pub terms_of : List Term → List Kernel
terms_of ts = map kernel ts

-- the error is that of this outcome, or want of memory
abbrev pub Fails : {A : Type 0} → CheckError → WalkOutcome A → Type 0
Fails (Fault e p) o = o ≡ refused e p
Fails OutOfMemory o = Unit {0}
