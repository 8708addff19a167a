-- What the code's types stand for at top level.
use Rattle.std.specs.Prelude.{◌≡◌, ◌<◌, ◌≤◌, ℕ, suc, List, [], ◌∷◌, ◌++◌, Option, None, Some, map, length, nat_lt, cond, Bool, true}
use denote.Ref.{Bor}
use Rattle.ca_value.specs.Seq.{list}
use Rattle.ca_term.specs.declared.place.Place.{Place}
use Rattle.ca_term.specs.declared.term.Term.{Term}
use Rattle.ca_term.specs.Program.{procedure_view}
use Rattle.ca_term.specs.Kernel.{Kernel}
use Rattle.ca_term.specs.View.{kernel}
use Rattle.ca_reader.specs.Form.{FormTrees, none, item}
use Rattle.ca_reader.specs.View.{form_tree, form_trees}
use Rattle.ca_reader.specs.declared.form.Form.{Form}
use Rattle.ca_forms.specs.declared.context.Context.TheVariants.{Function}
use Rattle.ca_check.specs.declared.defn.Defn.{Defn}
use Rattle.ca_check.specs.declared.defn.Pass.{Pass}
use Rattle.ca_check.specs.declared.definitions.Definitions.{Definitions}
use Rattle.ca_forms.specs.declared.error.CheckErrorKind.TheVariants.{TooMany}
use Rattle.ca_forms.specs.Depth.{kernel_depth}
use Rattle.ca_forms.specs.Outcome.{Gathered, WalkOutcome, done, refused, after_walk}
use Rattle.ca_forms.specs.Meaning.{Meaning, Env, Signature, block}
use Rattle.ca_forms.specs.Binders.{Binder, one, many}
use Rattle.ca_forms.specs.Plain.{meanings}
use Rattle.ca_forms.specs.Tops.{Tops, Written, Settled, note_in, straight, looped, body_settled, with_function}
use Rattle.ca_forms.specs.Judged.{total_binder, binder_parts}
use Rattle.ca_forms.specs.WalkView.{form_parts}

-- the parameters of a function, read without a test
abbrev pub total_binders : FormTrees → List Binder
total_binders none = []
total_binders (item f fs) = total_binder f ∷ total_binders fs

abbrev pub inner_names : Binder → List (List ℕ)
inner_names (one x) = []
inner_names (many xs q) = xs

-- the names of the patterns among the parameters, and their values, the first parameter having the number n
abbrev pub pattern_names : List Binder → List (List ℕ)
pattern_names [] = []
pattern_names (b ∷ bs) = inner_names b ++ pattern_names bs

abbrev pub pattern_parts : Place → ℕ → List Binder → List Kernel
pattern_parts p n [] = []
pattern_parts p n (b ∷ bs) = binder_parts p n b ++ pattern_parts p (suc n) bs

-- the text before the parameters
abbrev pub note_of : Option (Bor Form) → Option (List ℕ × Place)
note_of None = None
note_of (Some f) = note_in (form_tree f.now)

-- the function as it is written
abbrev pub written_as : Defn → Written
written_as d = record {
  name = d.name.now;
  parameters = total_binders (form_trees d.parameters.now);
  note = note_of d.note;
  body = block (meanings (form_parts d.body.now));
}

-- where the body of a function stands
abbrev pub in_function : List (List ℕ) → List Signature → Env
in_function scope functions = record { scope = scope; functions = functions; target = None; context = Function }

abbrev pub body_in : Pass → Written → Place → Meaning
body_in Pass.First f p = straight (Some (length f.parameters)) f p
body_in Pass.Straight f p = straight None f p
body_in Pass.Looped f p = looped f p

-- what the top-level forms so far have given
abbrev pub tops_of : Definitions → Tops
tops_of d = record { scope = d.walker.scope; functions = d.functions; procedures = map procedure_view (list d.procedures); defined = d.defined }

abbrev pub settled_view : Term → List ℕ → Settled
settled_view t hidden = record { body = kernel t; hidden = hidden }

-- the function, once a first walk has told what is asked here
abbrev pub settled_function : Bool → List ℕ → Written → Place → Tops → Gathered → WalkOutcome Tops
settled_function looping hidden f p t s = after_walk (body_settled 66 looping hidden f p t s) (λ r s2.
    cond (nat_lt 60 (kernel_depth r.body)) (refused TooMany p) (done (with_function f r.hidden r.body t) s2))

-- each of the numbers is below n
abbrev pub AreBelow : ℕ → List ℕ → Type 0
AreBelow n [] = Unit {0}
AreBelow n (m ∷ ms) = (m < n) × AreBelow n ms

-- a call of the functions passes names below n, and none where the function is plain
abbrev pub AreSafe : ℕ → List Signature → Type 0
AreSafe n [] = Unit {0}
AreSafe n (f ∷ fs) = AreBelow n f.hidden × (f.plain ≡ true → f.hidden ≡ []) × AreSafe n fs

-- a call of the functions passes names of the main text
abbrev pub IsSafe : Tops → Type 0
IsSafe t = AreSafe (length t.scope) t.functions

-- each pattern has at most 4,096 names
abbrev pub AreCounted : List Binder → Type 0
AreCounted [] = Unit {0}
AreCounted (one x ∷ bs) = AreCounted bs
AreCounted (many xs q ∷ bs) = (length xs ≤ 4096) × AreCounted bs
