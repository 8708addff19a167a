-- What stands at top level: `def`, `defn` and expressions, one after the other.
use Rattle.std.specs.Prelude.{ℕ, zero, suc, ◌+◌, List, [], ◌∷◌, ◌++◌, length, map, Option, None, Some, Bool, true, false, cond, ◌==◌, ◌&&◌, ◌||◌, nat_lt, nat_eq, slice_get}
use Rattle.std.specs.Option.{option_map_or}
use Rattle.std.specs.List.{list_any}
use Rattle.std.specs.Str.{bytes_eq}
use Rattle.ca_term.specs.declared.place.Place.{Place}
use Rattle.ca_term.specs.Kernel.{Kernel, Bindings, binding}
use Rattle.ca_term.specs.Program.{ProcedureView}
use Rattle.ca_reader.specs.declared.form.Bracket.TheVariants.{Round, Square}
use Rattle.ca_reader.specs.Form.{FormTree, FormTrees, form, atom, group, none, item, symbol, text}
use Rattle.ca_forms.specs.declared.context.Context.TheVariants.{Main, Function}
use Rattle.ca_forms.specs.declared.special.Special.{Special}
use Rattle.ca_forms.specs.declared.error.CheckErrorKind.TheVariants.{Redefined, BadForm, TooMany}
use Rattle.ca_forms.specs.Depth.{kernel_depth}
use Rattle.ca_forms.specs.Uses.{uses, aims_out, is_plain}
use Rattle.ca_forms.specs.Outcome.{Gathered, WalkOutcome, done, refused, after_walk}
use Rattle.ca_forms.specs.Words.{special}
use Rattle.ca_forms.specs.Meaning.{Meaning, Env, Signature, Named, local_name, loops, block}
use Rattle.ca_forms.specs.Binders.{Part, Binder, one, many, binder, counted, whole_name, unpacked, is_odd}
use Rattle.ca_forms.specs.Plain.{meanings}
use Rattle.ca_forms.specs.Names.{is_known, written_text}
use Rattle.ca_forms.specs.Walk.{walk, walked_parts}

-- What the top-level forms so far have given: the names of the main text, the functions with their texts, and
-- how many `def` and `defn` forms there were.
pub record Tops : Type 0 where
  pub scope : List (List ℕ)
  pub functions : List Signature
  pub procedures : List ProcedureView
  pub defined : ℕ

-- A function as it is written: its name, its parameters, the text before them, if any, and its body.
pub record Written : Type 0 where
  pub name : List ℕ
  pub parameters : List Binder
  pub note : Option (List ℕ × Place)
  pub body : Meaning

pub data Top : Type 0 where
  definition : List ℕ → Meaning → Top
  function : Written → Top
  expression : Meaning → Top
  wrong : Top

-- a name that `def` and `defn` can give; whether it is taken is judged later
abbrev pub top_name : FormTree → Option (List ℕ)
top_name (form (atom (symbol s)) p) = cond (is_odd s) None (Some s)
top_name (form s p) = None

abbrev pub definition_of : Option (List ℕ) → Meaning → Top
definition_of None m = wrong
definition_of (Some x) m = definition x m

-- (def x e)
abbrev pub def_top : List Part → Top
def_top (x ∷ e ∷ []) = definition_of (top_name x.form) e.means
def_top ps = wrong

abbrev pub with_binder : Option Binder → Option (List Binder) → Option (List Binder)
with_binder None r = None
with_binder (Some b) None = None
with_binder (Some b) (Some bs) = Some (b ∷ bs)

abbrev pub binders_in : FormTrees → Option (List Binder)
binders_in none = Some []
binders_in (item f fs) = with_binder (binder f) (binders_in fs)

abbrev pub parameters_in : FormTree → Option (List Binder)
parameters_in (form (group Square fs) p) = binders_in fs
parameters_in (form s p) = None

abbrev pub function_top : Option (List ℕ) → Option (List Binder) → Option (List ℕ × Place) → List Part → Top
function_top (Some f) (Some bs) n es = function (record { name = f; parameters = bs; note = n; body = block (meanings es) })
function_top x bs n es = wrong

-- the text that stands before the parameters of a function
abbrev pub note_in : FormTree → Option (List ℕ × Place)
note_in (form (atom (text s)) p) = Some (s, p)
note_in (form s p) = None

-- behind the name, where the first part may be such a text
abbrev pub defn_behind : Option (List ℕ) → Option (List ℕ × Place) → Part → List Part → Top
defn_behind f None a es = function_top f (parameters_in a.form) None es
defn_behind f (Some n) a [] = wrong
defn_behind f (Some n) a (b ∷ es) = function_top f (parameters_in b.form) (Some n) es

-- (defn f [p ..] e ..), (defn f "text" [p ..] e ..)
abbrev pub defn_top : List Part → Top
defn_top (f ∷ a ∷ es) = defn_behind (top_name f.form) (note_in a.form) a es
defn_top ps = wrong

abbrev pub word_at_head : List Part → Option Special
word_at_head [] = None
word_at_head (h ∷ ps) = word_of h.form where
  word_of : FormTree → Option Special
  word_of (form (atom (symbol s)) q) = special s
  word_of (form s q) = None

abbrev pub behind_head : List Part → List Part
behind_head [] = []
behind_head (h ∷ ps) = ps

abbrev pub list_top : Option Special → List Part → Meaning → Top
list_top (Some Special.Def) ps m = def_top ps
list_top (Some Special.Defn) ps m = defn_top ps
list_top k ps m = expression m

-- the parts of a list
abbrev pub list_parts : FormTree → List Part
list_parts (form (group Round fs) p) = walked_parts fs
list_parts (form s p) = []

abbrev pub top : FormTree → Top
top f = list_top (word_at_head (list_parts f)) (behind_head (list_parts f)) (walk f)

abbrev pub is_defining : Option Special → Bool
is_defining (Some Special.Def) = true
is_defining (Some Special.Defn) = true
is_defining k = false

-- the name of a form, a builtin, a function or an earlier `def`
abbrev pub is_taken : List ℕ → Tops → Bool
is_taken x t = is_known x t.functions || list_any (λ y. bytes_eq x y) t.scope

abbrev pub main_env : Tops → Env
main_env t = record { scope = t.scope; functions = t.functions; target = None; context = Main }

-- the numbers of these names, the first one being n
abbrev pub numbers : ℕ → List (List ℕ) → List ℕ
numbers n [] = []
numbers n (x ∷ xs) = n ∷ numbers (suc n) xs

-- each name again, with the value that it has
abbrev pub same_names : ℕ → List (List ℕ) → List Named
same_names n [] = []
same_names n (x ∷ xs) = record { name = x; means = local_name n } ∷ same_names (suc n) xs

abbrev pub names_of : List Binder → List (List ℕ)
names_of bs = map whole_name bs

-- a pattern among the parameters has at most 4,096 names
abbrev pub counted_patterns : List Binder → Meaning → Meaning
counted_patterns [] m = m
counted_patterns (one x ∷ bs) m = counted_patterns bs m
counted_patterns (many xs q ∷ bs) m = counted (length xs) q (counted_patterns bs m)

abbrev pub noted_text : Option (List ℕ × Place) → Meaning → Meaning
noted_text None m = m
noted_text (Some n) m = written_text n.0 n.1 m

-- the text before the parameters, the parameters, and then the body
abbrev pub judged_body : Written → Meaning → Meaning
judged_body f m = noted_text f.note (counted_patterns f.parameters m)

-- the body over parameters whose numbers begin at n
abbrev pub over_parameters : Written → Place → ℕ → Meaning
over_parameters f p n = unpacked p n f.parameters f.body

-- the body by itself; a `recur` aims at the function where there is a target
abbrev pub straight : Option ℕ → Written → Place → Meaning
straight target f p env =
    over_parameters f p (length env.scope) (record env { scope = env.scope ++ names_of f.parameters; target = target })

-- the body in a loop over the parameters
abbrev pub looped : Written → Place → Meaning
looped f p env = loops (same_names (length env.scope) (names_of f.parameters))
    (over_parameters f p (length env.scope + length f.parameters)) (record env { scope = env.scope ++ names_of f.parameters })

-- in a loop where a `recur` aims at the function
abbrev pub body_of : Bool → Written → Place → Meaning
body_of true f p = looped f p
body_of false f p = straight None f p

-- what is known of the function while its own body is walked: with its hidden parameters, and not as a plain one,
-- since a function that hands itself to a system task isn't
abbrev pub signature : Written → List ℕ → Bool → Signature
signature f hidden plain = record { name = f.name; arity = length f.parameters; hidden = hidden; plain = plain }

abbrev pub function_env : Signature → Tops → Env
function_env f t = record { scope = t.scope; functions = t.functions ++ f ∷ []; target = None; context = Function }

-- the function of that number is plain, the one with the number `own` taken to be so
abbrev pub plain_with : ℕ → List Signature → ℕ → Bool
plain_with own fs n = n == own || option_map_or (λ f. f.plain) (slice_get fs n) false

abbrev pub is_empty : {A : Type 0} → List A → Bool
is_empty [] = true
is_empty (x ∷ xs) = false

-- A call passes the hidden names behind the arguments, so the parameters stand in that order.
abbrev pub with_function : Written → List ℕ → Kernel → Tops → Tops
with_function f hidden body t = record t {
  functions = t.functions ++ signature f hidden (is_empty hidden && is_plain (plain_with (length t.functions) t.functions) body) ∷ [];
  procedures = t.procedures ++ record { parameters = numbers (length t.scope) (names_of f.parameters) ++ hidden; body = body } ∷ [];
  defined = suc t.defined;
}

-- the body of a function, and its hidden parameters: the numbers of the `def` names that it uses, its calls included
pub record Settled : Type 0 where
  pub body : Kernel
  pub hidden : List ℕ

-- The body is walked, its calls of itself passing the names that it uses, until no further name comes up. There are
-- at most 64 of them, and each walk but the last adds one, so 66 walks are enough. (A call of itself brings no new
-- name, so one is; nothing hangs on that.)
abbrev pub body_settled : ℕ → Bool → List ℕ → Written → Place → Tops → Gathered → WalkOutcome Settled
body_settled zero looping hidden f p t s = refused TooMany p
body_settled (suc n) looping hidden f p t s = after_walk (body_of looping f p (function_env (signature f hidden false) t) s) (λ body s2.
    let used : List ℕ = uses (length t.scope) body hidden in
    cond (nat_lt 64 (length used)) (refused TooMany p)
    (cond (nat_eq (length used) (length hidden)) (done (record { body = body; hidden = hidden }) s2) (body_settled n looping used f p t s)))

-- A first walk meets each error, and tells which `def` names the body uses and whether a `recur` aims at the
-- function; a body in which a term was too deep is told by the mark. A body is at most 60 deep.
abbrev pub add_function : Written → Place → Tops → Gathered → WalkOutcome Tops
add_function f p t s = after_walk (judged_body f (straight (Some (length f.parameters)) f p) (function_env (signature f [] false) t) s) (λ first s1.
    cond s1.deep (refused TooMany p) (after_walk (body_settled 66 (aims_out first) (uses (length t.scope) first []) f p t s) (λ r s2.
    cond (nat_lt 60 (kernel_depth r.body)) (refused TooMany p) (done (with_function f r.hidden r.body t) s2))))

-- nothing at the top-level form at p was too deep
abbrev pub shallow : Place → Tops → Gathered → WalkOutcome Tops
shallow p t s = cond s.deep (refused TooMany p) (done t s)

-- what the rest of the script gives behind a form: the bindings of the main text, and the functions
pub record Ended : Type 0 where
  pub bindings : Bindings
  pub tops : Tops

abbrev pub bound_before : ℕ → Kernel → WalkOutcome Ended → WalkOutcome Ended
bound_before n t o = after_walk o (λ r s. done (record r { bindings = binding n t r.bindings }) s)

-- The form's value gets the name x. The term stands in the main text's Let, so it is at most 399 deep.
abbrev pub bound_top : List ℕ → Meaning → ℕ → Place → (Tops → Gathered → WalkOutcome Ended) → Tops → Gathered → WalkOutcome Ended
bound_top x m defined p rest t s = after_walk (m (main_env t) s) (λ u s2.
    cond (s2.deep || nat_lt 399 (kernel_depth u)) (refused TooMany p)
    (bound_before (length t.scope) u (rest (record t { scope = t.scope ++ x ∷ []; defined = t.defined + defined }) s2)))

-- at most 16 parameters
abbrev pub one_top : Top → Place → (Tops → Gathered → WalkOutcome Ended) → Tops → Gathered → WalkOutcome Ended
one_top wrong p rest t s = refused BadForm p
one_top (definition x m) p rest t s = cond (is_taken x t) (refused Redefined p) (bound_top x m 1 p rest t s)
one_top (expression m) p rest t s = bound_top [] m 0 p rest t s
one_top (function f) p rest t s = cond (is_taken f.name t) (refused Redefined p)
    (cond (nat_lt 16 (length f.parameters)) (refused TooMany p)
    (after_walk (add_function f p t s) (λ t2 s2. after_walk (shallow p t2 s2) rest)))

-- The form is past a count: the 4,097th at top level, the 1,025th `def` or `defn`, or a list of more than 4,096
-- items.
abbrev pub is_past : ℕ → FormTree → Tops → Bool
is_past i f t = nat_lt 4095 i || (is_defining (word_at_head (list_parts f)) && nat_lt 1023 t.defined) || nat_lt 4096 (length (list_parts f))
