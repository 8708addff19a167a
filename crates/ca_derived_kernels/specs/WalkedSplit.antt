-- What the task of a split comes to, wherever its three hidden names are bound, `nil?` isn't shadowed, and its function
-- is a keyword, a builtin of one value or a function of one parameter that uses no `def` name.
use Rattle.std.specs.Prelude.{◌≡◌, ◌≢◌, ℕ, suc, ◌<◌, List, [], ◌∷◌, ◌++◌, length, Option, Some, None, false, true, codes, slice_set, nat_lt}
use Rattle.std.specs.Str.{bytes_eq}
use Rattle.ca_value.specs.Tree.{Tree, nil, port, key}
use Rattle.ca_value.specs.Builtins.{admits_arguments}
use Rattle.ca_value.specs.declared.builtin.Builtin.{Builtin as BuiltinName}
use Rattle.ca_value.specs.declared.builtin.Builtin.TheVariants.{IsNil, Get}
use Rattle.ca_term.specs.declared.place.Place.{Place}
use Rattle.ca_term.specs.declared.head.Head.{Head}
use Rattle.ca_term.specs.declared.head.Head.TheVariants.{Recur, Builtin, Call, Take, Put, Close, Post}
use Rattle.ca_term.specs.Kernel.{Kernel, const, var, branch, loop, apply, empty, none as no_terms, item as term}
use Rattle.ca_term.specs.View.{kernels_of}
use Rattle.ca_reader.specs.Form.{FormTree, form, atom, symbol, key as keyword}
use Rattle.ca_forms.specs.Words.{special, builtin}
use Rattle.ca_forms.specs.Meaning.{Env, Signature, lookup, size}
use Rattle.ca_forms.specs.Names.{find_function}
use Rattle.ca_forms.specs.Outcome.{Gathered, done}
use Rattle.ca_forms.specs.Go.{go_spawned, unmade}
use Rattle.ca_forms.specs.Walk.{walk}
use Rattle.ca_meaning.specs.Started.{started}
use Rattle.ca_derived.specs.Rows.{parting}
use Rattle.ca_derived_laws.specs.TakeTask.{does, called_builtin, let_name}
use Rattle.ca_derived_laws.specs.SplitTask.{operands, split_text}
use Rattle.ca_derived_kernels.specs.WalkedReduce.{IsWritableName}

-- the symbol s stands for something that no local has
pub record IsFreeName (env : Env) (s : List ℕ) : Type 0 where
  pub plain : lookup s env.scope ≡ None
  pub no_form : special s ≡ None
  pub written : bytes_eq s [] ≡ false
  pub no_value : bytes_eq s (codes "#value") ≡ false

-- the form is applied to one value by this head, with a further operand
pub data Tests (env : Env) (q : FormTree) (f : Head) (o : Option Tree) : Type 0 where
  by_builtin : (s : List ℕ) (p : Place) (b : BuiltinName) → q ≡ form (atom (symbol s)) p → f ≡ Builtin b → o ≡ None → IsFreeName env s → find_function s env.functions 0 ≡ None → builtin s ≡ Some b → admits_arguments b 1 ≡ true → Tests env q f o
  by_function : (s : List ℕ) (p : Place) (n : ℕ) (g : Signature) → q ≡ form (atom (symbol s)) p → f ≡ Call n → o ≡ None → IsFreeName env s → find_function s env.functions 0 ≡ Some (n, g) → g.arity ≡ 1 → g.hidden ≡ [] → Tests env q f o
  by_keyword : (s : List ℕ) (p : Place) → q ≡ form (atom (keyword s)) p → f ≡ Builtin Get → o ≡ Some (key s) → nat_lt 65535 (length s) ≡ false → Tests env q f o

pub record BoundSplit (env : Env) (q : FormTree) (f : Head) (o : Option Tree) (c t u : ℕ) : Type 0 where
  pub channel : lookup (codes "#channel") env.scope ≡ Some c
  pub yes : lookup (codes "#true") env.scope ≡ Some t
  pub no : lookup (codes "#false") env.scope ≡ Some u
  pub is_nil : lookup (codes "nil?") env.scope ≡ None
  pub is_nil_free : find_function (codes "nil?") env.functions 0 ≡ None
  pub tests : Tests env q f o

abbrev pub split_text_over : Head → Option Tree → ℕ → ℕ → ℕ → ℕ → ℕ → Place → Kernel
split_text_over f o m c t u r p = let_name m
    (does (loop [] empty
    (does (let_name m (apply Take (term (var c) no_terms) p)
    (does (branch (called_builtin IsNil (var m ∷ []) p)
    (does (apply Close (term (var t) no_terms) p ∷ apply Close (term (var u) no_terms) p ∷ []))
    (branch (apply Put (term (branch (apply f (operands o (var m)) p) (var t) (var u)) (term (var m) no_terms)) p) (apply Recur no_terms p) (const nil)) ∷ [])) ∷ [])) ∷ []))
    (does (branch (called_builtin IsNil (var m ∷ []) p) (const nil) (apply Post (kernels_of (var r ∷ var m ∷ [])) p) ∷ apply Close (term (var r) no_terms) p ∷ []))

abbrev pub SplitStarts : Type 0
SplitStarts = (f : Head) (o : Option Tree) (m c t u r : ℕ) (p : Place) (vc vt vu : Tree) (q : ℕ) → c < m → t < m → u < m → r < m → c ≢ t → c ≢ u → t ≢ u → c ≢ r → t ≢ r → u ≢ r
    → started (record { parameters = c ∷ t ∷ u ∷ r ∷ []; body = split_text_over f o m c t u r p }) (vc ∷ vt ∷ vu ∷ port q ∷ [])
    ≡ split_text (record { first = m; function = f; further = o; source = vc; yes = vt; no = vu; result = q; place = p })

abbrev pub SplitWalked : Type 0
SplitWalked = (env : Env) (q : FormTree) (f : Head) (o : Option Tree) (g : Gathered) (p : Place) (c t u : ℕ) → BoundSplit env q f o c t u → c < size env → t < size env → u < size env → c ≢ t → c ≢ u → t ≢ u
    → walk (parting p q) env g
    ≡ done (go_spawned (length g.bodies) (size env) (c ∷ t ∷ u ∷ []) p)
    (record g { bodies = slice_set (g.bodies ++ unmade ∷ []) (length g.bodies) (record { parameters = c ∷ t ∷ u ∷ size env ∷ []; body = split_text_over f o (suc (size env)) c t u (size env) p }) })

-- the names that a split's let binds, in order
abbrev pub behind_split_let : Env → Env
behind_split_let env = record env { scope = ((env.scope ++ codes "#channel" ∷ []) ++ codes "#true" ∷ []) ++ codes "#false" ∷ [] }

-- behind that let, wherever `nil?` isn't shadowed, they are bound so
abbrev pub SplitBinds : Type 0
SplitBinds = (env : Env) (q : FormTree) (f : Head) (o : Option Tree) → lookup (codes "nil?") env.scope ≡ None → find_function (codes "nil?") env.functions 0 ≡ None
    → ((s : List ℕ) (p : Place) → q ≡ form (atom (symbol s)) p → IsWritableName s) → Tests env q f o
    → BoundSplit (behind_split_let env) q f o (size env) (suc (size env)) (suc (suc (size env)))
