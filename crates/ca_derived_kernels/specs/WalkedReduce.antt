-- What the task of a reduce comes to, wherever its two hidden names are bound, `nil?` isn't shadowed, and its function
-- is a builtin or a function of two parameters that uses no `def` name.
use Rattle.std.specs.Prelude.{◌≡◌, ◌≢◌, ℕ, suc, ◌<◌, List, [], ◌∷◌, ◌++◌, length, Some, None, false, true, codes, slice_set}
use Rattle.std.specs.Str.{bytes_eq}
use Rattle.ca_value.specs.Tree.{Tree, nil, port}
use Rattle.ca_value.specs.Builtins.{admits_arguments}
use Rattle.ca_value.specs.declared.builtin.Builtin.{Builtin as BuiltinName}
use Rattle.ca_value.specs.declared.builtin.Builtin.TheVariants.{IsNil}
use Rattle.ca_term.specs.declared.place.Place.{Place}
use Rattle.ca_term.specs.declared.head.Head.{Head}
use Rattle.ca_term.specs.declared.head.Head.TheVariants.{Recur, Builtin, Call, Take, Close, Post}
use Rattle.ca_term.specs.Kernel.{Kernel, const, var, branch, loop, apply, empty, binding}
use Rattle.ca_term.specs.View.{kernels_of}
use Rattle.ca_reader.specs.Form.{form, atom, symbol}
use Rattle.ca_forms.specs.Words.{special, builtin}
use Rattle.ca_forms.specs.Meaning.{Env, Signature, lookup, size}
use Rattle.ca_forms.specs.Names.{find_function}
use Rattle.ca_forms.specs.Outcome.{Gathered, done}
use Rattle.ca_forms.specs.Go.{go_spawned, unmade}
use Rattle.ca_forms.specs.Walk.{walk}
use Rattle.ca_meaning.specs.Started.{started}
use Rattle.ca_derived.specs.Rows.{reducing}
use Rattle.ca_derived_laws.specs.TakeTask.{does, called_builtin, let_name}
use Rattle.ca_derived_laws.specs.ReduceTask.{reduce_text}

-- the symbol s names this head for two values
pub data NamesHead (env : Env) (s : List ℕ) (f : Head) : Type 0 where
  a_builtin : (b : BuiltinName) → f ≡ Builtin b → find_function s env.functions 0 ≡ None → builtin s ≡ Some b → admits_arguments b 2 ≡ true → NamesHead env s f
  a_function : (n : ℕ) (g : Signature) → f ≡ Call n → find_function s env.functions 0 ≡ Some (n, g) → g.arity ≡ 2 → g.hidden ≡ [] → NamesHead env s f

pub record BoundReduce (env : Env) (s : List ℕ) (f : Head) (i c : ℕ) : Type 0 where
  pub initial : lookup (codes "#initial") env.scope ≡ Some i
  pub channel : lookup (codes "#channel") env.scope ≡ Some c
  pub is_nil : lookup (codes "nil?") env.scope ≡ None
  pub is_nil_free : find_function (codes "nil?") env.functions 0 ≡ None
  pub plain : lookup s env.scope ≡ None
  pub no_form : special s ≡ None
  pub written : bytes_eq s [] ≡ false
  pub no_result : bytes_eq s (codes "#result") ≡ false
  pub no_value : bytes_eq s (codes "#value") ≡ false
  pub names : NamesHead env s f

abbrev pub reduce_text_over : Head → ℕ → ℕ → ℕ → ℕ → Place → Kernel
reduce_text_over f m i c r p = let_name m
    (does (loop [] (binding m (var i) empty)
    (does (let_name (suc m) (apply Take (kernels_of (var c ∷ [])) p)
    (does (branch (called_builtin IsNil (var (suc m) ∷ []) p) (var m) (apply Recur (kernels_of (apply f (kernels_of (var m ∷ var (suc m) ∷ [])) p ∷ [])) p) ∷ [])) ∷ [])) ∷ []))
    (does (branch (called_builtin IsNil (var m ∷ []) p) (const nil) (apply Post (kernels_of (var r ∷ var m ∷ [])) p) ∷ apply Close (kernels_of (var r ∷ [])) p ∷ []))

abbrev pub ReduceStarts : Type 0
ReduceStarts = (f : Head) (m i c r : ℕ) (p : Place) (vi vc : Tree) (q : ℕ) → i < m → c < m → r < m → i ≢ c → i ≢ r → c ≢ r
    → started (record { parameters = i ∷ c ∷ r ∷ []; body = reduce_text_over f m i c r p }) (vi ∷ vc ∷ port q ∷ [])
    ≡ reduce_text (record { first = m; function = f; initial = vi; source = vc; result = q; place = p })

abbrev pub ReduceWalked : Type 0
ReduceWalked = (env : Env) (s : List ℕ) (f : Head) (g : Gathered) (p q : Place) (i c : ℕ) → BoundReduce env s f i c → i < size env → c < size env → i ≢ c
    → walk (reducing p (form (atom (symbol s)) q)) env g
    ≡ done (go_spawned (length g.bodies) (size env) (i ∷ c ∷ []) p)
    (record g { bodies = slice_set (g.bodies ++ unmade ∷ []) (length g.bodies) (record { parameters = i ∷ c ∷ size env ∷ []; body = reduce_text_over f (suc (size env)) i c (size env) p }) })

-- the names that a reduce's let binds, in order
abbrev pub behind_reduce_let : Env → Env
behind_reduce_let env = record env { scope = (env.scope ++ codes "#initial" ∷ []) ++ codes "#channel" ∷ [] }

-- a name that a script can write: it doesn't begin with a `#`
abbrev pub IsWritableName : List ℕ → Type 0
IsWritableName s = (h : List ℕ) → bytes_eq s (35 ∷ h) ≡ false

-- behind that let, wherever `nil?` isn't shadowed, they are bound so
abbrev pub ReduceBinds : Type 0
ReduceBinds = (env : Env) (s : List ℕ) (f : Head) → lookup (codes "nil?") env.scope ≡ None → find_function (codes "nil?") env.functions 0 ≡ None
    → lookup s env.scope ≡ None → special s ≡ None → bytes_eq s [] ≡ false → IsWritableName s → NamesHead env s f
    → BoundReduce (behind_reduce_let env) s f (size env) (suc (size env))
