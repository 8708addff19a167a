-- What the go form of a take comes to, wherever its three hidden names are bound and `<` and `inc` are not shadowed.
use Rattle.std.specs.Prelude.{◌≡◌, ◌≢◌, ℕ, suc, pos, ◌<◌, [], ◌∷◌, ◌++◌, length, Some, None, codes, slice_set}
use Rattle.ca_value.specs.Tree.{Tree, int, nil, port}
use Rattle.ca_value.specs.declared.builtin.Builtin.TheVariants.{Less, IsSome, IsNil, Inc}
use Rattle.ca_term.specs.declared.place.Place.{Place}
use Rattle.ca_term.specs.declared.head.Head.TheVariants.{Recur, Take, Put, Close, Post}
use Rattle.ca_term.specs.Kernel.{Kernel, const, var, branch, loop, apply, empty, binding}
use Rattle.ca_term.specs.View.{kernels_of}
use Rattle.ca_forms.specs.Meaning.{Env, lookup, size}
use Rattle.ca_forms.specs.Names.{find_function}
use Rattle.ca_forms.specs.Outcome.{Gathered, done}
use Rattle.ca_forms.specs.Go.{go_spawned, unmade}
use Rattle.ca_forms.specs.Walk.{walk}
use Rattle.ca_meaning.specs.Started.{started}
use Rattle.ca_derived.specs.Rows.{task_of_take}
use Rattle.ca_derived_laws.specs.TakeTask.{take_text, does, called_builtin, let_name}

-- the names of a take's go form are bound to these numbers, and the builtins that it uses are not shadowed
pub record TakeNamesBound (env : Env) (b c o : ℕ) : Type 0 where
  pub bound : lookup (codes "#bound") env.scope ≡ Some b
  pub channel : lookup (codes "#channel") env.scope ≡ Some c
  pub out : lookup (codes "#out") env.scope ≡ Some o
  pub less : lookup (codes "<") env.scope ≡ None
  pub inc : lookup (codes "inc") env.scope ≡ None
  pub less_free : find_function (codes "<") env.functions 0 ≡ None
  pub inc_free : find_function (codes "inc") env.functions 0 ≡ None

-- the go block's text over these names, the next number being m
abbrev pub take_text_over : ℕ → ℕ → ℕ → ℕ → ℕ → Place → Kernel
take_text_over m b c o r p = let_name m
    (does (loop [] (binding m (const (int (pos 0))) empty)
    (does (branch (called_builtin Less (var m ∷ var b ∷ []) p)
    (does (let_name (suc m) (apply Take (kernels_of (var c ∷ [])) p)
    (does (branch (called_builtin IsSome (var (suc m) ∷ []) p)
    (let_name (suc (suc m)) (var (suc m)) (does (does (apply Put (kernels_of (var o ∷ var (suc (suc m)) ∷ [])) p ∷ apply Recur (kernels_of (called_builtin Inc (var m ∷ []) p ∷ [])) p ∷ []) ∷ [])))
    (const nil) ∷ [])) ∷ []))
    (const nil) ∷ []))
    ∷ apply Close (kernels_of (var o ∷ [])) p ∷ []))
    (does (branch (called_builtin IsNil (var m ∷ []) p) (const nil) (apply Post (kernels_of (var r ∷ var m ∷ [])) p) ∷ apply Close (kernels_of (var r ∷ [])) p ∷ []))

-- the values put in make the text of the law
abbrev pub TextsStart : Type 0
TextsStart = (m b c o r : ℕ) (p : Place) (vb vc vo : Tree) (q : ℕ) → b < m → c < m → o < m → r < m → b ≢ c → b ≢ o → c ≢ o → b ≢ r → c ≢ r → o ≢ r
    → started (record { parameters = b ∷ c ∷ o ∷ r ∷ []; body = take_text_over m b c o r p }) (vb ∷ vc ∷ vo ∷ port q ∷ [])
    ≡ take_text (record { first = m; bound = vb; source = vc; target = vo; result = q; place = p })

abbrev pub TakesWalked : Type 0
TakesWalked = (env : Env) (s : Gathered) (p : Place) (b c o : ℕ) → TakeNamesBound env b c o → b < size env → c < size env → o < size env → b ≢ c → b ≢ o → c ≢ o
    → walk (task_of_take p) env s
    ≡ done (go_spawned (length s.bodies) (size env) (b ∷ c ∷ o ∷ []) p)
    (record s { bodies = slice_set (s.bodies ++ unmade ∷ []) (length s.bodies) (record { parameters = b ∷ c ∷ o ∷ size env ∷ []; body = take_text_over (suc (size env)) b c o (size env) p }) })

-- the names that a take's let binds, in order
abbrev pub behind_take_let : Env → Env
behind_take_let env = record env { scope = ((env.scope ++ codes "#bound" ∷ []) ++ codes "#channel" ∷ []) ++ codes "#out" ∷ [] }

-- behind that let, wherever `<` and `inc` are not shadowed, they are bound so
abbrev pub TakeBinds : Type 0
TakeBinds = (env : Env) → lookup (codes "<") env.scope ≡ None → lookup (codes "inc") env.scope ≡ None → find_function (codes "<") env.functions 0 ≡ None → find_function (codes "inc") env.functions 0 ≡ None
    → TakeNamesBound (behind_take_let env) (size env) (suc (size env)) (suc (suc (size env)))
