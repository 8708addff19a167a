-- What a form means: a kernel term, or the first error. Each word below goes through its parts from left to
-- right, and says where a `recur` in them may go back to.
use Rattle.std.specs.Prelude.{ℕ, zero, suc, ◌+◌, List, [], ◌∷◌, ◌++◌, length, map, Option, None, Some, Bool, cond}
use Rattle.std.specs.Str.{bytes_eq}
use Rattle.ca_value.specs.Tree.{Tree, nil}
use Rattle.ca_term.specs.declared.place.Place.{Place}
use Rattle.ca_term.specs.declared.head.Head.{Head}
use Rattle.ca_term.specs.Kernel.{Kernel, Kernels, Bindings, const, var, branch, bind, loop, seq, apply, none, item, empty, binding}
use Rattle.ca_term.specs.View.{kernels_of}
use Rattle.ca_forms.specs.declared.context.Context.{Context}
use Rattle.ca_forms.specs.declared.error.CheckErrorKind.{CheckErrorKind}
use Rattle.ca_forms.specs.Outcome.{Gathered, WalkOutcome, done, refused, after_walk, limited}

-- What is known of a function: its name, how many parameters are written, the numbers of the `def` names that
-- it uses, which each call passes behind the arguments, and whether it is plain.
pub record Signature : Type 0 where
  pub name : List ℕ
  pub arity : ℕ
  pub hidden : List ℕ
  pub plain : Bool

-- Where a form stands: the names in scope, the oldest first; the functions so far; how many values a `recur`
-- takes there, if it may stand there; the kind of text. A name's number is its position in the scope; a name
-- that no script can write is the empty text.
pub record Env : Type 0 where
  pub scope : List (List ℕ)
  pub functions : List Signature
  pub target : Option ℕ
  pub context : Context

abbrev pub Meaning : Type 0
Meaning = Env → Gathered → WalkOutcome Kernel

-- the number of the next name
abbrev pub size : Env → ℕ
size env = length env.scope

-- outside tail position
abbrev pub inner : Env → Env
inner env = record env { target = None }

-- behind one more name
abbrev pub behind_name : List ℕ → Env → Env
behind_name x env = record env { scope = env.scope ++ x ∷ [] }

-- the last position from i on at which x stands
abbrev pub last_position : List ℕ → List (List ℕ) → ℕ → Option ℕ → Option ℕ
last_position x [] i best = best
last_position x (y ∷ ys) i best = last_position x ys (suc i) (cond (bytes_eq x y) (Some i) best)

-- the number of the innermost name x
abbrev pub lookup : List ℕ → List (List ℕ) → Option ℕ
lookup x scope = last_position x scope 0 None

abbrev pub fail_with : CheckErrorKind → Place → Meaning
fail_with e p env s = refused e p

abbrev pub constant_value : Tree → Meaning
constant_value v env s = done (const v) s

abbrev pub nothing : Meaning
nothing = constant_value nil

abbrev pub local_name : ℕ → Meaning
local_name n env s = done (var n) s

abbrev pub iff : Meaning → Meaning → Meaning → Meaning
iff c a b env s = after_walk (c (inner env) s) (λ t s. after_walk (a env s) (λ u s. after_walk (b env s) (λ v s. limited (branch t u v) s)))

-- the same with the branches in the other order: a is done where c is nil or false
abbrev pub unless : Meaning → Meaning → Meaning → Meaning
unless c a b env s = after_walk (c (inner env) s) (λ t s. after_walk (a env s) (λ u s. after_walk (b env s) (λ v s. limited (branch t v u) s)))

-- where a part stands behind which so many others come
abbrev pub before_others : ℕ → Env → Env
before_others zero env = env
before_others (suc n) env = inner env

-- all of them; the last one stands where the whole stands
abbrev pub means_in_order : List Meaning → Env → Gathered → WalkOutcome Kernels
means_in_order [] env s = done none s
means_in_order (m ∷ ms) env s =
    after_walk (m (before_others (length ms) env) s) (λ t s. after_walk (means_in_order ms env s) (λ ts s. done (item t ts) s))

-- operands, and what is then done with them
abbrev pub operation : Head → List Meaning → Place → Meaning
operation h ms p env s = after_walk (means_in_order ms (inner env) s) (λ ts s. limited (apply h ts p) s)

-- a body: a Do; nil where it is empty
abbrev pub block : List Meaning → Meaning
block [] = nothing
block (m ∷ ms) = λ env s. after_walk (means_in_order (m ∷ ms) env s) (λ ts s. limited (seq ts) s)

-- a name, and what gives its value
pub record Named : Type 0 where
  pub name : List ℕ
  pub means : Meaning

abbrev pub unnamed : Meaning → Named
unnamed m = record { name = []; means = m }

-- bindings in order, each in scope of those behind it
abbrev pub binds : List Named → Env → Gathered → WalkOutcome Bindings
binds [] env s = done empty s
binds (b ∷ bs) env s =
    after_walk (b.means (inner env) s) (λ t s. after_walk (binds bs (behind_name b.name env) s) (λ ts s. done (binding (size env) t ts) s))

abbrev pub behind : List Named → Env → Env
behind bs env = record env { scope = env.scope ++ map (λ b. b.name) bs }

abbrev pub lets : List Named → Meaning → Meaning
lets bs body env s = after_walk (binds bs env s) (λ ts s. after_walk (body (behind bs env) s) (λ u s. limited (bind ts u) s))

-- a `recur` in tail position of the body takes a value for each name
abbrev pub loops : List Named → Meaning → Meaning
loops bs body env s =
    after_walk (binds bs env s) (λ ts s. after_walk (body (record (behind bs env) { target = Some (length bs) }) s) (λ u s. limited (loop [] ts u) s))

-- (let [x e] body)
abbrev pub name_as : List ℕ → Meaning → Meaning → Meaning
name_as x e body = lets (record { name = x; means = e } ∷ []) body

-- (let [h e] (k h)), h being a name that no script can write
abbrev pub hide : Meaning → (ℕ → Meaning) → Meaning
hide e k env = name_as [] e (block (k (size env) ∷ [])) env

-- these terms, bound to the numbers from n on
abbrev pub numbered : ℕ → List Kernel → Bindings
numbered n [] = empty
numbered n (t ∷ ts) = binding n t (numbered (suc n) ts)

abbrev pub bindings_joined : Bindings → Bindings → Bindings
bindings_joined empty cs = cs
bindings_joined (binding n t bs) cs = binding n t (bindings_joined bs cs)

-- A Let of these operands under hidden names, then of the further terms under hidden names, and a body. The
-- terms are small and fixed: they know the number of the first hidden name.
abbrev pub hiding : List Meaning → (ℕ → List Kernel) → (ℕ → List Kernel) → Meaning
hiding ms more body env s = after_walk (binds (map unnamed ms) env s) (λ bs s.
    limited (bind (bindings_joined bs (numbered (size env + length ms) (more (size env)))) (seq (kernels_of (body (size env))))) s)
