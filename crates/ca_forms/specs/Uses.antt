-- Which names a term uses from outside, and which a `recur` in it goes back to.
use Rattle.std.specs.Prelude.{◌≡◌, ℕ, List, [], ◌∷◌, ◌++◌, Bool, true, false, cond, ◌&&◌, ◌||◌, not, ◌==◌, nat_lt}
use Rattle.ca_term.specs.declared.head.Head.{Head}
use Rattle.ca_term.specs.declared.head.Head.TheVariants.{Recur, Builtin, Call}
use Rattle.ca_term.specs.Program.{ProcedureView}
use Rattle.ca_term.specs.Kernel.{Kernel, Kernels, Bindings, const, var, branch, bind, loop, seq, frame, turn, apply, none, item, empty, binding}

abbrev pub is_name_among : ℕ → List ℕ → Bool
is_name_among n [] = false
is_name_among n (m ∷ ms) = n == m || is_name_among n ms

-- the names seen, and m if it is one below n that wasn't seen
abbrev pub name_noted : ℕ → ℕ → List ℕ → List ℕ
name_noted n m seen = cond (nat_lt m n && not (is_name_among m seen)) (seen ++ m ∷ []) seen

-- the names below n that a term uses, behind those seen before, in order of first use
abbrev mutual
  pub uses : ℕ → Kernel → List ℕ → List ℕ
  uses n (const v) seen = seen
  uses n (var m) seen = name_noted n m seen
  uses n (branch c a b) seen = uses n b (uses n a (uses n c seen))
  uses n (bind bs body) seen = uses n body (uses_bindings n bs seen)
  uses n (loop fs bs body) seen = uses n body (uses_bindings n bs seen)
  uses n (seq ts) seen = uses_items n ts seen
  uses n (frame body) seen = seen
  uses n (turn names text now) seen = seen
  uses n (apply h ts p) seen = uses_items n ts seen

  pub uses_items : ℕ → Kernels → List ℕ → List ℕ
  uses_items n none seen = seen
  uses_items n (item t ts) seen = uses_items n ts (uses n t seen)

  pub uses_bindings : ℕ → Bindings → List ℕ → List ℕ
  uses_bindings n empty seen = seen
  uses_bindings n (binding m t bs) seen = uses_bindings n bs (uses n t seen)

abbrev pub is_recur : Head → Bool
is_recur Recur = true
is_recur h = false

-- a `recur` in tail position goes back past the term
abbrev mutual
  pub aims_out : Kernel → Bool
  aims_out (const v) = false
  aims_out (var n) = false
  aims_out (branch c a b) = aims_out a || aims_out b
  aims_out (bind bs body) = aims_out body
  aims_out (loop fs bs body) = false
  aims_out (seq ts) = last_aims_out ts
  aims_out (frame body) = false
  aims_out (turn names text now) = false
  aims_out (apply h ts p) = is_recur h

  pub last_aims_out : Kernels → Bool
  last_aims_out none = false
  last_aims_out (item t none) = aims_out t
  last_aims_out (item t (item u us)) = last_aims_out (item u us)

-- no operation, and no call of a function that isn't plain
abbrev pub is_plain_head : (ℕ → Bool) → Head → Bool
is_plain_head plain Recur = true
is_plain_head plain (Builtin b) = true
is_plain_head plain (Call n) = plain n
is_plain_head plain h = false

abbrev mutual
  pub is_plain : (ℕ → Bool) → Kernel → Bool
  is_plain plain (const v) = true
  is_plain plain (var n) = true
  is_plain plain (branch c a b) = is_plain plain c && is_plain plain a && is_plain plain b
  is_plain plain (bind bs body) = are_plain_bindings plain bs && is_plain plain body
  is_plain plain (loop fs bs body) = are_plain_bindings plain bs && is_plain plain body
  is_plain plain (seq ts) = are_plain plain ts
  is_plain plain (frame body) = is_plain plain body
  is_plain plain (turn names text now) = is_plain plain text && is_plain plain now
  is_plain plain (apply h ts p) = is_plain_head plain h && are_plain plain ts

  pub are_plain : (ℕ → Bool) → Kernels → Bool
  are_plain plain none = true
  are_plain plain (item t ts) = is_plain plain t && are_plain plain ts

  pub are_plain_bindings : (ℕ → Bool) → Bindings → Bool
  are_plain_bindings plain empty = true
  are_plain_bindings plain (binding n t bs) = is_plain plain t && are_plain_bindings plain bs

-- A go body's parameters are the names that it uses from outside, in order of first use, and its result port, which
-- is the first name of its own.
abbrev pub IsGoBody : ProcedureView → Type 0
IsGoBody b = (r : ℕ) × (b.parameters ≡ uses r b.body [] ++ r ∷ [])
