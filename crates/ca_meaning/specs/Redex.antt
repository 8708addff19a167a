-- The direct meaning of a term: the place where it goes on, and the whole term with another there.
-- No term is ever taken apart into pieces that are kept.
use Rattle.std.specs.Prelude.{Bool, true, false, cond, not, ◌&&◌}
use Rattle.ca_term.specs.declared.head.Head.TheVariants.{Recur}
use Rattle.ca_term.specs.Kernel.{Kernel, Kernels, Bindings, const, var, branch, bind, loop, seq, frame, turn, apply, none, item, empty, binding}
pub use Rattle.ca_term.specs.Operands.{value_of, values_of}

abbrev pub is_value : Kernel → Bool
is_value (const v) = true
is_value t = false

abbrev pub all_values : Kernels → Bool
all_values none = true
all_values (item t ts) = is_value t && all_values ts

-- the first binding's term isn't a value yet
abbrev pub is_open : Bindings → Bool
is_open empty = false
is_open (binding n t bs) = not (is_value t)

-- a recur whose operands are values
abbrev pub is_ready_recur : Kernel → Bool
is_ready_recur (apply Recur ts p) = all_values ts
is_ready_recur t = false

-- the redex: the leftmost innermost place that isn't a value. A recur whose operands are values stands
-- directly under its turn, and the redex is that turn.
abbrev mutual
  pub redex : Kernel → Kernel
  redex (const v) = const v
  redex (var n) = var n
  redex (branch c a b) = cond (is_value c) (branch c a b) (redex c)
  redex (bind bs body) = redex_binding bs (bind bs body)
  redex (loop fs bs body) = redex_binding bs (loop fs bs body)
  redex (seq none) = seq none
  redex (seq (item t none)) = seq (item t none)
  redex (seq (item t (item u us))) = cond (is_value t) (seq (item t (item u us))) (redex t)
  redex (frame body) = cond (is_value body) (frame body) (redex body)
  redex (turn ns text now) = cond (is_value now) (turn ns text now) (cond (is_ready_recur now) (turn ns text now) (redex now))
  redex (apply h ts p) = redex_items ts (apply h ts p)

  -- of the first of the terms that isn't a value, or `here` where all are values
  pub redex_items : Kernels → Kernel → Kernel
  redex_items none here = here
  redex_items (item t ts) here = cond (is_value t) (redex_items ts here) (redex t)

  -- of the first binding's term, or `here` where it is a value or there is none
  pub redex_binding : Bindings → Kernel → Kernel
  redex_binding empty here = here
  redex_binding (binding n t bs) here = cond (is_value t) here (redex t)

-- the same whole term with u in place of its redex
abbrev mutual
  pub replace : Kernel → Kernel → Kernel
  replace u (const v) = u
  replace u (var n) = u
  replace u (branch c a b) = cond (is_value c) u (branch (replace u c) a b)
  replace u (bind bs body) = cond (is_open bs) (bind (replace_binding u bs) body) u
  replace u (loop fs bs body) = cond (is_open bs) (loop fs (replace_binding u bs) body) u
  replace u (seq none) = u
  replace u (seq (item t none)) = u
  replace u (seq (item t (item v vs))) = cond (is_value t) u (seq (item (replace u t) (item v vs)))
  replace u (frame body) = cond (is_value body) u (frame (replace u body))
  replace u (turn ns text now) = cond (is_value now) u (cond (is_ready_recur now) u (turn ns text (replace u now)))
  replace u (apply h ts p) = cond (all_values ts) u (apply h (replace_items u ts) p)

  pub replace_items : Kernel → Kernels → Kernels
  replace_items u none = none
  replace_items u (item t ts) = cond (is_value t) (item t (replace_items u ts)) (item (replace u t) ts)

  pub replace_binding : Kernel → Bindings → Bindings
  replace_binding u empty = empty
  replace_binding u (binding n t bs) = binding n (replace u t) bs
