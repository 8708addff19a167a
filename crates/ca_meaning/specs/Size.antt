-- How many local steps and answers a term can still take at the most, until its next call or recur. A running
-- loop doesn't count the text that it repeats.
use Rattle.std.specs.Prelude.{ℕ, ◌+◌, suc}
use Rattle.ca_term.specs.Kernel.{Kernel, Kernels, Bindings, const, var, branch, bind, loop, seq, frame, turn, apply, none, item, empty, binding}

abbrev mutual
  pub size_of : Kernel → ℕ
  size_of (const v) = 1
  size_of (var n) = 1
  size_of (branch c a b) = suc (size_of c + size_of a + size_of b)
  size_of (bind bs body) = suc (size_of_bindings bs + size_of body)
  size_of (loop fs bs body) = suc (suc (size_of_bindings bs + size_of body))
  size_of (seq ts) = suc (suc (size_of_items ts))
  size_of (frame body) = suc (size_of body)
  size_of (turn ns text now) = suc (size_of now)
  size_of (apply h ts p) = suc (suc (size_of_items ts))

  pub size_of_items : Kernels → ℕ
  size_of_items none = 0
  size_of_items (item t ts) = size_of t + size_of_items ts

  pub size_of_bindings : Bindings → ℕ
  size_of_bindings empty = 0
  size_of_bindings (binding n t bs) = size_of t + size_of_bindings bs
