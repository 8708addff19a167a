-- How deep a kernel term is: a leaf has depth 1, any other term one more than its deepest part.
use Rattle.std.specs.Prelude.{ℕ, suc, max}
use Rattle.ca_term.specs.Kernel.{Kernel, Kernels, Bindings, const, var, branch, bind, loop, seq, frame, turn, apply, none, item, empty, binding}

abbrev mutual
  pub kernel_depth : Kernel → ℕ
  kernel_depth (const v) = 1
  kernel_depth (var n) = 1
  kernel_depth (branch c a b) = suc (max (kernel_depth c) (max (kernel_depth a) (kernel_depth b)))
  kernel_depth (bind bs body) = suc (max (depth_of_bindings bs) (kernel_depth body))
  kernel_depth (loop fs bs body) = suc (max (depth_of_bindings bs) (kernel_depth body))
  kernel_depth (seq ts) = suc (kernels_depth ts)
  kernel_depth (frame body) = suc (kernel_depth body)
  kernel_depth (turn names text now) = suc (max (kernel_depth text) (kernel_depth now))
  kernel_depth (apply h ts p) = suc (kernels_depth ts)

  pub kernels_depth : Kernels → ℕ
  kernels_depth none = 0
  kernels_depth (item t ts) = max (kernel_depth t) (kernels_depth ts)

  pub depth_of_bindings : Bindings → ℕ
  depth_of_bindings empty = 0
  depth_of_bindings (binding n t bs) = max (kernel_depth t) (depth_of_bindings bs)
