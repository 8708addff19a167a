-- What the code does to operands that were walked.
use Rattle.std.specs.Prelude.{ℕ, List, [], ◌∷◌}
use Rattle.ca_term.specs.Kernel.{Kernel, Kernels, var, none, item}

-- the terms, and the names behind them
abbrev pub with_vars : Kernels → List ℕ → Kernels
with_vars (item t ts) ns = item t (with_vars ts ns)
with_vars none [] = none
with_vars none (n ∷ ns) = item (var n) (with_vars none ns)

-- the terms with another in second place
abbrev pub with_second : Kernels → Kernel → Kernels
with_second none k = none
with_second (item t ts) k = item t (item k ts)

-- the terms, and one more behind them
abbrev pub with_last_term : Kernels → Kernel → Kernels
with_last_term none k = item k none
with_last_term (item t ts) k = item t (with_last_term ts k)
