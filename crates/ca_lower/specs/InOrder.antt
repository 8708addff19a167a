-- The rest of several terms in order, of which none may be left.
use Rattle.std.specs.Prelude.{ℕ, Option}
use Rattle.ca_term.specs.Kernel.{Kernels, none, item}
use Rattle.ca_lower.specs.Implements.{Scope, Target}
use Rattle.ca_lower.specs.Emit.{Builder, emit_in_order}

abbrev pub emit_rest : ℕ → Option Target → Scope → ℕ → Kernels → Builder → Builder
emit_rest w lp names h none B = B
emit_rest w lp names h (item t ts) B = emit_in_order w lp names h (item t ts) B
