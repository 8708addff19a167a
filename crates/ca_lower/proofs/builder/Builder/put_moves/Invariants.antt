use Rattle.std.proofs.Common.{◌≡◌, ◌+◌, ◌-◌}
use Rattle.ca_lower.specs.Implements.{moves}
use Rattle.ca_lower.specs.Emit.{add}
use Rattle.ca_lower.specs.Views.{builder_view}
use Rattle.ca_lower.proofs.builder.Builder.put_moves.Given as goal

abbrev pub invariant-loop-i : goal.invariant-loop-i
invariant-loop-i l = add (moves (l.to + l.i) (l.from + l.i) (l.count - l.i)) (builder_view l.self) ≡ add (moves l.to l.from l.count) (builder_view l.fn.self)
