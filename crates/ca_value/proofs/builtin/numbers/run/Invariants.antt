use Rattle.std.proofs.Common.{◌≡◌, drop}
use Rattle.ca_value.specs.View.{views}
use Rattle.ca_value.specs.Outcome.{◌>>=◌}
use Rattle.ca_value.specs.Kinds.{with_integers}
use Rattle.ca_value.specs.Numbers.{folded_in_range}
use Rattle.ca_value.specs.Operations.{operation_of}
use Rattle.ca_value.proofs.builtin.numbers.run.Given as goal

abbrev pub invariant-loop-value : goal.invariant-loop-value
invariant-loop-value l =
    with_integers (λ zs. l.total >>= λ a. folded_in_range (operation_of l.operation) a zs) (views (drop l.value-index l.args))
    ≡ with_integers (folded_in_range (operation_of l.operation) l.start) (views l.args)
