use Rattle.std.proofs.Common.{◌≡◌, ◌&&◌, drop, Ok}
use Rattle.ca_value.specs.View.{views}
use Rattle.ca_value.specs.Kinds.{with_integers}
use Rattle.ca_value.specs.Numbers.{rising}
use Rattle.ca_value.specs.Operations.{order_of}
use Rattle.ca_value.proofs.builtin.numbers.compare.Given as goal

abbrev pub invariant-loop-value : goal.invariant-loop-value
invariant-loop-value l =
    with_integers (λ zs. Ok (l.holds && rising (order_of l.order) l.last zs)) (views (drop l.value-index l.rest))
    ≡ with_integers (λ zs. Ok (rising (order_of l.order) l.initial.last zs)) (views l.rest)
