use Rattle.std.proofs.Common.{◌≡◌, drop, fold, Ok}
use Rattle.ca_value.specs.View.{views}
use Rattle.ca_value.specs.Kinds.{with_integers}
use Rattle.ca_value.specs.Operations.{choice_of}
use Rattle.ca_value.proofs.builtin.numbers.choose.Given as goal

abbrev pub invariant-loop-value : goal.invariant-loop-value
invariant-loop-value l =
    with_integers (λ zs. Ok (fold (choice_of l.choice) l.best zs)) (views (drop l.value-index l.rest))
    ≡ with_integers (λ zs. Ok (fold (choice_of l.choice) l.initial.best zs)) (views l.rest)
