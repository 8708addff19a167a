use Rattle.std.proofs.Common.{◌≡◌, drop}
use Rattle.ca_value.specs.View.{tree_pairs}
use Rattle.ca_term.specs.Asking.{are_modes}
use Rattle.ca_asking.proofs.modes.are_modes.Given as goal

abbrev pub invariant-loop-pair : goal.invariant-loop-pair
invariant-loop-pair l = are_modes (tree_pairs (drop l.pair-index l.pairs)) ≡ are_modes (tree_pairs l.pairs)
