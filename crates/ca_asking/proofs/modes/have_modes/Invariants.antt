use Rattle.std.proofs.Common.{◌≡◌, drop}
use Rattle.ca_value.specs.View.{tree_pairs}
use Rattle.ca_term.specs.Asking.{all_modes}
use Rattle.ca_asking.proofs.modes.have_modes.Given as goal

abbrev pub invariant-loop-pair : goal.invariant-loop-pair
invariant-loop-pair l = all_modes (tree_pairs (drop l.pair-index l.pairs)) ≡ all_modes (tree_pairs l.pairs)
