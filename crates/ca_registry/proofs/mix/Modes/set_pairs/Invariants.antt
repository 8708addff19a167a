use Rattle.std.proofs.Common.{◌≡◌, ℕ, drop}
use Rattle.ca_value.specs.View.{tree_pairs}
use Rattle.ca_meaning.specs.Registry.{set_modes}
use Rattle.ca_registry.specs.Mixes.{source_view}
use Rattle.ca_registry.proofs.mix.Modes.set_pairs.Given as goal

abbrev pub invariant-loop-pair : goal.invariant-loop-pair
invariant-loop-pair l = (c : ℕ) → set_modes (tree_pairs (drop l.pair-index l.pairs)) (source_view (c, l.modes)) ≡ set_modes (tree_pairs l.pairs) (source_view (c, l.fn.self))
