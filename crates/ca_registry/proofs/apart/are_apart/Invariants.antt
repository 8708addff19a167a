use Rattle.std.proofs.Common.{◌≡◌, drop}
use Rattle.ca_value.specs.View.{tree_pairs}
use Rattle.ca_meaning.specs.Registry.{channels_differ}
use Rattle.ca_registry.proofs.apart.are_apart.Given as goal

abbrev pub invariant-loop-place : goal.invariant-loop-place
invariant-loop-place l = channels_differ (tree_pairs (drop l.place l.pairs)) ≡ channels_differ (tree_pairs l.pairs)
