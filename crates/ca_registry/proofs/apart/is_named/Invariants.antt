use Rattle.std.proofs.Common.{◌≡◌, drop}
use Rattle.ca_value.specs.View.{tree_pairs}
use Rattle.ca_meaning.specs.Registry.{names_channel}
use Rattle.ca_registry.proofs.apart.is_named.Given as goal

abbrev pub invariant-loop-place : goal.invariant-loop-place
invariant-loop-place l = names_channel l.channel (tree_pairs (drop l.place l.pairs)) ≡ names_channel l.channel (tree_pairs (drop l.from l.pairs))
