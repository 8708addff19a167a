use Rattle.std.proofs.Common.{◌≡◌, ℕ, drop}
use Rattle.ca_value.specs.View.{tree_pairs}
use Rattle.ca_pool.specs.Named.{with_keys}
use Rattle.ca_table.specs.Homes.{has_home}
use Rattle.ca_pool.proofs.named.add_keys.Given as goal

abbrev pub invariant-loop-place : goal.invariant-loop-place
invariant-loop-place l = (i : ℕ) → with_keys (tree_pairs (drop l.place l.pairs)) i (has_home l.into i) ≡ with_keys (tree_pairs l.pairs) i (has_home l.initial.into i)
