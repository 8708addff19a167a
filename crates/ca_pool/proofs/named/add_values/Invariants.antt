use Rattle.std.proofs.Common.{◌≡◌, ℕ, drop}
use Rattle.ca_value.specs.View.{trees}
use Rattle.ca_pool.specs.Named.{with_values}
use Rattle.ca_table.specs.Homes.{has_home}
use Rattle.ca_pool.proofs.named.add_values.Given as goal

abbrev pub invariant-loop-place : goal.invariant-loop-place
invariant-loop-place l = (i : ℕ) → with_values (trees (drop l.place l.values)) i (has_home l.into i) ≡ with_values (trees l.values) i (has_home l.initial.into i)
