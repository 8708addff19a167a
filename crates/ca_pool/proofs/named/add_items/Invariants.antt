use Rattle.std.proofs.Common.{◌≡◌, ℕ, drop}
use Rattle.ca_value.specs.View.{trees}
use Rattle.ca_pool.specs.Named.{with_items}
use Rattle.ca_table.specs.Homes.{has_home}
use Rattle.ca_pool.proofs.named.add_items.Given as goal

abbrev pub invariant-loop-place : goal.invariant-loop-place
invariant-loop-place l = (i : ℕ) → with_items (trees (drop l.place l.items)) i (has_home l.into i) ≡ with_items (trees l.items) i (has_home l.initial.into i)
