use Rattle.std.proofs.Common.{◌≡◌, drop, map}
use Rattle.ca_value.specs.Same.{same_items}
use Rattle.ca_value.specs.Tree.{trees_of}
use Rattle.ca_value.specs.View.{trees}
use Rattle.ca_meaning.specs.Registry.{tap_value}
use Rattle.ca_registry.specs.Registries.{tap_view}
use Rattle.ca_registry.proofs.mult.Mult.lists.Given as goal

abbrev pub invariant-loop-place : goal.invariant-loop-place
invariant-loop-place l = same_items (trees (drop l.place l.items)) (trees_of (map tap_value (map tap_view (drop l.place l.self.taps.entries)))) ≡ same_items (trees l.items) (trees_of (map tap_value (map tap_view l.self.taps.entries)))
