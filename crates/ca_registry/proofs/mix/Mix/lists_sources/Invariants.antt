use Rattle.std.proofs.Common.{◌≡◌, drop, map}
use Rattle.ca_value.specs.Same.{same_items}
use Rattle.ca_value.specs.Tree.{trees_of}
use Rattle.ca_value.specs.View.{trees}
use Rattle.ca_meaning.specs.Registry.{source_value}
use Rattle.ca_registry.specs.Mixes.{source_view}
use Rattle.ca_registry.proofs.mix.Mix.lists_sources.Given as goal

abbrev pub invariant-loop-place : goal.invariant-loop-place
invariant-loop-place l = same_items (trees (drop l.place l.items)) (trees_of (map source_value (map source_view (drop l.place l.self.sources.entries)))) ≡ same_items (trees l.items) (trees_of (map source_value (map source_view l.self.sources.entries)))
