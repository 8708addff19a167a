use Rattle.std.proofs.Common.{◌≡◌, drop, map}
use Rattle.ca_value.specs.Same.{same_items}
use Rattle.ca_value.specs.Tree.{trees_of}
use Rattle.ca_value.specs.View.{trees}
use Rattle.ca_registry.specs.Marks.{topic_view}
use Rattle.ca_registry.specs.Publications.{topic_channel}
use Rattle.ca_registry.proofs.judging.list_channels.Given as goal

abbrev pub invariant-loop-place : goal.invariant-loop-place
invariant-loop-place l = same_items (trees (drop l.place l.items)) (trees_of (map topic_channel (map topic_view (drop l.place l.topics)))) ≡ same_items (trees l.items) (trees_of (map topic_channel (map topic_view l.topics)))
