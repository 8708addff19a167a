use Rattle.std.proofs.Common.{◌≡◌, ◌+◌, ◌≤◌, length, take, map}
use Rattle.ca_value.specs.Seq.{list, spare}
use Rattle.ca_value.specs.View.{views}
use Rattle.ca_registry.specs.Marks.{topic_view}
use Rattle.ca_registry.specs.Publications.{topic_channel}
use Rattle.ca_registry.proofs.publication.Publication.list.Given as goal

abbrev pub invariant-loop-entry : goal.invariant-loop-entry
invariant-loop-entry l = record {
  same : views (list l.items) ≡ map topic_channel (map topic_view (take l.entry-index l.topics));
  room : length l.topics ≤ spare l.items + l.entry-index;
}
