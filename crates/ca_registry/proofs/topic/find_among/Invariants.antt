use Rattle.std.proofs.Common.{◌≡◌, drop, map}
use Rattle.ca_value.specs.View.{view}
use Rattle.ca_registry.specs.Marks.{topic_view, first_equal}
use Rattle.ca_registry.proofs.topic.find_among.Given as goal

abbrev pub invariant-loop-entry : goal.invariant-loop-entry
invariant-loop-entry l = first_equal (view l.topic) (map topic_view (drop l.entry-index l.topics)) ≡ first_equal (view l.topic) (map topic_view l.topics)
