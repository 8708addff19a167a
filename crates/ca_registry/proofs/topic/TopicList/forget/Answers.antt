use Rattle.std.proofs.Common.{rules, ap, map, ◌∙◌}
use Rattle.std.proofs.lemmas.Fn.{filter_same}
use Rattle.ca_value.specs.View.{view}
use Rattle.ca_registry.specs.Marks.{topic_view}
use Rattle.ca_registry.proofs.Topics.{dropped_is}
use Rattle.ca_registry.proofs.topic.TopicList.forget.Goals as goal

pub returns : goal.returns
returns c = ap (map topic_view) (filter_same _ _ _ (λ x b f' k. search rules) _ _ c.retain.ensures.filtered) ∙ dropped_is (view c.args.topic.now) c.args.self.now.topics.items
