use Rattle.std.proofs.Common.{◌≡◌, ◌-◌, ◌∙◌, List, ap, arith, length, map, take, drop, length-drop}
use Rattle.std.proofs.lemmas.List.{take_all}
use Rattle.ca_value.specs.View.{view}
use Rattle.ca_registry.specs.declared.topic.Topic.{Topic}
use Rattle.ca_registry.specs.Marks.{topic_view, first_equal}
use Rattle.ca_registry.proofs.Topics.{view_drop}
use Rattle.ca_registry.proofs.topic.find_from.Goals as goal

pub returns : goal.returns
returns c =
    let ts : List Topic = c.args.topics.now in
    let rest : List Topic = drop c.args.first ts in
    let all : take (length ts - c.args.first) rest ≡ rest = take_all (length ts - c.args.first) rest (omega (arith, length-drop c.args.first ts)) in
    c.find_among.ensures ∙ ap (λ (xs : List Topic). first_equal (view c.args.topic.now) (map topic_view xs)) all ∙ ap (first_equal (view c.args.topic.now)) (view_drop c.args.first ts)
