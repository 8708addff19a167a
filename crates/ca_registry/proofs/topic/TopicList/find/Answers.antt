use Rattle.std.proofs.Common.{◌≡◌, List, sym, ap, Some, None, arith, length, map}
use Rattle.std.proofs.lemmas.List.{length-map}
use Rattle.ca_value.specs.Tree.{Tree}
use Rattle.ca_value.specs.View.{view}
use Rattle.ca_meaning.specs.Registry.{TopicView}
use Rattle.ca_registry.specs.Marks.{topic_view, mark_of, first_marked}
use Rattle.ca_registry.proofs.Topics.{first_within, from_first, none_marked}
use Rattle.ca_registry.proofs.topic.TopicList.find.Goals as goal

pub find_from-requires : goal.find_from-requires
find_from-requires c =
    let ts : List TopicView = map topic_view c.args.self.now.topics.items in
    let e : first_marked c.mark_of.result ts ≡ Some c.in-Some.first = grind arith in
    let w = first_within c.mark_of.result ts c.in-Some.first e in
    let l = length-map c.args.self.now.topics.items topic_view in
    let s : c.as_slice.result.now ≡ c.args.self.now.topics.items = c.as_slice.ensures.value in
    let n = ap length s in
    omega arith

pub returns-in-Some : goal.returns-in-Some
returns-in-Some c =
    let ts : List TopicView = map topic_view c.args.self.now.topics.items in
    let topic : Tree = view c.args.topic.now in
    let e : first_marked (mark_of topic) ts ≡ Some c.in-Some.first = grind arith in
    let f = from_first topic ts c.in-Some.first e in
    grind arith

pub returns-in-None : goal.returns-in-None
returns-in-None c =
    let ts : List TopicView = map topic_view c.args.self.now.topics.items in
    let topic : Tree = view c.args.topic.now in
    let e : first_marked (mark_of topic) ts ≡ None = grind arith in
    sym (none_marked topic ts e)
