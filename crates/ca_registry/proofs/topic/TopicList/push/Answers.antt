use Rattle.std.proofs.Common.{◌≡◌, ◌∙◌, ◌++◌, ◌∷◌, [], ap, arith, length, nat_eq, Some, None, cond, eqb, ℕ}
use Rattle.indexmap.specs.IndexMap.{get}
use Rattle.ca_value.specs.View.{view}
use Rattle.ca_registry.specs.Marks.{mark_of, or_place}
use Rattle.ca_registry.proofs.Topics.{marked_more}
use Rattle.ca_registry.proofs.topic.TopicList.push.Goals as goal

pub invariant_of-self-clause-marked : goal.invariant_of-self-clause-marked
invariant_of-self-clause-marked c =
    let t = c.args.topic in
    let more : c.push.new.self.items ≡ c.args.self.now.topics.items ++ t ∷ [] = grind arith in
    let n : c.len-place.result ≡ length c.args.self.now.topics.items = grind arith in
    λ m. c.note.ensures.marked m ∙ ap (λ (k : ℕ). or_place (get nat_eq c.args.self.now.firsts m) (cond (eqb m k) (Some c.len-place.result) None)) c.mark_of.ensures
    ∙ ap (λ (k : ℕ). or_place (get nat_eq c.args.self.now.firsts m) (cond (eqb m (mark_of (view t.topic))) (Some k) None)) n
    ∙ marked_more m c.args.self.now.topics.items c.push.new.self.items t (get nat_eq c.args.self.now.firsts m) more (c.args.self.now.marked m)
