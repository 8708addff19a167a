use Rattle.std.proofs.Common.{◌≡◌, ◌+◌, ◌∙◌, ◌++◌, ◌∷◌, [], sym, ap, arith, take, length, nat_eq, Some, None, cond, eqb, ℕ}
use Rattle.std.proofs.lemmas.List.{take_more, length-take-le}
use Rattle.indexmap.specs.IndexMap.{get}
use Rattle.ca_value.specs.View.{view}
use Rattle.ca_registry.specs.Marks.{mark_of, or_place}
use Rattle.ca_registry.proofs.Topics.{marked_more}
use Rattle.ca_registry.proofs.topic.note_all.Goals as goal

pub loop-i-preserved : goal.loop-i-preserved
loop-i-preserved c =
    let t = c.index-topics-i.result in
    let more : take (c.loop-i.i + 1) c.args.topics.now ≡ take c.loop-i.i c.args.topics.now ++ t ∷ [] = grind (arith, take_more) in
    let n : length (take c.loop-i.i c.args.topics.now) ≡ c.loop-i.i = length-take-le c.loop-i.i c.args.topics.now (omega arith) in
    let mark : c.mark_of.result ≡ mark_of (view t.topic) = grind arith in
    record {
      marked = λ m. c.note.ensures.marked m ∙ ap (λ (k : ℕ). or_place (get nat_eq c.loop-i.firsts m) (cond (eqb m k) (Some c.loop-i.i) None)) mark
          ∙ ap (λ (k : ℕ). or_place (get nat_eq c.loop-i.firsts m) (cond (eqb m (mark_of (view t.topic))) (Some k) None)) (sym n)
          ∙ marked_more m (take c.loop-i.i c.args.topics.now) (take (c.loop-i.i + 1) c.args.topics.now) t (get nat_eq c.loop-i.firsts m) more (c.loop-i.invariant.marked m);
      few = omega arith;
      room = omega arith;
    }
