use Rattle.std.proofs.Common.{rules, arith, ◌≡◌, [], ◌∷◌, ap, sym, ◌∙◌, length, List}
use Rattle.std.proofs.lemmas.Grind.{common_steps}
use Rattle.std.specs.Vec.Iter.{into_iter_items}
use Rattle.ca_value.specs.Seq.{list}
use Rattle.ca_term.specs.declared.term.Term.{Term}
use Rattle.ca_term.specs.View.{bindings}
use Rattle.ca_forms.specs.Meaning.{bindings_joined, numbered}
use Rattle.ca_forms.specs.WalkView.{terms_of}
use Rattle.ca_forms.proofs.TermLaws.{bound_step, joined_end}
use Rattle.ca_forms.proofs.gathered.bound_terms.Goals as goal

pub loop-term-preserved : goal.loop-term-preserved
loop-term-preserved c =
    let items : into_iter_items c.loop-term.term-iterator ≡ c.in-Some.term ∷ into_iter_items c.next.new.self = search rules in
    let many : length (into_iter_items c.loop-term.term-iterator) ≡ length (c.in-Some.term ∷ into_iter_items c.next.new.self) = ap (λ (xs : List Term). length xs) items in
    record {
      same = rw c.push.ensures.added (bound_step (list c.loop-term.rest) c.new.result c.loop-term.number c.in-Some.term (into_iter_items c.next.new.self) (search rules)
          ∙ ap (λ (xs : List Term). bindings_joined (bindings (list c.loop-term.rest)) (numbered c.loop-term.number (terms_of xs))) (sym items) ∙ c.loop-term.invariant.same);
      room = omega (arith, many, c.push.ensures.spare, c.loop-term.invariant.room);
      small = omega (arith, many, c.loop-term.invariant.small);
    }

pub returns : goal.returns
returns c =
    let none : into_iter_items c.loop-term.term-iterator ≡ [] = grind (arith, common_steps) in
    let same : bindings_joined (bindings (list c.loop-term.rest)) (numbered c.loop-term.number (terms_of [])) ≡ numbered c.args.first (terms_of (list c.args.terms))
    = ap (λ (xs : List Term). bindings_joined (bindings (list c.loop-term.rest)) (numbered c.loop-term.number (terms_of xs))) (sym none) ∙ search (rules, c.loop-term.invariant.same) in
    sym (joined_end (bindings (list c.loop-term.rest))) ∙ same
