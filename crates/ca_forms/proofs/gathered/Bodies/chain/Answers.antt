use Rattle.std.proofs.Common.{arith, ◌≡◌, ◌+◌, ◌∷◌, [], ◌++◌, List, length, ap, sym, ◌∙◌, length-append}
use Rattle.ca_value.specs.Seq.{list}
use Rattle.ca_term.specs.declared.term.Term.{Term}
use Rattle.ca_term.specs.View.{kernel}
use Rattle.ca_forms.specs.Judged.{chained, chain_of}
use Rattle.ca_forms.specs.Meaning.{numbered}
use Rattle.ca_forms.specs.Outcome.{after_walk, done}
use Rattle.ca_forms.specs.WalkView.{gathered, terms_of}
use Rattle.ca_forms.proofs.ChainLaws.{chain_last}
use Rattle.ca_forms.proofs.gathered.Bodies.chain.Goals as goal

pub loop-value-preserved : goal.loop-value-preserved
loop-value-preserved c =
    let cut : list c.loop-value.values ≡ list c.pop.new.self ++ c.in-Some.value ∷ [] = c.in-Some.ensures.some in
    let many : length (list c.loop-value.values) ≡ length (list c.pop.new.self) + 1 = ap (λ (xs : List Term). length xs) cut ∙ length-append (list c.pop.new.self) (c.in-Some.value ∷ []) in
    let made : chained c.args.both (c.args.first + length (list c.pop.new.self)) (kernel c.in-Some.value) (kernel c.loop-value.made) (gathered c.loop-value.self) ≡ done (kernel c.in_ok-made.made) (gathered c.chained.new.self) = rw c.len.ensures at c.in_ok-made.ensures.ok in
    let step : chain_of c.args.both (numbered c.args.first (terms_of (list c.loop-value.values))) (kernel c.loop-value.made) (gathered c.loop-value.self) ≡ chain_of c.args.both (numbered c.args.first (terms_of (list c.pop.new.self))) (kernel c.in_ok-made.made) (gathered c.chained.new.self)
    = ap (λ (xs : List Term). chain_of c.args.both (numbered c.args.first (terms_of xs)) (kernel c.loop-value.made) (gathered c.loop-value.self)) cut
    ∙ chain_last c.args.both c.args.first (list c.pop.new.self) c.in-Some.value (kernel c.loop-value.made) (gathered c.loop-value.self)
    ∙ ap (λ o. after_walk o (λ v s. chain_of c.args.both (numbered c.args.first (terms_of (list c.pop.new.self))) v s)) made in
    record { same = sym step ∙ c.loop-value.invariant.same; small = omega arith }
