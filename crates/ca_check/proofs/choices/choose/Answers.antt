use Rattle.std.proofs.Common.{◌≡◌, ◌∷◌, [], ◌++◌, ap, sym, ◌∙◌}
use Rattle.ca_value.specs.Seq.{list}
use Rattle.ca_term.specs.Kernel.{branch}
use Rattle.ca_term.specs.View.{kernel}
use Rattle.ca_check.specs.Choices.{choice_terms}
use Rattle.ca_forms.specs.Outcome.{after_walk, done, limited}
use Rattle.ca_forms.specs.WalkView.{gathered}
use Rattle.ca_check.proofs.ChoiceLaws.{chosen_over, over_last, over_nil, choices_append}
use Rattle.ca_check.proofs.choices.choose.Goals as goal

pub loop-choice-init : goal.loop-choice-init
loop-choice-init c = ap (λ k. chosen_over (choice_terms (list c.args.choices)) k (gathered c.args.bodies.now)) c.nothing-made.ensures ∙ sym (over_nil (choice_terms (list c.args.choices)) (gathered c.args.bodies.now))

pub loop-choice-preserved : goal.loop-choice-preserved
loop-choice-preserved c =
    let cut : list c.loop-choice.choices ≡ list c.pop.new.self ++ c.in-Some.choice ∷ [] = c.in-Some.ensures.some in
    let made : limited (branch (kernel c.in-Some.choice.test) (kernel c.in-Some.choice.term) (kernel c.loop-choice.made)) (gathered c.loop-choice.bodies) ≡ done (kernel c.in_ok-made.made) (gathered c.branch-bodies.new.self) = c.in_ok-made.ensures.ok in
    let step : chosen_over (choice_terms (list c.loop-choice.choices)) (kernel c.loop-choice.made) (gathered c.loop-choice.bodies) ≡ chosen_over (choice_terms (list c.pop.new.self)) (kernel c.in_ok-made.made) (gathered c.branch-bodies.new.self)
    = ap (λ ks. chosen_over ks (kernel c.loop-choice.made) (gathered c.loop-choice.bodies)) (ap choice_terms cut ∙ choices_append (list c.pop.new.self) (c.in-Some.choice ∷ []))
    ∙ over_last (choice_terms (list c.pop.new.self)) (kernel c.in-Some.choice.test, kernel c.in-Some.choice.term) (kernel c.loop-choice.made) (gathered c.loop-choice.bodies)
    ∙ ap (λ o. after_walk o (λ w s. chosen_over (choice_terms (list c.pop.new.self)) w s)) made in
    sym step ∙ c.loop-choice.invariant
