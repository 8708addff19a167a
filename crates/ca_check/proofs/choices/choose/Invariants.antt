use Rattle.std.proofs.Common.{◌≡◌, length}
use Rattle.ca_value.specs.Seq.{list}
use Rattle.ca_term.specs.View.{kernel}
use Rattle.ca_check.specs.Choices.{chain_of_ifs, choice_terms}
use Rattle.ca_forms.specs.WalkView.{gathered}
use Rattle.ca_check.proofs.ChoiceLaws.{chosen_over}
use Rattle.ca_check.proofs.choices.choose.Given as goal

abbrev pub invariant-loop-choice : goal.invariant-loop-choice
invariant-loop-choice l = chosen_over (choice_terms (list l.choices)) (kernel l.made) (gathered l.bodies) ≡ chain_of_ifs (choice_terms (list l.fn.choices)) (gathered l.fn.bodies)

abbrev pub decreases-loop-choice : goal.decreases-loop-choice
decreases-loop-choice l = length (list l.choices)
