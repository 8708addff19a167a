use Rattle.std.proofs.Common.{[], ◌∷◌, ◌++◌, true, ap, ◌∙◌}
use Rattle.ca_reader.specs.View.{form_tree}
use Rattle.ca_derived.specs.Choice.{test}
use Rattle.ca_derived.specs.ChoiceView.{choice_view}
use Rattle.ca_derived.specs.DraftView.{drafted}
use Rattle.ca_derived.proofs.choice.Choice.default.Goals as goal

pub returns : goal.returns
returns c = ap (λ cs. record (choice_view c.args.self.now) { clauses = cs; default = true })
    (c.in_ok-pair.ensures ∙ ap (λ t. drafted c.args.self.now.clauses ++ t ∷ form_tree c.args.form ∷ []) (c.in_ok-test.ensures ∙ ap (test c.args.place) c.in_ok-key.ensures))
