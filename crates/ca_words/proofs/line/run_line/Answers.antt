use Rattle.std.proofs.Common.{rules, ap₂, ◌≡◌, ◌∙◌}
use Rattle.clap.specs.Words.{rule_of, with_rule}
use Rattle.ca_words.specs.Line.{workers_rule, budget_rule, journal_rule}
use Rattle.ca_words.proofs.line.run_line.Goals as goal

pub returns : goal.returns
returns c =
    let workers_is : rule_of c.long-workers.result ≡ workers_rule = search rules in
    let budget_is : rule_of c.long-budget.result ≡ budget_rule = search rules in
    let journal_is : rule_of c.action-journal.result ≡ journal_rule = search rules in (
      c.in_ok-three.ensures.shape (search rules) ∙ ap₂ with_rule (c.in_ok-two.ensures.shape (search rules)
          ∙ ap₂ with_rule (c.in_ok-one.ensures.shape (search rules) ∙ ap₂ with_rule c.new-start.ensures.app workers_is) budget_is) journal_is,
      search rules,
    )
