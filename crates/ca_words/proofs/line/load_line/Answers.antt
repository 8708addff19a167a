use Rattle.std.proofs.Common.{rules, ap₂, codes, ◌≡◌, ◌∙◌}
use Rattle.clap.specs.Words.{rule_of, with_rule, new_rule}
use Rattle.ca_words.specs.Line.{workers_rule}
use Rattle.ca_words.proofs.line.load_line.Goals as goal

pub returns : goal.returns
returns c =
    let workers_is : rule_of c.long-workers.result ≡ workers_rule = search rules in
    let n_is : rule_of c.new-n.result ≡ new_rule (codes "n") = search rules in (
      c.in_ok-two.ensures.shape (search rules) ∙ ap₂ with_rule (c.in_ok-one.ensures.shape (search rules)
          ∙ ap₂ with_rule c.new-start.ensures.app n_is) workers_is,
      search rules,
    )
