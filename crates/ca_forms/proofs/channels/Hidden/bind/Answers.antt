use Rattle.std.proofs.Common.{◌≡◌, ◌+◌, length, sym, ap, ◌∙◌}
use Rattle.ca_value.specs.Seq.{list}
use Rattle.ca_term.specs.Kernel.{bind}
use Rattle.ca_term.specs.View.{kernel}
use Rattle.ca_forms.specs.Meaning.{bindings_joined, numbered}
use Rattle.ca_forms.specs.Outcome.{limited}
use Rattle.ca_forms.specs.WalkView.{gathered, terms_of}
use Rattle.ca_forms.proofs.FixedLaws.{numbered_joined}
use Rattle.ca_forms.proofs.channels.Hidden.bind.Goals as goal

pub returns-clause-ok : goal.returns-clause-ok
returns-clause-ok c =
    let values : numbered c.args.first (terms_of (list c.in_ok-values.values)) ≡ bindings_joined (numbered c.args.first (terms_of (list c.args.operands))) (numbered (c.args.first + length (list c.args.operands)) (terms_of (list c.args.self.more)))
    = ap (λ ts. numbered c.args.first (terms_of ts)) c.in_ok-values.ensures.ok ∙ numbered_joined c.args.first (list c.args.operands) (list c.args.self.more) in
    ap (λ bs. limited (bind bs (kernel c.args.self.body)) (gathered c.args.bodies.now)) (sym values) ∙ c.in_ok-text.ensures.ok
