use Rattle.std.proofs.Common.{◌≡◌, ◌+◌, suc, arith, ap, sym, ◌∙◌}
use Rattle.ca_term.specs.Kernel.{bind, empty, binding}
use Rattle.ca_term.specs.View.{kernel}
use Rattle.ca_value.specs.Seq.{list}
use Rattle.ca_forms.specs.GoView.{ending}
use Rattle.ca_forms.specs.Meaning.{numbered}
use Rattle.ca_forms.specs.Outcome.{limited}
use Rattle.ca_forms.specs.WalkView.{gathered, terms_of}
use Rattle.ca_forms.proofs.go.task.Goals as goal

pub returns-clause-ok : goal.returns-clause-ok
returns-clause-ok c =
    let up : suc c.args.port ≡ c.args.port + 1 = omega arith in
    let one : numbered (c.args.port + 1) (terms_of (list c.in_ok-values.values)) ≡ binding (suc c.args.port) (kernel c.args.body) empty
    = ap (λ ts. numbered (c.args.port + 1) (terms_of ts)) c.in_ok-values.ensures.ok ∙ ap (λ n. binding n (kernel c.args.body) empty) (sym up) in
    ap (λ b. limited b (gathered c.args.bodies.now)) (ap (λ b. bind b (ending c.args.port c.args.place)) (sym one) ∙ ap (bind (numbered (c.args.port + 1) (terms_of (list c.in_ok-values.values)))) (sym c.in_ok-end.ensures.ok))
    ∙ c.in_ok-text.ensures.ok
