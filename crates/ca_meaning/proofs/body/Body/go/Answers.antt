use Rattle.std.proofs.Common.{sym, ap, ◌∙◌, subst}
use Rattle.ca_value.specs.Seq.{list}
use Rattle.ca_value.specs.View.{views}
use Rattle.ca_term.specs.Program.{program_view, procedure_view}
use Rattle.ca_term.specs.View.{kernel}
use Rattle.ca_meaning.specs.Body.{BodyView, new_body}
use Rattle.ca_meaning.specs.IsBody.{IsBodyOf}
use Rattle.ca_meaning.proofs.Bodies.{known_body}
use Rattle.ca_meaning.proofs.Beginnings.{go_started, go_known}
use Rattle.ca_meaning.proofs.body.Body.go.Goals as goal

pub of-requires : goal.of-requires
of-requires c =
    let P = program_view c.args.program.now in
    let term = kernel c.in_ok-started.field-0 in
    known_body P term (go_known P c.in-Some.ensures.checked c.args.number (list c.args.values.now) (procedure_view c.in-Some.text.now) term c.requires.there c.requires.count c.in-Some.ensures.text c.in_ok-started.ensures)

pub returns-clause-begins : goal.returns-clause-begins
returns-clause-begins c =
    let P = program_view c.args.program.now in
    c.of.ensures ∙ ap new_body (go_started P c.args.number (views (list c.args.values.now)) (procedure_view c.in-Some.text.now) (kernel c.in_ok-started.field-0) c.in-Some.ensures.text c.in_ok-started.ensures)

pub returns-clause-known : goal.returns-clause-known
returns-clause-known c =
    let P = program_view c.args.program.now in
    let term = kernel c.in_ok-started.field-0 in
    subst (IsBodyOf P) (sym (ap (λ (b : BodyView). b.term) c.of.ensures)) (go_known P c.in-Some.ensures.checked c.args.number (list c.args.values.now) (procedure_view c.in-Some.text.now) term c.requires.there c.requires.count c.in-Some.ensures.text c.in_ok-started.ensures)
