use Rattle.std.proofs.Common.{◌≡◌, subst, sym, ap, ◌∙◌}
use Rattle.ca_term.specs.declared.term.Term.{Term}
use Rattle.ca_term.specs.View.{kernel}
use Rattle.ca_term.specs.Program.{program_view}
use Rattle.ca_meaning.specs.Redex.{redex, replace}
use Rattle.ca_meaning.specs.Body.{contract}
use Rattle.ca_meaning.specs.BodyParts.{BodyParts}
use Rattle.ca_meaning.specs.IsBody.{IsBody, IsBodyOf}
use Rattle.ca_meaning.specs.Parts.{IsAdmitted}
use Rattle.ca_meaning.proofs.Bodies.{known_stepped, known_body, body_admitted}
use Rattle.ca_meaning.proofs.body.Body.step.Goals as goal

pub contracted-requires : goal.contracted-requires
contracted-requires c = subst IsAdmitted (sym c.redex-redex.ensures) (body_admitted (kernel c.self.inside.term) c.self.invariant)

pub invariant_of-self : goal.invariant_of-self
invariant_of-self c =
    let p = program_view c.args.program.now in
    let t = kernel c.self.inside.term in
    let was : IsBodyOf p t = subst (λ (s : BodyParts). IsBodyOf p (kernel s.term)) (sym c.self.view_is) c.requires.known in
    let e : kernel c.replaced.result ≡ replace (contract p (redex t)) t = c.replaced.ensures ∙ ap (λ (k : Term). replace (kernel c.in_ok-next.next.term) (kernel k)) c.replace-term.ensures.value ∙ ap (λ k. replace k t) (c.in_ok-next.ensures.term ∙ ap (contract p) c.redex-redex.ensures) in
    subst IsBody (sym e) (known_body p (replace (contract p (redex t)) t) (known_stepped p t was))

pub returns-clause-known : goal.returns-clause-known
returns-clause-known c =
    let p = program_view c.args.program.now in
    let t = kernel c.self.inside.term in
    let was : IsBodyOf p t = subst (λ (s : BodyParts). IsBodyOf p (kernel s.term)) (sym c.self.view_is) c.requires.known in
    let e : kernel c.replaced.result ≡ replace (contract p (redex t)) t = c.replaced.ensures ∙ ap (λ (k : Term). replace (kernel c.in_ok-next.next.term) (kernel k)) c.replace-term.ensures.value ∙ ap (λ k. replace k t) (c.in_ok-next.ensures.term ∙ ap (contract p) c.redex-redex.ensures) in
    subst (IsBodyOf p) (sym e) (known_stepped p t was)
