use Rattle.std.proofs.Common.{◌≡◌, subst, sym, rules}
use Rattle.ca_value.specs.View.{view}
use Rattle.ca_term.specs.Kernel.{const}
use Rattle.ca_term.specs.View.{kernel}
use Rattle.ca_term.specs.declared.term.Term.{the_lemmas}
use Rattle.ca_meaning.specs.Redex.{replace}
use Rattle.ca_meaning.specs.BodyParts.{BodyParts}
use Rattle.ca_meaning.specs.IsBody.{IsBody, IsBodyOf}
use Rattle.ca_term.specs.Fits.{IsOrderly}
use Rattle.ca_meaning.proofs.Bodies.{filled, known_filled}
use Rattle.ca_meaning.proofs.body.Body.fill.Goals as goal

pub invariant_of-self : goal.invariant_of-self
invariant_of-self c =
    let e : kernel c.replaced.result ≡ replace (const (view c.args.answer)) (kernel c.self.inside.term) = search (rules, the_lemmas) in
    subst IsBody (sym e) (filled IsOrderly (view c.args.answer) (kernel c.self.inside.term) c.self.invariant)

pub returns-clause-known : goal.returns-clause-known
returns-clause-known c = λ program h.
    let e : kernel c.replaced.result ≡ replace (const (view c.args.answer)) (kernel c.self.inside.term) = search (rules, the_lemmas) in
    let was : IsBodyOf program (kernel c.self.inside.term) = subst (λ (s : BodyParts). IsBodyOf program (kernel s.term)) (sym c.self.view_is) h in
    subst (IsBodyOf program) (sym e) (known_filled program (view c.args.answer) (kernel c.self.inside.term) was)
