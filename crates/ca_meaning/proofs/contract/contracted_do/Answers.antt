use Rattle.std.proofs.Common.{rules, ◌≡◌, ◌≢◌, sym, ap, ◌∙◌, [], ◌∷◌}
use Rattle.ca_value.specs.Seq.{list}
use Rattle.ca_term.specs.Kernel.{seq}
use Rattle.ca_term.specs.View.{kernels}
use Rattle.ca_meaning.specs.Body.{after_do}
use Rattle.ca_meaning.proofs.Redexes.{kernel-Do, after_do-several}
use Rattle.ca_meaning.proofs.contract.contracted_do.Goals as goal

pub returns-in_ok-copy_terms-in-Some : goal.returns-in_ok-copy_terms-in-Some
returns-in_ok-copy_terms-in-Some c =
    let parts : list c.args.terms.now ≡ c.in-Some.first.now ∷ c.in-Some.rest.now = search rules in
    let more : c.in-Some.rest.now ≢ [] = λ e. search rules in
    kernel-Do c.in_ok-copy_terms-in-Some.field-0 ∙ ap seq c.in_ok-copy_terms-in-Some.ensures
    ∙ sym (ap (λ l. after_do (kernels l)) parts ∙ after_do-several c.in-Some.first.now c.in-Some.rest.now more)
