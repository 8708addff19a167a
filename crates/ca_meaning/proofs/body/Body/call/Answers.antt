use Rattle.std.proofs.Common.{sym, ap, ◌∙◌, subst}
use Rattle.ca_value.specs.View.{view}
use Rattle.ca_meaning.specs.Body.{BodyView}
use Rattle.ca_meaning.specs.IsBody.{IsBody, IsBodyOf}
use Rattle.ca_meaning.proofs.Beginnings.{call_is_body, call_of_program}
use Rattle.ca_meaning.proofs.body.Body.call.Goals as goal

pub of-requires : goal.of-requires
of-requires c = subst IsBody (sym c.in_ok-called.ensures) (call_is_body c.args.number (view c.args.value) c.args.place)

pub returns-clause-known : goal.returns-clause-known
returns-clause-known c = λ P checked takes. subst (IsBodyOf P) (sym (ap (λ (b : BodyView). b.term) c.of.ensures ∙ c.in_ok-called.ensures)) (call_of_program P checked c.args.number (view c.args.value) c.args.place takes)
