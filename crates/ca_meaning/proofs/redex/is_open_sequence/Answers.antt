use Rattle.std.proofs.Common.{rules, ◌≡◌, ◌∷◌, [], ◌≢◌, ap, sym, ◌∙◌, not}
use Rattle.ca_value.specs.Seq.{list}
use Rattle.ca_term.specs.View.{kernels}
use Rattle.ca_meaning.specs.Parts.{is_open_sequence}
use Rattle.ca_meaning.proofs.Redexes.{is_open_sequence-several}
use Rattle.ca_meaning.proofs.redex.is_open_sequence.Goals as goal

pub returns-then-not-is_empty : goal.returns-then-not-is_empty
returns-then-not-is_empty c =
    let parts : list c.args.terms.now ≡ c.in-Some.first.now ∷ c.in-Some.rest.now = search rules in
    let more : c.in-Some.rest.now ≢ [] = λ e. search rules in
    ap not c.is_value.ensures ∙ sym (ap (λ l. is_open_sequence (kernels l)) parts ∙ is_open_sequence-several c.in-Some.first.now c.in-Some.rest.now more)
