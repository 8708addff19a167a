use Rattle.std.proofs.Common.{◌≡◌, true, sym, ap, ◌∙◌}
use Rattle.ca_term.specs.View.{kernel}
use Rattle.ca_meaning.specs.Redex.{redex}
use Rattle.ca_meaning.specs.Body.{BodyView, at, standing}
use Rattle.ca_meaning.specs.BodyParts.{BodyParts}
use Rattle.ca_meaning.specs.BodyViews.{body_view, is_at_op}
use Rattle.ca_meaning.proofs.Bodies.{op_without_fault, if_ok_more}
use Rattle.ca_meaning.proofs.body.Body.want.Goals as goal

pub returns : goal.returns
returns c =
    let i = c.self.inside in
    let b : BodyView = record { term = kernel i.term; turns = i.turns; depth = i.depth; fault = i.fault } in
    let asks : is_at_op (at b) ≡ true = ap (λ (s : BodyParts). is_at_op (at (body_view s))) c.self.view_is ∙ c.requires in
    let k = op_without_fault b.fault (standing b.turns b.depth (redex b.term)) asks in
    if_ok_more c.want_of.result
    (λ w f. ap (λ (s : BodyParts). at (body_view s)) (sym c.self.view_is) ∙ k.0 ∙ ap (standing b.turns b.depth) (sym c.redex.ensures) ∙ f b.turns b.depth (ap (λ t. is_at_op (standing b.turns b.depth t)) c.redex.ensures ∙ k.1))
    c.want_of.ensures
