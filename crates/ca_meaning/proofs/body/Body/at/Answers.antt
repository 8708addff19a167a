use Rattle.std.proofs.Common.{◌≢◌, subst}
use Rattle.ca_term.specs.View.{kernel}
use Rattle.ca_meaning.specs.Body.{at, nowhere}
use Rattle.ca_meaning.specs.BodyParts.{BodyParts}
use Rattle.ca_meaning.specs.BodyViews.{body_view}
use Rattle.ca_meaning.proofs.Bodies.{body_somewhere}
use Rattle.ca_meaning.proofs.body.Body.at.Goals as goal

pub returns-in-None-clause-somewhere : goal.returns-in-None-clause-somewhere
returns-in-None-clause-somewhere c =
    let b = c.self.inside in
    subst (λ (s : BodyParts). at (body_view s) ≢ nowhere) c.self.view_is (body_somewhere (record { term = kernel b.term; turns = b.turns; depth = b.depth; fault = b.fault }) c.self.invariant)
