use Rattle.std.proofs.Common.{◌≡◌, ◌<◌, rules, arith, sym, ap, subst}
use Rattle.ca_term.specs.Program.{program_view}
use Rattle.ca_meaning.specs.Body.{at, local, step}
use Rattle.ca_meaning.specs.BodyViews.{body_view}
use Rattle.ca_meaning.specs.Rest.{LocalSteps, here}
use Rattle.ca_meaning.proofs.Rests.{step_more, steps_left, left-step}
use Rattle.ca_meaning.proofs.body.Body.rest.Goals as goal

pub loop-alloc-init : goal.loop-alloc-init
loop-alloc-init c = record { reached = here; known = c.requires }

pub loop-alloc-preserved : goal.loop-alloc-preserved
loop-alloc-preserved c =
    let p = program_view c.args.program.now in
    let b = body_view c.loop-alloc.self in
    let stands : at b ≡ local = search rules in
    let e : body_view c.step.new.self ≡ step p b = search rules in
    record {
      reached = subst (LocalSteps p (body_view c.args.self.now)) (sym e) (step_more c.loop-alloc.invariant.reached stands);
      known = c.step.ensures.known;
    }

pub loop-alloc-smaller : goal.loop-alloc-smaller
loop-alloc-smaller c =
    let p = program_view c.args.program.now in
    let b = body_view c.loop-alloc.self in
    let stands : at b ≡ local = search rules in
    let e : body_view c.step.new.self ≡ step p b = search rules in
    let less : steps_left p (step p b) < steps_left p b = omega (arith, left-step p b stands) in
    rw (ap (steps_left p) e) less
