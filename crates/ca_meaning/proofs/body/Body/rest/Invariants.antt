use Rattle.ca_term.specs.Program.{program_view}
use Rattle.ca_term.specs.View.{kernel}
use Rattle.ca_meaning.specs.BodyViews.{body_view}
use Rattle.ca_meaning.specs.IsBody.{IsBodyOf}
use Rattle.ca_meaning.specs.Rest.{LocalSteps}
use Rattle.ca_meaning.proofs.Rests.{steps_left}
use Rattle.ca_meaning.proofs.body.Body.rest.Given as goal

abbrev pub invariant-loop-alloc : goal.invariant-loop-alloc
invariant-loop-alloc l = record {
  reached : LocalSteps (program_view l.program) (body_view l.initial.self) (body_view l.self);
  known : IsBodyOf (program_view l.program) (kernel l.self.term);
}

abbrev pub decreases-loop-alloc : goal.decreases-loop-alloc
decreases-loop-alloc l = steps_left (program_view l.program) (body_view l.self)
