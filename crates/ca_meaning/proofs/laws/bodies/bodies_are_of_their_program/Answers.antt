use Rattle.ca_meaning.proofs.TaskBodies.{bodies_of, bodies_somewhere}
use Rattle.ca_meaning.proofs.laws.bodies.bodies_are_of_their_program.Goals as goal

pub returns : goal.returns
returns c = record { of = bodies_of; somewhere = λ program journal s t x b checked. bodies_somewhere program checked journal s t x b }
