use Rattle.ca_lower.proofs.Lowers.{comes}
use Rattle.ca_lower.proofs.laws.runners_halt_as_their_bodies.Goals as goal

pub returns : goal.returns
returns c = λ P C s b m g k. comes P C b g k
