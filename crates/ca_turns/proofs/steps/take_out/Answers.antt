use Rattle.ca_turns.proofs.Fronts.{front}
use Rattle.ca_turns.proofs.steps.take_out.Goals as goal

pub swap_in-found-requires-clause-out : goal.swap_in-found-requires-clause-out
swap_in-found-requires-clause-out g c = let t = c.if-not-take.ensures.took in (_, front _ _ _ t.1)
