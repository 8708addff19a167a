use Rattle.ca_laws.proofs.Delivering.{deliveries_keep_to}
use Rattle.ca_laws.proofs.mults.deliveries_answer_after_their_put.Goals as goal

pub returns : goal.returns
returns c = deliveries_keep_to
