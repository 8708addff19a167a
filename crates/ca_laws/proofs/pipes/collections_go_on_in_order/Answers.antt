use Rattle.ca_laws.proofs.Onto.{ontos_keep_to}
use Rattle.ca_laws.proofs.pipes.collections_go_on_in_order.Goals as goal

pub returns : goal.returns
returns c = ontos_keep_to
