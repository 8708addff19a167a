use Rattle.ca_laws.proofs.Feeding.{feeds_keep_to}
use Rattle.ca_laws.proofs.Orders.{feeds_in_order}
use Rattle.ca_laws.proofs.pipelines.feeds_pass_on_in_order.Goals as goal

pub returns : goal.returns
returns c = record { keeps = feeds_keep_to; order = feeds_in_order }
