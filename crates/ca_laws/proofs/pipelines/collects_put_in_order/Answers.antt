use Rattle.ca_laws.proofs.Collecting.{collects_keep_to}
use Rattle.ca_laws.proofs.Orders.{collects_in_order}
use Rattle.ca_laws.proofs.pipelines.collects_put_in_order.Goals as goal

pub returns : goal.returns
returns c = record { keeps = collects_keep_to; order = collects_in_order }
