use Rattle.ca_check.proofs.OrderedTops.{accepted_in_order}
use Rattle.ca_check.proofs.laws.go_bodies_are_in_order_of_text.Goals as goal

pub returns : goal.returns
returns c = accepted_in_order
