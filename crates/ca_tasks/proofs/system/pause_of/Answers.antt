use Rattle.std.proofs.Common.{ap}
use Rattle.ca_value.specs.Tree.{nil}
use Rattle.ca_term.specs.Operation.{want_view}
use Rattle.ca_system.specs.Stands.{stand_at}
use Rattle.ca_tasks.proofs.system.pause_of.Goals as goal

pub returns-in-AtOp : goal.returns-in-AtOp
returns-in-AtOp c = (want_view c.in-AtOp.field-0, ap stand_at c.in-AtOp.is)

pub returns-in-Ended : goal.returns-in-Ended
returns-in-Ended c = (nil, ap stand_at c.in-Ended.is)
