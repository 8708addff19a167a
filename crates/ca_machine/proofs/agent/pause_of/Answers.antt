use Rattle.std.proofs.Common.{ap}
use Rattle.ca_value.specs.View.{view}
use Rattle.ca_term.specs.Operation.{want_view}
use Rattle.ca_machine.specs.Stages.{halted_at}
use Rattle.ca_machine.proofs.agent.pause_of.Goals as goal

pub returns-in-Cut : goal.returns-in-Cut
returns-in-Cut c = (want_view c.in-Cut.field-0, ap halted_at c.in-Cut.is)

pub returns-in-Ended : goal.returns-in-Ended
returns-in-Ended c = (view c.in-Ended.field-0, ap halted_at c.in-Ended.is)
