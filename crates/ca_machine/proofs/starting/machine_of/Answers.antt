use Rattle.std.proofs.Common.{sym, ◌∙◌, arith}
use Rattle.ca_states.specs.ValidCode.{valid_code}
use Rattle.ca_machine.proofs.Seeds.{lacks}
use Rattle.ca_machine.proofs.starting.machine_of.Goals as goal

pub returns-else-has_start-clause-none : goal.returns-else-has_start-clause-none
returns-else-has_start-clause-none c = lacks (valid_code c.args.code.now) c.args.seed c.in-Some.count (omega arith) (sym c.has_start.ensures ∙ c.if-has_start.false)
