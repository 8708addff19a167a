use Rattle.ca_meaning.proofs.Worked.{fault_closes, fault_allowed}
use Rattle.ca_meaning.proofs.laws.worked.worked_fault.Goals as goal

pub returns-clause-closes : goal.returns-clause-closes
returns-clause-closes c = fault_closes

pub returns-clause-allowed : goal.returns-clause-allowed
returns-clause-allowed c = fault_allowed
