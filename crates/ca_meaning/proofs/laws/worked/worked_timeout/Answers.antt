use Rattle.ca_meaning.proofs.Worked.{timeout_settles}
use Rattle.ca_meaning.proofs.laws.worked.worked_timeout.Goals as goal

pub returns-clause-allowed : goal.returns-clause-allowed
returns-clause-allowed c = timeout_settles
