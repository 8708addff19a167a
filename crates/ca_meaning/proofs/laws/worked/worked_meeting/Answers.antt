use Rattle.ca_meaning.proofs.Worked.{meeting}
use Rattle.ca_meaning.proofs.laws.worked.worked_meeting.Goals as goal

pub returns-clause-allowed : goal.returns-clause-allowed
returns-clause-allowed c = meeting
