use Rattle.ca_meaning.proofs.WaitLaws.{wait_law}
use Rattle.ca_meaning.proofs.laws.waits.operations_have_one_event.Goals as goal

pub returns : goal.returns
returns c = wait_law
