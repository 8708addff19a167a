use Rattle.ca_meaning.proofs.PuttingLate.{legal, put_true, other_value, no_wait}
use Rattle.ca_meaning.proofs.PuttingLateSolo.{solo}
use Rattle.ca_meaning.proofs.laws.worked.worked_put_late.Goals as goal

pub returns : goal.returns
returns c = record { legal = legal; one_worker = solo; put_true = put_true; other_value = other_value; no_wait = no_wait }
