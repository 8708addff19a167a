use Rattle.ca_meaning.proofs.PuttingOnce.{legal, other_value, other_wait, no_done}
use Rattle.ca_meaning.proofs.PuttingOnceSolo.{solo}
use Rattle.ca_meaning.proofs.laws.worked.worked_put_and_take.Goals as goal

pub returns : goal.returns
returns c = record { legal = legal; one_worker = solo; other_value = other_value; other_wait = other_wait; no_done = no_done }
