use Rattle.ca_meaning.proofs.TakingTwice.{legal, newest_taker, other_value, no_done}
use Rattle.ca_meaning.proofs.laws.worked.worked_first_taker.Goals as goal

pub returns : goal.returns
returns c = record { legal = legal; newest_taker = newest_taker; other_value = other_value; no_done = no_done }
