use Rattle.ca_meaning.proofs.Unasked.{unasked}
use Rattle.ca_meaning.proofs.laws.solo.no_timeout_asks_no_clock.Goals as goal

pub returns : goal.returns
returns c = unasked
