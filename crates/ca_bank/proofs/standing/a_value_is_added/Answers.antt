use Rattle.ca_bank.proofs.AfterCalls.{value_added}
use Rattle.ca_bank.proofs.standing.a_value_is_added.Goals as goal

pub returns : goal.returns
returns c = value_added
