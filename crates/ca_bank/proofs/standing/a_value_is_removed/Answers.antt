use Rattle.ca_bank.proofs.AfterCalls.{value_removed}
use Rattle.ca_bank.proofs.standing.a_value_is_removed.Goals as goal

pub returns : goal.returns
returns c = value_removed
