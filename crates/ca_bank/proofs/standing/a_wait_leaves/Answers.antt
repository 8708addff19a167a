use Rattle.ca_bank.proofs.AfterCalls.{wait_leaves}
use Rattle.ca_bank.proofs.standing.a_wait_leaves.Goals as goal

pub returns : goal.returns
returns c = wait_leaves
