use Rattle.ca_bank.proofs.AfterCalls.{stale_pruned}
use Rattle.ca_bank.proofs.standing.a_stale_handler_is_pruned.Goals as goal

pub returns : goal.returns
returns c = stale_pruned
