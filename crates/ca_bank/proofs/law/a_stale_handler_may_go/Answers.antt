use Rattle.ca_bank.proofs.Holding.{pruned_at}
use Rattle.ca_bank.proofs.law.a_stale_handler_may_go.Goals as goal

pub returns : goal.returns
returns c = pruned_at
