use Rattle.ca_bank.proofs.AfterCalls.{wait_taken, wait_put}
use Rattle.ca_bank.proofs.standing.waits_live_in_their_shards.Goals as goal

pub returns-clause-taken : goal.returns-clause-taken
returns-clause-taken g c = wait_taken

pub returns-clause-put : goal.returns-clause-put
returns-clause-put g c = wait_put
