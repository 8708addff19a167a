use Rattle.ca_solo.proofs.Ends.{stuck_there}
use Rattle.ca_solo.proofs.Still.{still_stuck}
use Rattle.ca_solo.proofs.stillness.a_free_worker_is_stuck.Goals as goal

pub returns-clause-alone : goal.returns-clause-alone
returns-clause-alone c = stuck_there

pub returns-clause-none_ready : goal.returns-clause-none_ready
returns-clause-none_ready c = still_stuck
