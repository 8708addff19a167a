use Rattle.ca_bank.proofs.Counts.{groups_are}
use Rattle.ca_bank.proofs.law.waits_are_counted_along_a_queue.Goals as goal

pub returns : goal.returns
returns c = groups_are
