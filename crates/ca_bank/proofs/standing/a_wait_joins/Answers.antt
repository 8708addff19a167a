use Rattle.ca_bank.proofs.AfterCalls.{queues_joined, wait_joins}
use Rattle.ca_bank.proofs.standing.a_wait_joins.Goals as goal

pub returns-clause-queues : goal.returns-clause-queues
returns-clause-queues c = queues_joined

pub returns-clause-stands : goal.returns-clause-stands
returns-clause-stands c = wait_joins
