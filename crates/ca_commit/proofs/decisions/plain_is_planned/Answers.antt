use Rattle.ca_commit.proofs.PlainPlans.{plain_done, plain_meets, plain_stale, plain_waits}
use Rattle.ca_commit.proofs.decisions.plain_is_planned.Goals as goal

pub returns : goal.returns
returns g c = record { done = plain_done; meets = plain_meets; stale = plain_stale; waits = plain_waits }
