use Rattle.ca_commit.proofs.AltsPlans.{alts_done, alts_meets, alts_stale}
use Rattle.ca_commit.proofs.decisions.alts_is_planned.Goals as goal

pub returns : goal.returns
returns g c = record { done = alts_done; meets = alts_meets; stale = alts_stale }
