use Rattle.ca_pool.proofs.LoneVisits.{then_ok}
use Rattle.ca_pool.proofs.AtWork.{if_err}
use Rattle.ca_pool.proofs.visit.run_and_leave.Goals as goal

pub returns-clause-solo : goal.returns-clause-solo
returns-clause-solo g c = then_ok c.stand_back.result (λ x f most go. f most c.in_ok-going.ensures.full (c.in_ok-going.ensures.solo most go)) c.stand_back.ensures.solo

pub returns-clause-stopped : goal.returns-clause-stopped
returns-clause-stopped g c = if_err c.stand_back.result (λ s f start w h. f start w (c.in_ok-going.ensures.spent start w h)) c.stand_back.ensures.stopped
