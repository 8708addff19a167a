use Rattle.ca_alone.specs.Schedule.{to_turn}
use Rattle.ca_pool.proofs.LoneVisits.{then_ok}
use Rattle.ca_pool.proofs.AtWork.{if_err}
use Rattle.ca_pool.proofs.visit.make_event.Goals as goal

pub returns-clause-solo : goal.returns-clause-solo
returns-clause-solo g c = then_ok c.settle_stirred.result (λ x f most few r. f to_turn most (c.in_ok-going.ensures.solo most few r)) c.settle_stirred.ensures.solo

pub returns-clause-stopped : goal.returns-clause-stopped
returns-clause-stopped g c = if_err c.settle_stirred.result (λ s f start w h. f start w (c.in_ok-going.ensures.spent start w h)) c.settle_stirred.ensures.stopped
