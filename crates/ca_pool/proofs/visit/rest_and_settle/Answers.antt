use Rattle.std.proofs.Common.{ℕ, List, sym, subst}
use Rattle.ca_alone.specs.Schedule.{MaySettle, to_rest}
use Rattle.ca_pool.specs.Lone.{IsGoing}
use Rattle.ca_pool.proofs.LoneVisits.{goes_rested, then_ok}
use Rattle.ca_pool.proofs.AtWork.{if_err}
use Rattle.ca_pool.proofs.visit.rest_and_settle.Goals as goal

pub returns-clause-solo : goal.returns-clause-solo
returns-clause-solo g c = let a = g.A.Agent in let m = g.met.A.Agent in then_ok c.settle_ports.result (λ x f most r. goes_rested a.over a.place a.stands a.advances a.gives a.starts m.advanced m.answered m.started c.args.code.now (f to_rest most
    (subst (λ (us : List ℕ). IsGoing a.over a.place a.stands a.advances a.gives a.starts c.args.code.now (MaySettle to_rest us) most c.in_ok-going.going.left c.in_ok-going.going.found c.rest.new.worker) (sym c.as_slice.ensures.value) (c.in_ok-going.ensures.solo most r)))) c.settle_ports.ensures.solo

pub returns-clause-stopped : goal.returns-clause-stopped
returns-clause-stopped g c = if_err c.settle_ports.result (λ s f start w h. f start w (c.in_ok-going.ensures.spent start w h)) c.settle_ports.ensures.stopped
