use Rattle.std.proofs.Common.{◌∷◌}
use Rattle.ca_alone.specs.Schedule.{MaySettle}
use Rattle.ca_pool.proofs.AtWork.{at_kept, carried_at, lost_kept, spent_on, worked_out}
use Rattle.ca_pool.proofs.Lone.{running_may_go}
use Rattle.ca_pool.proofs.LoneSettling.{counted}
use Rattle.ca_pool.proofs.stir.settle_once.Goals as goal

pub settle-requires-clause-carries : goal.settle-requires-clause-carries
settle-requires-clause-carries g c = carried_at g.A.Agent.over g.A.Agent.stands c.args.code.now c.args.table.now.id c.requires.at

pub returns-in-Ok-clause-at : goal.returns-in-Ok-clause-at
returns-in-Ok-clause-at g c = at_kept g.A.Agent.over g.A.Agent.stands c.args.code.now c.args.table.now.id c.settle.ensures.same c.args.going.lane c.count_settled.result.0.lane c.count_settled.ensures.lane c.requires.at c.settle.ensures.carries

pub returns-in-Ok-clause-spent : goal.returns-in-Ok-clause-spent
returns-in-Ok-clause-spent g c = λ start w h. let r = c.count_settled.ensures in spent_on c.count_settled.result.0.left c.count_settled.result.0.found r.left r.found c.requires.on c.requires.some h c.in-Ok.ensures.drew

pub returns-in-Err-clause-given_up : goal.returns-in-Err-clause-given_up
returns-in-Err-clause-given_up g c = lost_kept g.A.Agent.over g.A.Agent.stands c.args.code.now c.args.table.now.id c.settle.ensures.same c.requires.at c.settle.ensures.carries

pub returns-in-Err-clause-stopped : goal.returns-in-Err-clause-stopped
returns-in-Err-clause-stopped g c = λ start w h. worked_out h c.in-Err.ensures.refused

pub returns-in-Ok-clause-solo : goal.returns-in-Ok-clause-solo
returns-in-Ok-clause-solo g c = λ k us most h. let a = g.A.Agent in let r = c.count_settled.ensures in let res = c.count_settled.result in let d = c.in-Ok.ensures in
    counted a.over a.place a.stands a.advances a.gives a.starts g.met.A.Agent.advanced g.met.A.Agent.answered g.met.A.Agent.started c.args.code.now {old = c.args.worker.now} {new = c.settle.new.worker} k c.args.port.n us c.in-Ok.settled res.1 r.more h (λ start w s. spent_on res.0.left res.0.found r.left r.found c.requires.on c.requires.some s d.drew) r.left r.found
    (d.solo k us most (running_may_go a.over a.place a.stands a.advances a.gives a.starts g.met.A.Agent.advanced g.met.A.Agent.answered g.met.A.Agent.started c.args.code.now {P = MaySettle k (c.args.port.n ∷ us)} h))
