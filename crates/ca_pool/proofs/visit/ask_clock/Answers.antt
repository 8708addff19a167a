use Rattle.ca_alone.specs.Schedule.{AtPicked}
use Rattle.ca_pool.proofs.AtWork.{at_kept, carried_at, lost_kept, spent_by, worked_out}
use Rattle.ca_pool.proofs.Lone.{running_may_go}
use Rattle.ca_pool.proofs.LoneVisits.{goes_asked}
use Rattle.ca_pool.proofs.visit.ask_clock.Goals as goal

pub ask-requires-clause-carries : goal.ask-requires-clause-carries
ask-requires-clause-carries g c = carried_at g.A.Agent.over g.A.Agent.stands c.args.code.now c.args.table.now.id c.requires.at

pub returns-in-Ok-clause-at : goal.returns-in-Ok-clause-at
returns-in-Ok-clause-at g c = at_kept g.A.Agent.over g.A.Agent.stands c.args.code.now c.args.table.now.id c.ask.ensures.same c.args.going.lane c.count_asked.result.lane c.count_asked.ensures.lane c.requires.at c.ask.ensures.carries

pub returns-in-Ok-clause-spent : goal.returns-in-Ok-clause-spent
returns-in-Ok-clause-spent g c = λ start w h. let r = c.count_asked.ensures in spent_by c.count_asked.result.left c.count_asked.result.found r.left r.found c.requires.on c.requires.some h c.in-Ok.ensures.drew

pub returns-in-Err-clause-given_up : goal.returns-in-Err-clause-given_up
returns-in-Err-clause-given_up g c = lost_kept g.A.Agent.over g.A.Agent.stands c.args.code.now c.args.table.now.id c.ask.ensures.same c.requires.at c.ask.ensures.carries

pub returns-in-Err-clause-stopped : goal.returns-in-Err-clause-stopped
returns-in-Err-clause-stopped g c = λ start w h. worked_out h c.in-Err.ensures.refused

pub returns-in-Ok-clause-solo : goal.returns-in-Ok-clause-solo
returns-in-Ok-clause-solo g c = λ most empty r. let a = g.A.Agent in let m = g.met.A.Agent in let k = c.count_asked.ensures in
    goes_asked a.over a.place a.stands a.advances a.gives a.starts m.advanced m.answered m.started c.args.code.now r (returns-in-Ok-clause-spent g c) c.ask.new.due.items c.in-Ok.asked k.left k.found (c.in-Ok.ensures.solo most empty (running_may_go a.over a.place a.stands a.advances a.gives a.starts m.advanced m.answered m.started c.args.code.now {P = AtPicked} r))
