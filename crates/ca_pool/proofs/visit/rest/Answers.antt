use Rattle.std.proofs.Common.{◌∙◌, ℕ, ◌-◌, Bool, ap, subst, sym}
use Rattle.std.specs.Prelude.{◌||◌}
use Rattle.ca_table.specs.Carriers.{LaneBox}
use Rattle.ca_alone.specs.Schedule.{AtEmpty, MaySettle, to_rest}
use Rattle.ca_pool.specs.AtWork.{IsAtWork}
use Rattle.ca_pool.specs.Costs.{cost_idle, is_over}
use Rattle.ca_pool.proofs.AtWork.{spent_by, worked_up}
use Rattle.ca_pool.proofs.Lone.{running_may_go, went_on}
use Rattle.ca_pool.proofs.visit.rest.Goals as goal

pub returns-in-Ok-clause-at : goal.returns-in-Ok-clause-at
returns-in-Ok-clause-at g c = subst (λ (l : LaneBox g.row.A.Denot). IsAtWork g.A.Agent.over g.A.Agent.stands c.args.code.now c.args.table.now.id c.look_idle-looked.new.worker l.value) (sym c.count_rested.ensures.lane) c.look_idle-looked.ensures.at

pub returns-in-Ok-clause-spent : goal.returns-in-Ok-clause-spent
returns-in-Ok-clause-spent g c = λ start w h. let r = c.count_rested in let y = c.look_idle-looked.ensures in let rested = c.in-Ok.rested in spent_by r.result.left r.result.found (r.ensures.left ∙ ap (λ (n : ℕ). n - cost_idle rested) y.left) (r.ensures.found ∙ ap (λ (b : Bool). is_over rested || b) y.found) c.requires.on c.requires.some h (rw c.in-Ok.is at y.drew)

pub returns-in-Err-clause-stopped : goal.returns-in-Err-clause-stopped
returns-in-Err-clause-stopped g c = λ start w h. c.give_up.ensures.worked start w (worked_up h (rw c.in-Err.is at c.look_idle-looked.ensures.stopped))

pub returns-in-Ok-clause-solo : goal.returns-in-Ok-clause-solo
returns-in-Ok-clause-solo g c = λ most r. let a = g.A.Agent in let m = g.met.A.Agent in let y = c.look_idle-looked.ensures in
    went_on a.over a.place a.stands a.advances a.gives a.starts m.advanced m.answered m.started c.args.code.now {P = AtEmpty} {Q = MaySettle to_rest c.look_idle-looked.new.due.items} r (returns-in-Ok-clause-spent g c) ((rw c.in-Ok.is at y.solo) most (running_may_go a.over a.place a.stands a.advances a.gives a.starts m.advanced m.answered m.started c.args.code.now {P = AtEmpty} r))
