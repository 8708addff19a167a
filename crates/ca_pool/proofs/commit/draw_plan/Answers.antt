use Rattle.std.proofs.Common.{◌∙◌, refl, sym, ap, subst}
use Rattle.ca_term.specs.Event.{event_view}
use Rattle.ca_term.specs.Program.{program_view}
use Rattle.ca_states.specs.ValidCode.{valid_code}
use Rattle.ca_commit.specs.Plans.{plan_view}
use Rattle.ca_commit.specs.Tasks.{agent_of}
use Rattle.ca_table.specs.Carriers.{IsCarrying, LaneBox, just_lane}
use Rattle.ca_table.proofs.Carriers.{carries_seated}
use Rattle.ca_table.proofs.Drawing.{drew_as, drew_weaker}
use Rattle.ca_pool.specs.Leaving.{TaskOver}
use Rattle.ca_pool.proofs.EndsMoved.{cost_one}
use Rattle.ca_pool.proofs.PlansDrawn.{is_timely, plan_moved, plan_same, runs_within}
use Rattle.ca_pool.proofs.PlansReadied.{from_its_start}
use Rattle.ca_pool.proofs.LoneSteps.{plan_leads}
use Rattle.ca_commit.specs.Applying.{number_of}
use Rattle.ca_pool.proofs.commit.draw_plan.Goals as goal

pub commit_plan-event-requires-clause-timely : goal.commit_plan-event-requires-clause-timely
commit_plan-event-requires-clause-timely g c = let K = g.C.Clock in let r = c.requires.carries in is_timely {A = g.row.A.Denot} K.least K.faults K.readings (plan_view c.args.plan) r.3 c.args.clock c.args.held.now r.6

pub commit_plan-event-requires-clause-planned : goal.commit_plan-event-requires-clause-planned
commit_plan-event-requires-clause-planned g c = from_its_start g.A.Agent.place c.args.held.now (plan_view c.args.plan) (agent_of c.args.task) c.requires.ready.plan_for

pub draw_turn-lane-requires-clause-moved : goal.draw_turn-lane-requires-clause-moved
draw_turn-lane-requires-clause-moved g c = let a = g.A.Agent in let K = g.C.Clock in let m = g.met.A.Agent in let r = c.requires.carries in let p = c.commit_plan-event in let q = p.ensures in let t = c.put_times-clock in
    let same = plan_same a.over a.stands a.place a.advances a.gives a.starts m.stays K.least K.faults K.readings c.args.code.now c.args.table.now.id r.0 r.1 r.2 r.3 c.args.clock t.result c.args.held.now p.new.held t.new.held c.args.worker.now c.args.lane.value p.result.lane c.args.task c.args.plan c.args.spawned q.done.0 r.4 r.5 r.6 c.requires.ready r.7 q.done.1 q.times t.ensures.seen t.ensures.some t.ensures.others in
    let moves = plan_moved a.over a.stands a.place a.advances a.gives a.starts m.stays K.least K.faults K.readings c.args.code.now c.args.table.now.id r.0 r.1 r.2 r.3 c.args.clock t.result c.args.held.now p.new.held t.new.held c.args.worker.now c.args.lane.value p.result.lane c.args.task c.args.plan c.args.spawned q.done.0 r.4 r.5 r.6 c.requires.ready r.7 q.done.1 q.times t.ensures.seen t.ensures.some t.ensures.others (event_view p.result.event) q.event in
    (r.0, r.1, r.2, r.3, c.args.held.now, r.4, same, moves)

pub returns-clause-drew : goal.returns-clause-drew
returns-clause-drew g c = drew_as (cost_one (event_view c.commit_plan-event.result.event) c.cost_of-cost.result c.cost_of-cost.ensures) refl (drew_weaker (c.draw_turn-lane.ensures.drew refl))

pub returns-clause-over : goal.returns-clause-over
returns-clause-over g c = let a = g.A.Agent in let m = g.met.A.Agent in let K = valid_code c.args.code.now in let q = c.commit_plan-event.ensures in
    subst (λ (b : LaneBox g.row.A.Denot). TaskOver a.over c.args.code.now b.value) (sym c.draw_turn-lane.ensures.lane)
    (λ t is. runs_within a.gives (a.over K) (m.stays K) c.args.held.now c.args.task c.requires.over (plan_view c.args.plan) q.done.0 q.done.1.runs t (sym q.done.2 ∙ is))

pub returns-clause-stepped : goal.returns-clause-stepped
returns-clause-stepped g c = λ program n l clock0 s gone asked started. let a = g.A.Agent in let K = g.C.Clock in let m = g.met.A.Agent in let p = c.commit_plan-event in let q = p.ensures in let t = c.put_times-clock in let d = c.draw_turn-lane in let code = c.args.code.now in let id = c.args.table.now.id in
    let same = plan_same a.over a.stands a.place a.advances a.gives a.starts m.stays K.least K.faults K.readings code id program n l clock0 c.args.clock t.result c.args.held.now p.new.held t.new.held c.args.worker.now c.args.lane.value p.result.lane c.args.task c.args.plan c.args.spawned q.done.0 s gone asked c.requires.ready started q.done.1 q.times t.ensures.seen t.ensures.some t.ensures.others in
    let moves = plan_moved a.over a.stands a.place a.advances a.gives a.starts m.stays K.least K.faults K.readings code id program n l clock0 c.args.clock t.result c.args.held.now p.new.held t.new.held c.args.worker.now c.args.lane.value p.result.lane c.args.task c.args.plan c.args.spawned q.done.0 s gone asked c.requires.ready started q.done.1 q.times t.ensures.seen t.ensures.some t.ensures.others (event_view p.result.event) q.event in
    let drew = d.ensures.carries program n l clock0 c.args.held.now s same moves in
    carries_seated a.over a.stands program code id n d.new.worker d.result.value (ap (λ (b : LaneBox g.row.A.Denot). program_view b.value.program.value) d.ensures.lane ∙ q.done.1.program ∙ ap (λ x. program_view x.value) gone.left.program_is ∙ gone.program_is)
    (subst (λ (b : LaneBox g.row.A.Denot). IsCarrying a.over a.stands program code id n d.new.worker (just_lane n code b.value)) (sym d.ensures.lane) drew)

pub returns-clause-solo : goal.returns-clause-solo
returns-clause-solo g c = λ few most may. let a = g.A.Agent in let K = g.C.Clock in let m = g.met.A.Agent in let r = c.requires.carries in let p = c.commit_plan-event in let d = c.draw_turn-lane in
    plan_leads a.over a.place a.stands a.advances a.gives a.starts m.advanced m.answered m.started K.least K.faults K.readings c.args.code.now c.args.table.now.id r.0 r.1 r.2 c.args.lane.value r.3 c.args.held.now c.args.worker.now d.new.worker c.args.task r.4 r.5 d.ensures.same d.ensures.hand few most may
    (number_of c.args.spawned) (plan_view c.args.plan) (event_view p.result.event) _ c.requires.ready.plan_for p.ensures.event c.stirred_by-stirred.ensures _ refl d.ensures.turns
