use Rattle.std.proofs.Common.{◌∙◌, refl, sym, ap, subst}
use Rattle.ca_term.specs.Event.{over as over_event}
use Rattle.ca_term.specs.Program.{program_view}
use Rattle.ca_table.specs.Carriers.{IsCarrying, LaneBox, just_lane}
use Rattle.ca_table.proofs.Carriers.{carries_seated}
use Rattle.ca_table.proofs.Drawing.{drew_as}
use Rattle.ca_pool.proofs.EndsMoved.{cost_one, ending_moved, ending_same}
use Rattle.ca_pool.proofs.LoneSteps.{end_leads}
use Rattle.ca_pool.proofs.task_end.finish.Goals as goal

pub draw_turn-lane-requires-clause-moved : goal.draw_turn-lane-requires-clause-moved
draw_turn-lane-requires-clause-moved g c = let a = g.A.Agent in let K = g.C.Clock in let r = c.requires.ending in let q = c.left.ensures in let w = c.args.worker.now in
    let same = ending_same a.over a.stands a.place a.advances a.gives a.starts K.least K.faults K.readings c.args.code.now c.args.table.now.id r.0 r.1 r.2 c.args.clock c.marked-clock.result r.3 c.args.held.now w c.args.lane.value c.left.result c.args.task.now c.args.ending r.4 c.requires.clock c.marked-clock.ensures c.requires.ready q.task q.since q.program q.counts in
    let moves = ending_moved a.over a.stands a.place a.advances a.gives a.starts K.least K.faults K.readings c.args.code.now c.args.table.now.id r.0 r.1 r.2 c.args.clock c.marked-clock.result r.3 c.args.held.now w c.args.lane.value c.left.result c.args.task.now c.args.ending r.4 c.requires.clock c.marked-clock.ensures c.requires.ready q.task q.since q.program q.counts in
    (r.0, r.1, r.2, c.args.clock, r.3, r.4.carries, same, moves)

pub returns-clause-drew : goal.returns-clause-drew
returns-clause-drew g c = drew_as (cost_one (over_event c.args.task.now.number c.args.ending) c.cost_of-cost.result c.cost_of-cost.ensures) refl (c.draw_turn-lane.ensures.drew refl)

pub returns-clause-stepped : goal.returns-clause-stepped
returns-clause-stepped g c = λ program n l held0 e. let a = g.A.Agent in let K = g.C.Clock in let q = c.left.ensures in let w = c.args.worker.now in let d = c.draw_turn-lane in let code = c.args.code.now in let id = c.args.table.now.id in
    let same = ending_same a.over a.stands a.place a.advances a.gives a.starts K.least K.faults K.readings code id program n l c.args.clock c.marked-clock.result held0 c.args.held.now w c.args.lane.value c.left.result c.args.task.now c.args.ending e c.requires.clock c.marked-clock.ensures c.requires.ready q.task q.since q.program q.counts in
    let moves = ending_moved a.over a.stands a.place a.advances a.gives a.starts K.least K.faults K.readings code id program n l c.args.clock c.marked-clock.result held0 c.args.held.now w c.args.lane.value c.left.result c.args.task.now c.args.ending e c.requires.clock c.marked-clock.ensures c.requires.ready q.task q.since q.program q.counts in
    let drew = d.ensures.carries program n l c.args.clock held0 e.carries same moves in
    carries_seated a.over a.stands program code id n d.new.worker d.result.value (ap (λ (b : LaneBox g.row.A.Denot). program_view b.value.program.value) d.ensures.lane ∙ ap (λ p. program_view p.value) (q.program ∙ e.gone.left.program_is) ∙ e.gone.program_is)
    (subst (λ (b : LaneBox g.row.A.Denot). IsCarrying a.over a.stands program code id n d.new.worker (just_lane n code b.value)) (sym d.ensures.lane) drew)

pub returns-clause-solo : goal.returns-clause-solo
returns-clause-solo g c = λ few most may. let a = g.A.Agent in let K = g.C.Clock in let m = g.met.A.Agent in let r = c.requires.ending in let d = c.draw_turn-lane in
    end_leads a.over a.place a.stands a.advances a.gives a.starts m.advanced m.answered m.started K.least K.faults K.readings c.args.code.now c.args.table.now.id r.0 r.1 r.2 c.args.lane.value c.args.clock r.3 c.args.worker.now d.new.worker c.args.task.now r.4.carries r.4.gone d.ensures.same d.ensures.hand few most may
    c.args.ending _ _ c.requires.stirs refl _ refl d.ensures.turns
