use Rattle.std.proofs.Common.{◌∙◌, None, refl, ap}
use Rattle.ca_pool.proofs.StaleHandlers.{pruned_held, pruned_moved}
use Rattle.ca_table.specs.Draws.{turn_view}
use Rattle.ca_pool.proofs.Lone.{drew_turn, stayed_one}
use Rattle.ca_commit.specs.Touched as said
use Rattle.ca_pool.proofs.prune.prune.Goals as goal

pub draw_aside-requires-clause-moved : goal.draw_aside-requires-clause-moved
draw_aside-requires-clause-moved g c = let a = g.A.Agent in let K = g.C.Clock in let q = c.prune_held-wait.ensures in let held = c.args.held.now in let held2 = c.prune_held-wait.new.held in let w = c.args.worker.now.number in let r = c.requires.carries in let p = c.args.port.n in let wait = c.prune_held-wait.result.n in
    let same = pruned_held {C = g.row.C.Denot} a.over a.place a.advances a.gives a.starts K.least K.faults K.readings c.args.code.now w p c.args.place wait c.args.side held held2 c.requires.ready c.requires.stale q.wait q.channels q.registries q.others in
    let moves = pruned_moved a.over a.place a.advances a.gives a.starts K.least K.faults K.readings c.args.code.now w p c.args.place wait c.args.side held held2 c.requires.ready c.requires.stale q.wait q.channels q.registries q.others r.1 r.2 in
    (r.0, r.1, r.2, None, held, r.3, same, moves)

pub draw_aside-requires-clause-allows : goal.draw_aside-requires-clause-allows
draw_aside-requires-clause-allows g c = λ i. tt

pub draw_aside-requires-clause-timers : goal.draw_aside-requires-clause-timers
draw_aside-requires-clause-timers g c = c.prune_held-wait.ensures.others.1 ∙ c.requires.timers

pub returns-clause-numbers : goal.returns-clause-numbers
returns-clause-numbers g c = let o = c.prune_held-wait.ensures.others in let d = c.draw_aside.ensures.numbers in
    record { task = d.task ∙ o.3; port = d.port ∙ o.4; wait = d.wait ∙ o.5; moment = d.moment ∙ o.6 }

pub returns-clause-drew : goal.returns-clause-drew
returns-clause-drew g c = c.draw_aside.ensures.drew refl

pub returns-clause-carries : goal.returns-clause-carries
returns-clause-carries g c = λ program n l s. let a = g.A.Agent in let K = g.C.Clock in let q = c.prune_held-wait.ensures in let held = c.args.held.now in let held2 = c.prune_held-wait.new.held in let w = c.args.worker.now.number in let p = c.args.port.n in let wait = c.prune_held-wait.result.n in
    let same = pruned_held {C = g.row.C.Denot} a.over a.place a.advances a.gives a.starts K.least K.faults K.readings c.args.code.now w p c.args.place wait c.args.side held held2 c.requires.ready c.requires.stale q.wait q.channels q.registries q.others in
    let moves = pruned_moved a.over a.place a.advances a.gives a.starts K.least K.faults K.readings c.args.code.now w p c.args.place wait c.args.side held held2 c.requires.ready c.requires.stale q.wait q.channels q.registries q.others n l in
    c.draw_aside.ensures.carries program n l None held s same moves

pub returns-clause-stayed : goal.returns-clause-stayed
returns-clause-stayed g c = let d = c.draw_aside in let t = d.ensures.turns in let what = said.prunes c.args.side c.args.port.n c.prune_held-wait.result.n in
    stayed_one {what = what} d.ensures.same d.ensures.hand (drew_turn c.args.worker.now d.new.worker what t.0 d.ensures.hand t.1 (ap turn_view t.2)) tt
