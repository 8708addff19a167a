use Rattle.std.proofs.Common.{◌≡◌, ℕ, List, [], subst, sym}
use Rattle.ca_value.specs.Deadlines.{Deadline}
use Rattle.ca_table.specs.Parts.{clockwork_seen}
use Rattle.ca_alone.specs.OwnTurn.{IsDue}
use Rattle.ca_alone.specs.Schedule.{AtPicked, Follow, MayTick, to_turn}
use Rattle.ca_pool.specs.Asking.{IsFirstMoment}
use Rattle.ca_pool.specs.Lone.{HasAsked, MayGo}
use Rattle.ca_pool.proofs.Asides.{asked_reads}
use Rattle.ca_pool.proofs.Takens.{if_ok, same_show}
use Rattle.ca_pool.proofs.LoneClocks.{HasTicked, is_due, is_early, none_closed, reads_lone, ticked_asked}
use Rattle.ca_pool.proofs.clock.read_now.Goals as goal

pub draw_clock-requires-clause-carries : goal.draw_clock-requires-clause-carries
draw_clock-requires-clause-carries g c = let K = g.C.Clock in let r = c.requires.carries in let held = c.args.held.now in let t = c.answer_now-clockwork in
    (r.0, r.1, r.2, c.args.clockwork, held, r.3, same_show held, asked_reads t.result.1 (clockwork_seen K.least K.faults K.readings c.args.clockwork.value) (clockwork_seen K.least K.faults K.readings t.result.0.value) t.ensures)

pub pass-requires-clause-carries : goal.pass-requires-clause-carries
pass-requires-clause-carries g c = let r = c.requires.carries in (r.0, r.1, r.2, c.args.clockwork, r.3, c.answer_now-clockwork.ensures)

pub returns-then-now-first-clause-carries : goal.returns-then-now-first-clause-carries
returns-then-now-first-clause-carries g c = λ P n l s. let K = g.C.Clock in let held = c.args.held.now in let t = c.answer_now-clockwork in
    c.draw_clock.ensures.carries P n l c.args.clockwork held s (same_show held) (asked_reads t.result.1 (clockwork_seen K.least K.faults K.readings c.args.clockwork.value) (clockwork_seen K.least K.faults K.readings t.result.0.value) t.ensures)

pub returns-clause-carries : goal.returns-clause-carries
returns-clause-carries g c = λ P n l s. c.pass.ensures.carries P n l c.args.clockwork s c.answer_now-clockwork.ensures

pub returns-then-now-first-clause-solo : goal.returns-then-now-first-clause-solo
returns-then-now-first-clause-solo g c = λ most none first may. let a = g.A.Agent in let m = g.met.A.Agent in let K = g.C.Clock in let r = c.requires.carries in let held = c.args.held.now in let w = c.args.worker.now in let t = c.answer_now-clockwork in let d = c.draw_clock in let e = d.ensures in let clock = c.args.clockwork in let code = c.args.code.now in let id = c.args.table.now.id in
    let alone = may.at.lone in let ds = clock.value.timers.deadlines in
    none_closed a.over a.place a.stands a.advances a.gives a.starts m.advanced m.answered m.started code c.args.ports.now.items {w = d.new.worker} none
    (reads_lone a.over a.place a.stands a.advances a.gives a.starts m.advanced m.answered m.started code K.least K.faults K.readings id r.0 r.1 r.2 clock held w alone r.3 d.new.worker t.result.0 t.result.1 t.ensures (is_early c.args.first t.result.1 ds first c.if-now-first.true) e.same e.hand e.turn
    (e.timed r.0 r.1 r.2 clock held r.3 (same_show held) (asked_reads t.result.1 (clockwork_seen K.least K.faults K.readings clock.value) (clockwork_seen K.least K.faults K.readings t.result.0.value) t.ensures) alone.1) may.at)

pub returns-clause-solo : goal.returns-clause-solo
returns-clause-solo g c = let a = g.A.Agent in let m = g.met.A.Agent in let K = g.C.Clock in let w = c.args.worker.now in let t = c.answer_now-clockwork in let p = c.pass in let code = c.args.code.now in let us = p.new.ports.items in
    if_ok
    (λ x. (k : Follow) (most : ℕ) → IsDue t.result.0.value.timers.deadlines t.result.1 → MayGo a.over a.place a.stands a.advances a.gives a.starts code (MayTick k) most w → HasTicked a.over a.place a.stands a.advances a.gives a.starts m.advanced m.answered m.started code k us most x p.new.worker)
    (λ x. (most : ℕ) → c.args.ports.now.items ≡ [] → IsFirstMoment c.args.first c.args.clockwork.value.timers.deadlines → MayGo a.over a.place a.stands a.advances a.gives a.starts code AtPicked most w → HasAsked a.over a.place a.stands a.advances a.gives a.starts code us most x p.new.worker)
    p.result
    (λ x f most none first may. ticked_asked a.over a.place a.stands a.advances a.gives a.starts m.advanced m.answered m.started code us most x p.new.worker
    (f to_turn most (subst (λ (ds : List Deadline). IsDue ds t.result.1) (sym t.ensures.deadlines) (is_due c.args.first t.result.1 c.args.clockwork.value.timers.deadlines first c.if-now-first.false)) may))
    p.ensures.solo
