use Rattle.std.proofs.Common.{◌≢◌, ℕ, Some, refl, subst, sym}
use Rattle.ca_commit.specs.Contents.{TimersPart, unmarked}
use Rattle.ca_commit.specs.Touched as said
use Rattle.ca_table.specs.Parts.{mark_view}
use Rattle.ca_table.specs.Worked.{Drew}
use Rattle.ca_table.specs.declared.part.Clockwork.{Clockwork}
use Rattle.ca_table.proofs.Drawing.{drew_later, drew_none}
use Rattle.ca_alone.specs.Schedule.{AtEmpty, MaySettle, to_rest}
use Rattle.ca_pool.specs.Costs.{cost_idle, is_over}
use Rattle.ca_pool.specs.Lone.{MayGo, Went}
use Rattle.ca_pool.specs.Asking.{IsFirstMoment}
use Rattle.ca_pool.proofs.Stays.{same_turns}
use Rattle.ca_pool.proofs.Takens.{as_clocked, for_ok, if_ok, made_room, same_show}
use Rattle.ca_pool.proofs.Lone.{same_may, stayed_may, stayed_one}
use Rattle.ca_pool.proofs.LoneClocks.{rests_empty}
use Rattle.ca_pool.proofs.AtWork.{gave_after, gave_none, if_err}
use Rattle.ca_pool.proofs.idle.wait_with.Goals as goal

pub draw_clock-requires-clause-carries : goal.draw_clock-requires-clause-carries
draw_clock-requires-clause-carries g c = let r = c.requires.carries in let held = c.args.held.now in
    (r.0, r.1, r.2, c.args.clockwork, held, r.3, same_show held, (refl, subst (λ (x : Clockwork g.row.C.Denot). mark_view x.mark ≢ unmarked) c.deref.ensures (c.is_marked.ensures c.if-is_marked.true)))

pub returns-then-is_marked-clause-carries : goal.returns-then-is_marked-clause-carries
returns-then-is_marked-clause-carries g c = λ P n l s. let held = c.args.held.now in c.draw_clock.ensures.carries P n l c.args.clockwork held s (same_show held) (refl, subst (λ (x : Clockwork g.row.C.Denot). mark_view x.mark ≢ unmarked) c.deref.ensures (c.is_marked.ensures c.if-is_marked.true))

pub returns-then-is_marked-clause-solo : goal.returns-then-is_marked-clause-solo
returns-then-is_marked-clause-solo g c = λ most may. let a = g.A.Agent in let m = g.met.A.Agent in let d = c.draw_clock in let e = d.ensures in let w = c.args.worker.now in let code = c.args.code.now in
    rests_empty a.over a.place a.stands a.advances a.gives a.starts m.advanced m.answered m.started code c.args.ports.now.items {most = most} {w = d.new.worker} (stayed_may a.over a.place a.stands a.advances a.gives a.starts m.advanced m.answered m.started code {P = AtEmpty} {most = most} {old = w} {new = d.new.worker} (stayed_one {what = said.halts} e.same e.hand e.turn tt) may)

pub wait_late-requires-clause-carries : goal.wait_late-requires-clause-carries
wait_late-requires-clause-carries g c = let a = g.A.Agent in let K = g.C.Clock in let r = c.requires.carries in let t = c.ready_to_ask-clockwork in let e = t.ensures in let w = c.args.worker.now in let held = c.args.held.now in let code = c.args.code.now in let id = c.args.table.now.id in (
  r.0,
  r.1,
  r.2,
  made_room a.over a.stands K.least K.faults K.readings r.0 code id r.1 w t.new.worker r.2 w.number (Some t.result.0) held held e.same e.hand e.entries e.same.number (same_show held)
      (as_clocked a.over a.stands K.least K.faults K.readings r.0 code id r.1 w r.2 w.number c.args.clockwork t.result.0 held e.seen r.3),
)

pub wait_late-requires-clause-asking : goal.wait_late-requires-clause-asking
wait_late-requires-clause-asking g c = for_ok c.ready_to_ask-clockwork.result.1 _ c.in-Ok.is c.ready_to_ask-clockwork.ensures.asking

pub wait_late-requires-clause-room : goal.wait_late-requires-clause-room
wait_late-requires-clause-room g c = for_ok c.ready_to_ask-clockwork.result.1 _ c.in-Ok.is c.ready_to_ask-clockwork.ensures.room

pub put_off-requires-in-Err-clause-carries : goal.put_off-requires-in-Err-clause-carries
put_off-requires-in-Err-clause-carries g c = let a = g.A.Agent in let K = g.C.Clock in let r = c.requires.carries in let t = c.ready_to_ask-clockwork in let e = t.ensures in let w = c.args.worker.now in let held = c.args.held.now in let code = c.args.code.now in let id = c.args.table.now.id in (
  r.0,
  r.1,
  r.2,
  made_room a.over a.stands K.least K.faults K.readings r.0 code id r.1 w t.new.worker r.2 w.number (Some t.result.0) held held e.same e.hand e.entries e.same.number (same_show held)
      (as_clocked a.over a.stands K.least K.faults K.readings r.0 code id r.1 w r.2 w.number c.args.clockwork t.result.0 held e.seen r.3),
)

pub returns-in-Ok-clause-carries : goal.returns-in-Ok-clause-carries
returns-in-Ok-clause-carries g c = λ P n l s. let a = g.A.Agent in let K = g.C.Clock in let t = c.ready_to_ask-clockwork in let e = t.ensures in let w = c.args.worker.now in let held = c.args.held.now in let code = c.args.code.now in let id = c.args.table.now.id in
    c.wait_late.ensures.carries P n l (made_room a.over a.stands K.least K.faults K.readings P code id n w t.new.worker l w.number (Some t.result.0) held held e.same e.hand e.entries e.same.number (same_show held)
    (as_clocked a.over a.stands K.least K.faults K.readings P code id n w l w.number c.args.clockwork t.result.0 held e.seen s))

pub returns-in-Ok-clause-drew : goal.returns-in-Ok-clause-drew
returns-in-Ok-clause-drew g c = let t = c.ready_to_ask-clockwork in let k = c.wait_late in
    if_ok (λ x. Drew (cost_idle x) (is_over x) t.new.worker k.new.worker) (λ x. Drew (cost_idle x) (is_over x) c.args.worker.now k.new.worker) k.result (λ x d. drew_later t.ensures.same (same_turns c.args.worker.now.hand t.new.worker.hand t.ensures.hand) d) k.ensures.drew

pub returns-in-Err-clause-carries : goal.returns-in-Err-clause-carries
returns-in-Err-clause-carries g c = λ P n l s. let a = g.A.Agent in let K = g.C.Clock in let t = c.ready_to_ask-clockwork in let e = t.ensures in let w = c.args.worker.now in let held = c.args.held.now in let code = c.args.code.now in let id = c.args.table.now.id in
    c.put_off-in-Err.ensures.carries P n l (made_room a.over a.stands K.least K.faults K.readings P code id n w t.new.worker l w.number (Some t.result.0) held held e.same e.hand e.entries e.same.number (same_show held)
    (as_clocked a.over a.stands K.least K.faults K.readings P code id n w l w.number c.args.clockwork t.result.0 held e.seen s))

pub returns-then-not-is_first-clause-solo : goal.returns-then-not-is_first-clause-solo
returns-then-not-is_first-clause-solo g c = λ most may. let a = g.A.Agent in let m = g.met.A.Agent in let K = g.C.Clock in let p = c.put_off in let w = c.args.worker.now in let code = c.args.code.now in
    rests_empty a.over a.place a.stands a.advances a.gives a.starts m.advanced m.answered m.started code c.args.ports.now.items {most = most} {w = p.new.worker} (same_may a.over a.place a.stands a.advances a.gives a.starts m.advanced m.answered m.started code {P = AtEmpty} {most = most} {old = w} {new = p.new.worker} p.ensures.same p.ensures.turns may)

pub returns-in-Ok-clause-solo : goal.returns-in-Ok-clause-solo
returns-in-Ok-clause-solo g c = let a = g.A.Agent in let m = g.met.A.Agent in let K = g.C.Clock in let t = c.ready_to_ask-clockwork in let k = c.wait_late in let code = c.args.code.now in let w = c.args.worker.now in let us = k.new.ports.items in let first = c.args.first in let is = subst (λ (x : Clockwork g.row.C.Denot). IsFirstMoment first x.timers.deadlines) c.deref-2.ensures (c.is_first.ensures c.if-not-is_first.false) in
    if_ok
    (λ x. IsFirstMoment first t.result.0.value.timers.deadlines → (most : ℕ) → MayGo a.over a.place a.stands a.advances a.gives a.starts code AtEmpty most t.new.worker → Went a.over a.place a.stands a.advances a.gives a.starts code (MaySettle to_rest us) most k.new.worker)
    (λ x. (most : ℕ) → MayGo a.over a.place a.stands a.advances a.gives a.starts code AtEmpty most w → Went a.over a.place a.stands a.advances a.gives a.starts code (MaySettle to_rest us) most k.new.worker)
    k.result
    (λ x f most may. f (subst (λ (z : TimersPart). IsFirstMoment first z.deadlines) (sym t.ensures.seen) is) most
    (same_may a.over a.place a.stands a.advances a.gives a.starts m.advanced m.answered m.started code {P = AtEmpty} {most = most} {old = w} {new = t.new.worker} t.ensures.same (same_turns w.hand t.new.worker.hand t.ensures.hand) may))
    k.ensures.solo

pub returns-in-Ok-clause-stopped : goal.returns-in-Ok-clause-stopped
returns-in-Ok-clause-stopped g c = let t = c.ready_to_ask-clockwork in if_err c.wait_late.result (λ s gave. gave_after t.ensures.same (same_turns c.args.worker.now.hand t.new.worker.hand t.ensures.hand) gave) c.wait_late.ensures.stopped

pub returns-in-Err-clause-stopped : goal.returns-in-Err-clause-stopped
returns-in-Err-clause-stopped g c = let t = c.ready_to_ask-clockwork in let v = c.put_off-in-Err in gave_none (drew_later t.ensures.same (same_turns c.args.worker.now.hand t.new.worker.hand t.ensures.hand) (drew_none v.ensures.same v.ensures.turns))
