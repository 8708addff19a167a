use Rattle.std.proofs.Common.{◌∙◌, Some, ap, refl}
use Rattle.ca_term.specs.Event.{event_view}
use Rattle.ca_commit.specs.Touched as said
use Rattle.ca_table.specs.Parts.{clockwork_seen}
use Rattle.ca_table.specs.Draws.{turn_view}
use Rattle.ca_alone.proofs.HeldPosition.{due_some}
use Rattle.ca_pool.proofs.Asides.{ticked_held, ticked_moved}
use Rattle.ca_pool.proofs.Ticked.{event_is, none_due, reads_by, same_by, ticks_by}
use Rattle.ca_pool.proofs.LoneClocks.{ticks_lone}
use Rattle.ca_pool.proofs.tick.draw_tick.Goals as goal

pub draw_aside-requires-clause-moved : goal.draw_aside-requires-clause-moved
draw_aside-requires-clause-moved g c = let a = g.A.Agent in let K = g.C.Clock in let r = c.requires.carries in let q = c.requires in let t = c.tick_over-clockwork in let e = t.ensures in let held0 = c.args.held.now in let held = t.new.held in let w = c.args.worker.now.number in let c1 = clockwork_seen K.least K.faults K.readings c.args.clockwork.value in let ev = c.in-Some.event in
    let ticks = ticks_by K.least K.faults K.readings r.3 c.args.clockwork t.result.0 held0 held c.args.now t.result.1 ev c.in-Some.is r.5 e.some q.placed q.there e.channels e.registries e.shards e.ready q.ready in (
      r.0,
      r.1,
      r.2,
      Some r.3,
      held0,
      r.4,
      ticked_held a.over a.place a.advances a.gives a.starts K.least K.faults K.readings c.args.code.now r.1 w r.2 r.3 t.result.0 held0 held c.args.now c1 (event_view ev) ticks,
      ticked_moved a.over a.place a.advances a.gives a.starts K.least K.faults K.readings c.args.code.now r.1 w r.2 r.3 t.result.0 held0 held c.args.now c1 (event_view ev) ticks,
    )

pub draw_clock-requires-clause-carries : goal.draw_clock-requires-clause-carries
draw_clock-requires-clause-carries g c = let K = g.C.Clock in let r = c.requires.carries in let t = c.tick_over-clockwork in let e = t.ensures in let held0 = c.args.held.now in let held = t.new.held in (
  r.0,
  r.1,
  r.2,
  r.3,
  held0,
  r.4,
  same_by K.least K.faults K.readings r.3 c.args.clockwork t.result.0 held0 held c.args.now t.result.1 c.in-None.is e.none e.channels e.registries e.shards e.ready,
  reads_by K.least K.faults K.readings r.3 c.args.clockwork t.result.0 held0 held c.args.now t.result.1 c.in-None.is r.5 e.none,
)

pub returns-in-Some-clause-carries : goal.returns-in-Some-clause-carries
returns-in-Some-clause-carries g c = λ P n l clock0 s asked. let a = g.A.Agent in let K = g.C.Clock in let q = c.requires in let t = c.tick_over-clockwork in let e = t.ensures in let held0 = c.args.held.now in let held = t.new.held in let w = c.args.worker.now.number in let c1 = clockwork_seen K.least K.faults K.readings c.args.clockwork.value in let ev = c.in-Some.event in
    let ticks = ticks_by K.least K.faults K.readings clock0 c.args.clockwork t.result.0 held0 held c.args.now t.result.1 ev c.in-Some.is asked e.some q.placed q.there e.channels e.registries e.shards e.ready q.ready in
    c.draw_aside.ensures.carries P n l (Some clock0) held0 s
    (ticked_held a.over a.place a.advances a.gives a.starts K.least K.faults K.readings c.args.code.now n w l clock0 t.result.0 held0 held c.args.now c1 (event_view ev) ticks)
    (ticked_moved a.over a.place a.advances a.gives a.starts K.least K.faults K.readings c.args.code.now n w l clock0 t.result.0 held0 held c.args.now c1 (event_view ev) ticks)

pub returns-in-None-clause-carries : goal.returns-in-None-clause-carries
returns-in-None-clause-carries g c = λ P n l clock0 s asked. let K = g.C.Clock in let t = c.tick_over-clockwork in let e = t.ensures in let held0 = c.args.held.now in let held = t.new.held in
    c.draw_clock.ensures.carries P n l clock0 held0 s
    (same_by K.least K.faults K.readings clock0 c.args.clockwork t.result.0 held0 held c.args.now t.result.1 c.in-None.is e.none e.channels e.registries e.shards e.ready)
    (reads_by K.least K.faults K.readings clock0 c.args.clockwork t.result.0 held0 held c.args.now t.result.1 c.in-None.is asked e.none)

pub returns-in-Some-clause-solo : goal.returns-in-Some-clause-solo
returns-in-Some-clause-solo g c = λ k us most is up may. let a = g.A.Agent in let m = g.met.A.Agent in let K = g.C.Clock in let r = c.requires.carries in let t = c.tick_over-clockwork in let d = c.draw_aside in let e = d.ensures in let w = c.args.worker.now in let code = c.args.code.now in let id = c.args.table.now.id in let now = c.args.now in let c1 = clockwork_seen K.least K.faults K.readings c.args.clockwork.value in let ev = c.in-Some.event in
    let view = event_is K.least K.faults K.readings c.args.clockwork t.result.0 now t.result.1 ev c.in-Some.is t.ensures.some in (
      c.cost_of-cost.result,
      refl,
      ticks_lone a.over a.place a.stands a.advances a.gives a.starts m.advanced m.answered m.started code K.least K.faults K.readings id r.0 r.1 r.2 r.3 c.args.held.now w may.at.lone r.4 d.new.worker k us most now c1 r.5 is up e.same e.hand
          (record { turn = e.turns.0; is = ap turn_view e.turns.2 ∙ ap said.shown view; after = record { opening = e.hand.opening; turns = e.turns.1 } }) may,
    )

pub returns-in-None-clause-solo : goal.returns-in-None-clause-solo
returns-in-None-clause-solo g c = λ k us most is up may. let K = g.C.Clock in let t = c.tick_over-clockwork in
    absurd (due_some c.args.clockwork.value.timers.deadlines c.args.now is (none_due K.least K.faults K.readings c.args.clockwork t.result.0 c.args.now t.result.1 c.in-None.is t.ensures.none))
