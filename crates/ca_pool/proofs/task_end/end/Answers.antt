use Rattle.std.proofs.Common.{◌<◌, refl, sym, subst, []}
use Rattle.ca_journal.specs.Merge.{room}
use Rattle.ca_meaning.specs.Body.{ended}
use Rattle.ca_table.specs.Carriers.{just_lane}
use Rattle.ca_table.specs.Parts.{part_seen}
use Rattle.ca_table.proofs.Drawing.{drew_later, drew_none}
use Rattle.ca_table.proofs.HaltMoved.{ends_draw}
use Rattle.ca_pool.proofs.AtEvents.{kept_carrying, lane_bare, same_turns}
use Rattle.ca_pool.proofs.Resolutions.{err_any}
use Rattle.ca_alone.specs.Schedule.{MaySettle, to_turn}
use Rattle.ca_pool.proofs.Lone.{same_may}
use Rattle.ca_pool.proofs.task_end.end.Goals as goal

pub take_last-clock-requires-clause-carries : goal.take_last-clock-requires-clause-carries
take_last-clock-requires-clause-carries g c = let a = g.A.Agent in let K = g.C.Clock in let r = c.requires.left in let m = c.make_room in let code = c.args.code.now in let id = c.args.table.now.id in let q = m.ensures in let w = c.args.worker.now in let v = m.new.worker in
    (r.0, r.1, r.2, lane_bare a.over a.stands code id r.0 r.1 r.2 K.least K.faults K.readings v c.args.held.now c.requires.bare (kept_carrying a.over a.stands code id r.0 r.1 w v (just_lane r.1 code r.2) q.same q.hand q.entries r.3))

pub finish-requires-clause-ending : goal.finish-requires-clause-ending
finish-requires-clause-ending g c = let a = g.A.Agent in let K = g.C.Clock in let r = c.requires.left in let m = c.make_room in let code = c.args.code.now in let id = c.args.table.now.id in let q = m.ensures in let w = c.args.worker.now in let v = m.new.worker in let held = c.args.held.now in let task = c.args.task in let e = c.requires.ended in
    let s = lane_bare a.over a.stands code id r.0 r.1 r.2 K.least K.faults K.readings v held c.requires.bare (kept_carrying a.over a.stands code id r.0 r.1 w v (just_lane r.1 code r.2) q.same q.hand q.entries r.3) in (
      r.0,
      r.1,
      r.2,
      held,
      record {
        carries = c.take_last-clock.ensures.carries r.0 r.1 r.2 s;
        gone = record { left = r.4; program_is = r.5 };
        same = record { banks = λ i. refl; shards = λ i. refl; ready = refl; timers = refl };
        keep = record { registries = λ i. refl; waits = λ i. refl; ready = refl };
        may = (ended e.0, e.1, λ w n h lane lane2 timers timers2 ports looked ends. ends_draw a.over a.place a.advances a.gives a.starts (part_seen K.least K.faults K.readings) code w n h e.0 lane lane2 timers timers2 held held task ports looked ends (λ i. refl));
      },
    )

pub finish-requires-clause-room : goal.finish-requires-clause-room
finish-requires-clause-room g c = subst (λ e. 0 < room e) (sym c.take_last-clock.ensures.entries) c.in_ok-make_room.ensures.room

pub returns-clause-drew : goal.returns-clause-drew
returns-clause-drew g c = let q = c.make_room.ensures in drew_later q.same (same_turns c.args.worker.now.hand c.make_room.new.worker.hand q.hand) (drew_later c.take_last-clock.ensures.same c.take_last-clock.ensures.turns c.finish.ensures.drew)

pub returns-clause-stepped : goal.returns-clause-stepped
returns-clause-stepped g c = λ program n l lane left its. let a = g.A.Agent in let K = g.C.Clock in let m = c.make_room in let code = c.args.code.now in let id = c.args.table.now.id in let q = m.ensures in let w = c.args.worker.now in let v = m.new.worker in let held = c.args.held.now in let task = c.args.task in let e = c.requires.ended in
    let s = lane_bare a.over a.stands code id program n l K.least K.faults K.readings v held c.requires.bare (kept_carrying a.over a.stands code id program n w v (just_lane n code l) q.same q.hand q.entries lane) in
    c.finish.ensures.stepped program n l held (record {
      carries = c.take_last-clock.ensures.carries program n l s;
      gone = record { left = left; program_is = its };
      same = record { banks = λ i. refl; shards = λ i. refl; ready = refl; timers = refl };
      keep = record { registries = λ i. refl; waits = λ i. refl; ready = refl };
      may = (ended e.0, e.1, λ w n h lane lane2 timers timers2 ports looked ends. ends_draw a.over a.place a.advances a.gives a.starts (part_seen K.least K.faults K.readings) code w n h e.0 lane lane2 timers timers2 held held task ports looked ends (λ i. refl));
    })

pub returns-in_err-make_room-clause-kept : goal.returns-in_err-make_room-clause-kept
returns-in_err-make_room-clause-kept g c = err_any c.from_residual.result (λ program n l lane. let a = g.A.Agent in let q = c.make_room.ensures in let code = c.args.code.now in
    kept_carrying a.over a.stands code c.args.table.now.id program n c.args.worker.now c.make_room.new.worker (just_lane n code l) q.same q.hand q.entries lane)

pub returns-in_err-make_room-clause-refused : goal.returns-in_err-make_room-clause-refused
returns-in_err-make_room-clause-refused g c = let q = c.make_room.ensures in err_any c.from_residual.result (drew_none q.same (same_turns c.args.worker.now.hand c.make_room.new.worker.hand q.hand))

pub returns-clause-solo : goal.returns-clause-solo
returns-clause-solo g c = λ few most may. let a = g.A.Agent in let m = g.met.A.Agent in let code = c.args.code.now in let q = c.make_room in let t = c.take_last-clock in
    c.finish.ensures.solo few most (same_may a.over a.place a.stands a.advances a.gives a.starts m.advanced m.answered m.started code {P = MaySettle to_turn []} t.ensures.same t.ensures.turns (same_may a.over a.place a.stands a.advances a.gives a.starts m.advanced m.answered m.started code {P = MaySettle to_turn []} q.ensures.same (same_turns c.args.worker.now.hand q.new.worker.hand q.ensures.hand) may))
