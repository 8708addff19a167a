use Rattle.std.proofs.Common.{◌≡◌, ◌∙◌, ℕ, ◌<◌, Some, None, sym, subst, []}
use Rattle.std.specs.Prelude.{option_map}
use Rattle.ca_journal.specs.Merge.{room}
use Rattle.ca_term.specs.Event.{port_number}
use Rattle.ca_meaning.specs.Body.{faulted}
use Rattle.ca_table.specs.Carriers.{just_lane}
use Rattle.ca_table.specs.Parts.{part_seen}
use Rattle.ca_table.proofs.Drawing.{drew_later, drew_none}
use Rattle.ca_table.proofs.HaltMoved.{faults_draw}
use Rattle.ca_pool.proofs.AtEvents.{bare_lane, kept_carrying, lane_bare, own_number, same_turns}
use Rattle.ca_pool.proofs.BanksHeld.{has_banks}
use Rattle.ca_pool.proofs.Resolutions.{err_any}
use Rattle.ca_alone.specs.Schedule.{MaySettle, to_turn}
use Rattle.ca_pool.proofs.Lone.{same_may}
use Rattle.ca_pool.proofs.task_end.fault.Goals as goal

pub take_banks-requires-clause-carries : goal.take_banks-requires-clause-carries
take_banks-requires-clause-carries g c = let a = g.A.Agent in let K = g.C.Clock in let r = c.requires.left in let m = c.make_room in let code = c.args.code.now in let id = c.args.table.now.id in let q = m.ensures in let w = c.args.worker.now in let v = m.new.worker in
    (r.0, r.1, r.2, lane_bare a.over a.stands code id r.0 r.1 r.2 K.least K.faults K.readings v c.args.held.now c.requires.bare (kept_carrying a.over a.stands code id r.0 r.1 w v (just_lane r.1 code r.2) q.same q.hand q.entries r.3))

pub finish_by_fault-requires-clause-carries : goal.finish_by_fault-requires-clause-carries
finish_by_fault-requires-clause-carries g c = let a = g.A.Agent in let K = g.C.Clock in let r = c.requires.left in let m = c.make_room in let code = c.args.code.now in let id = c.args.table.now.id in let q = m.ensures in let w = c.args.worker.now in let v = m.new.worker in let t = c.take_banks in
    let s = lane_bare a.over a.stands code id r.0 r.1 r.2 K.least K.faults K.readings v c.args.held.now c.requires.bare (kept_carrying a.over a.stands code id r.0 r.1 w v (just_lane r.1 code r.2) q.same q.hand q.entries r.3) in
    (r.0, r.1, r.2, own_number a.over a.stands code id r.0 r.1 r.2 K.least K.faults K.readings v t.new.worker None t.new.held t.ensures.same.number (t.ensures.carries r.0 r.1 r.2 s), record { left = r.4; program_is = r.5 })

pub finish_by_fault-requires-clause-may : goal.finish_by_fault-requires-clause-may
finish_by_fault-requires-clause-may g c = λ held2 closes. let a = g.A.Agent in let K = g.C.Clock in let f = c.args.fault in let p = c.args.place in
    (faulted f p, c.requires.faulted, λ w n h lane lane2 timers timers2 ports looked ends. faults_draw a.over a.place a.advances a.gives a.starts (part_seen K.least K.faults K.readings) c.args.code.now w n h f p lane lane2 timers timers2 c.take_banks.new.held held2 c.args.task ports looked ends closes)

pub finish_by_fault-requires-clause-result : goal.finish_by_fault-requires-clause-result
finish_by_fault-requires-clause-result g c = has_banks c.take_banks.new.held c.home_of-homes.result (λ (q : ℕ). option_map port_number c.args.task.result ≡ Some q) c.in_ok-take_banks.ensures.banks c.home_of-homes.ensures

pub finish_by_fault-requires-clause-ready : goal.finish_by_fault-requires-clause-ready
finish_by_fault-requires-clause-ready g c = c.take_banks.ensures.others.ready ∙ c.requires.bare.ready

pub finish_by_fault-requires-clause-timers : goal.finish_by_fault-requires-clause-timers
finish_by_fault-requires-clause-timers g c = c.take_banks.ensures.others.timers ∙ c.requires.bare.timers

pub finish_by_fault-requires-clause-room : goal.finish_by_fault-requires-clause-room
finish_by_fault-requires-clause-room g c = subst (λ e. 0 < room e) (sym c.take_banks.ensures.entries) c.in_ok-make_room.ensures.room

pub returns-clause-drew : goal.returns-clause-drew
returns-clause-drew g c = let q = c.make_room.ensures in drew_later q.same (same_turns c.args.worker.now.hand c.make_room.new.worker.hand q.hand) (drew_later c.take_banks.ensures.same c.take_banks.ensures.turns c.finish_by_fault.ensures.drew)

pub returns-clause-stepped : goal.returns-clause-stepped
returns-clause-stepped g c = λ program n l lane left its. let a = g.A.Agent in let K = g.C.Clock in let m = c.make_room in let code = c.args.code.now in let id = c.args.table.now.id in let q = m.ensures in let w = c.args.worker.now in let v = m.new.worker in let t = c.take_banks in
    let s = lane_bare a.over a.stands code id program n l K.least K.faults K.readings v c.args.held.now c.requires.bare (kept_carrying a.over a.stands code id program n w v (just_lane n code l) q.same q.hand q.entries lane) in
    c.finish_by_fault.ensures.stepped program n l (own_number a.over a.stands code id program n l K.least K.faults K.readings v t.new.worker None t.new.held t.ensures.same.number (t.ensures.carries program n l s)) (record { left = left; program_is = its })

pub returns-in_err-make_room-clause-kept : goal.returns-in_err-make_room-clause-kept
returns-in_err-make_room-clause-kept g c = err_any c.from_residual.result (λ program n l lane. let a = g.A.Agent in let q = c.make_room.ensures in let code = c.args.code.now in
    kept_carrying a.over a.stands code c.args.table.now.id program n c.args.worker.now c.make_room.new.worker (just_lane n code l) q.same q.hand q.entries lane)

pub returns-in_err-make_room-clause-refused : goal.returns-in_err-make_room-clause-refused
returns-in_err-make_room-clause-refused g c = let q = c.make_room.ensures in err_any c.from_residual.result (drew_none q.same (same_turns c.args.worker.now.hand c.make_room.new.worker.hand q.hand))

pub returns-in_err-take_banks-clause-kept : goal.returns-in_err-take_banks-clause-kept
returns-in_err-take_banks-clause-kept g c = err_any c.from_residual-in_err-take_banks.result (λ program n l lane. let a = g.A.Agent in let K = g.C.Clock in let m = c.make_room in let code = c.args.code.now in let id = c.args.table.now.id in let q = m.ensures in let w = c.args.worker.now in let v = m.new.worker in let t = c.take_banks in
    let s = lane_bare a.over a.stands code id program n l K.least K.faults K.readings v c.args.held.now c.requires.bare (kept_carrying a.over a.stands code id program n w v (just_lane n code l) q.same q.hand q.entries lane) in
    bare_lane a.over a.stands code id program n l K.least K.faults K.readings t.new.worker t.new.held c.in_err-take_banks.ensures.refused (own_number a.over a.stands code id program n l K.least K.faults K.readings v t.new.worker None t.new.held t.ensures.same.number (t.ensures.carries program n l s)))

pub returns-in_err-take_banks-clause-refused : goal.returns-in_err-take_banks-clause-refused
returns-in_err-take_banks-clause-refused g c = let q = c.make_room.ensures in err_any c.from_residual-in_err-take_banks.result (drew_later q.same (same_turns c.args.worker.now.hand c.make_room.new.worker.hand q.hand) (drew_none c.take_banks.ensures.same c.take_banks.ensures.turns))

pub returns-clause-solo : goal.returns-clause-solo
returns-clause-solo g c = λ few most may. let a = g.A.Agent in let m = g.met.A.Agent in let code = c.args.code.now in let q = c.make_room in let t = c.take_banks in
    c.finish_by_fault.ensures.solo few most (same_may a.over a.place a.stands a.advances a.gives a.starts m.advanced m.answered m.started code {P = MaySettle to_turn []} t.ensures.same t.ensures.turns (same_may a.over a.place a.stands a.advances a.gives a.starts m.advanced m.answered m.started code {P = MaySettle to_turn []} q.ensures.same (same_turns c.args.worker.now.hand q.new.worker.hand q.ensures.hand) may))
