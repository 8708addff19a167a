use Rattle.std.proofs.Common.{ℕ, List, Some, arith, refl}
use Rattle.ca_value.specs.Deadlines.{due}
use Rattle.ca_solo.specs.Stirs.{Ordered}
use Rattle.ca_table.specs.Parts.{clockwork_seen}
use Rattle.ca_table.specs.Worked.{Drew}
use Rattle.ca_table.proofs.Drawing.{drew_later}
use Rattle.ca_alone.specs.OwnTurn.{IsDue}
use Rattle.ca_alone.specs.Schedule.{Follow, MayTick}
use Rattle.ca_pool.specs.Costs.{cost_asked, is_marked}
use Rattle.ca_pool.specs.Lone.{MayGo}
use Rattle.ca_pool.proofs.Asides.{asked_reads}
use Rattle.ca_pool.proofs.Takens.{as_number, if_ok, same_show}
use Rattle.ca_pool.proofs.Lone.{same_may}
use Rattle.ca_pool.proofs.LoneClocks.{HasTicked}
use Rattle.ca_pool.proofs.Resolutions.{err_map}
use Rattle.ca_pool.proofs.tick.close_due.Goals as goal

pub tick_with-requires-clause-carries : goal.tick_with-requires-clause-carries
tick_with-requires-clause-carries g c = let a = g.A.Agent in let K = g.C.Clock in let r = c.requires.carries in let t = c.try_banks in
    (r.0, r.1, r.2, r.3, as_number a.over a.stands K.least K.faults K.readings r.0 c.args.code.now c.args.table.now.id r.1 t.new.worker r.2 c.args.worker.now.number t.new.worker.number (Some r.3) t.new.held t.ensures.same.number (t.ensures.carries r.0 r.1 r.2 (Some r.3) r.4), r.5)

pub draw_clock-requires-clause-carries : goal.draw_clock-requires-clause-carries
draw_clock-requires-clause-carries g c = let a = g.A.Agent in let K = g.C.Clock in let r = c.requires.carries in let t = c.try_banks in (
  r.0,
  r.1,
  r.2,
  r.3,
  t.new.held,
  as_number a.over a.stands K.least K.faults K.readings r.0 c.args.code.now c.args.table.now.id r.1 t.new.worker r.2 c.args.worker.now.number t.new.worker.number (Some r.3) t.new.held t.ensures.same.number (t.ensures.carries r.0 r.1 r.2 (Some r.3) r.4),
  same_show t.new.held,
  asked_reads c.args.now (clockwork_seen K.least K.faults K.readings r.3.value) (clockwork_seen K.least K.faults K.readings c.args.clockwork.value) r.5,
)

pub draw_clock-requires-in-Err-clause-carries : goal.draw_clock-requires-in-Err-clause-carries
draw_clock-requires-in-Err-clause-carries g c = let a = g.A.Agent in let K = g.C.Clock in let r = c.requires.carries in let t = c.try_banks in (
  r.0,
  r.1,
  r.2,
  r.3,
  t.new.held,
  as_number a.over a.stands K.least K.faults K.readings r.0 c.args.code.now c.args.table.now.id r.1 t.new.worker r.2 c.args.worker.now.number t.new.worker.number (Some r.3) t.new.held t.ensures.same.number (t.ensures.carries r.0 r.1 r.2 (Some r.3) r.4),
  same_show t.new.held,
  asked_reads c.args.now (clockwork_seen K.least K.faults K.readings r.3.value) (clockwork_seen K.least K.faults K.readings c.args.clockwork.value) r.5,
)

pub returns-in-Ok-true-clause-carries : goal.returns-in-Ok-true-clause-carries
returns-in-Ok-true-clause-carries g c = λ P n l clock0 s asked. let a = g.A.Agent in let K = g.C.Clock in let t = c.try_banks in
    c.tick_with.ensures.carries P n l clock0 (as_number a.over a.stands K.least K.faults K.readings P c.args.code.now c.args.table.now.id n t.new.worker l c.args.worker.now.number t.new.worker.number (Some clock0) t.new.held t.ensures.same.number (t.ensures.carries P n l (Some clock0) s)) asked

pub returns-in-Ok-true-clause-drew : goal.returns-in-Ok-true-clause-drew
returns-in-Ok-true-clause-drew g c = let t = c.try_banks in let k = c.tick_with in
    if_ok (λ x. Drew (cost_asked x) (is_marked x) t.new.worker k.new.worker) (λ x. Drew (cost_asked x) (is_marked x) c.args.worker.now k.new.worker) k.result (λ x d. drew_later t.ensures.same t.ensures.turns d) k.ensures.drew

pub returns-in-Ok-false-clause-carries : goal.returns-in-Ok-false-clause-carries
returns-in-Ok-false-clause-carries g c = λ P n l clock0 s asked. let a = g.A.Agent in let K = g.C.Clock in let t = c.try_banks in
    c.draw_clock.ensures.carries P n l clock0 t.new.held (as_number a.over a.stands K.least K.faults K.readings P c.args.code.now c.args.table.now.id n t.new.worker l c.args.worker.now.number t.new.worker.number (Some clock0) t.new.held t.ensures.same.number (t.ensures.carries P n l (Some clock0) s))
    (same_show t.new.held) (asked_reads c.args.now (clockwork_seen K.least K.faults K.readings clock0.value) (clockwork_seen K.least K.faults K.readings c.args.clockwork.value) asked)

pub returns-in-Err-clause-carries : goal.returns-in-Err-clause-carries
returns-in-Err-clause-carries g c = λ P n l clock0 s asked. let a = g.A.Agent in let K = g.C.Clock in let t = c.try_banks in
    c.draw_clock-in-Err.ensures.carries P n l clock0 t.new.held (as_number a.over a.stands K.least K.faults K.readings P c.args.code.now c.args.table.now.id n t.new.worker l c.args.worker.now.number t.new.worker.number (Some clock0) t.new.held t.ensures.same.number (t.ensures.carries P n l (Some clock0) s))
    (same_show t.new.held) (asked_reads c.args.now (clockwork_seen K.least K.faults K.readings clock0.value) (clockwork_seen K.least K.faults K.readings c.args.clockwork.value) asked)

pub returns-in-Ok-true-clause-solo : goal.returns-in-Ok-true-clause-solo
returns-in-Ok-true-clause-solo g c = let a = g.A.Agent in let m = g.met.A.Agent in let K = g.C.Clock in let t = c.try_banks in let p = c.tick_with in let code = c.args.code.now in let w = c.args.worker.now in let now = c.args.now in let ds = c.args.clockwork.value.timers.deadlines in
    if_ok
    (λ x. (k : Follow) (us : List ℕ) (most : ℕ) → IsDue ds now → Ordered (due now ds) us → MayGo a.over a.place a.stands a.advances a.gives a.starts code (MayTick k) most t.new.worker → HasTicked a.over a.place a.stands a.advances a.gives a.starts m.advanced m.answered m.started code k us most x p.new.worker)
    (λ x. (k : Follow) (us : List ℕ) (most : ℕ) → IsDue ds now → Ordered (due now ds) us → MayGo a.over a.place a.stands a.advances a.gives a.starts code (MayTick k) most w → HasTicked a.over a.place a.stands a.advances a.gives a.starts m.advanced m.answered m.started code k us most x p.new.worker)
    p.result (λ x f k us most is up may. f k us most is up (same_may a.over a.place a.stands a.advances a.gives a.starts m.advanced m.answered m.started code {P = MayTick k} {most = most} {old = w} {new = t.new.worker} t.ensures.same t.ensures.turns may))
    p.ensures.solo

pub returns-in-Ok-false-clause-solo : goal.returns-in-Ok-false-clause-solo
returns-in-Ok-false-clause-solo g c = λ k us most is up may.
    let lt = c.in-Ok-false.ensures.free c.in-Ok-false.field-0-test in let e = may.at.lone.1 in absurd (omega (arith, lt, e))

pub returns-in-Ok-true-clause-refused : goal.returns-in-Ok-true-clause-refused
returns-in-Ok-true-clause-refused g c = let t = c.try_banks in err_map c.tick_with.result (λ d. drew_later t.ensures.same t.ensures.turns d) c.tick_with.ensures.refused

pub returns-in-Err-clause-refused : goal.returns-in-Err-clause-refused
returns-in-Err-clause-refused g c = let t = c.try_banks in drew_later t.ensures.same t.ensures.turns (c.draw_clock-in-Err.ensures.drew refl)
