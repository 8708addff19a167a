use Rattle.std.proofs.Common.{ℕ, Some}
use Rattle.ca_table.specs.Worked.{Drew}
use Rattle.ca_table.proofs.Drawing.{drew_later}
use Rattle.ca_alone.specs.Schedule.{AtEmpty, MaySettle, to_rest}
use Rattle.ca_pool.specs.Costs.{cost_idle, is_over}
use Rattle.ca_pool.specs.Lone.{MayGo, Went}
use Rattle.ca_pool.proofs.Takens.{as_number, bare_in, bare_out, if_ok}
use Rattle.ca_pool.proofs.Lone.{same_may}
use Rattle.ca_pool.proofs.LoneClocks.{rests_empty}
use Rattle.ca_pool.proofs.AtWork.{gave_after, if_err}
use Rattle.ca_pool.proofs.idle.await_deadline.Goals as goal

pub try_clock-requires : goal.try_clock-requires
try_clock-requires g c = let a = g.A.Agent in let K = g.C.Clock in let r = c.requires.carries in let w = c.args.worker.now in
    record { carries = (r.0, r.1, r.2, bare_in a.over a.stands K.least K.faults K.readings r.0 c.args.code.now c.args.table.now.id r.1 w r.2 w.number c.args.held.now c.requires.bare r.3) }

pub wait_with-requires-clause-carries : goal.wait_with-requires-clause-carries
wait_with-requires-clause-carries g c = let a = g.A.Agent in let K = g.C.Clock in let r = c.requires.carries in let w = c.args.worker.now in let t = c.try_clock in let code = c.args.code.now in let id = c.args.table.now.id in let held = c.args.held.now in (
  r.0,
  r.1,
  r.2,
  as_number a.over a.stands K.least K.faults K.readings r.0 code id r.1 t.new.worker r.2 w.number t.new.worker.number (Some c.in-Some.clockwork) held t.ensures.same.number
      (c.in-Some.ensures.carries r.0 r.1 r.2 (bare_in a.over a.stands K.least K.faults K.readings r.0 code id r.1 w r.2 w.number held c.requires.bare r.3)),
)

pub returns-in-None-clause-carries : goal.returns-in-None-clause-carries
returns-in-None-clause-carries g c = λ P n l s. let a = g.A.Agent in let K = g.C.Clock in let w = c.args.worker.now in let t = c.try_clock in let code = c.args.code.now in let id = c.args.table.now.id in let held = c.args.held.now in
    bare_out a.over a.stands K.least K.faults K.readings P code id n t.new.worker l w.number held c.requires.bare
    (c.in-None.ensures.carries P n l (bare_in a.over a.stands K.least K.faults K.readings P code id n w l w.number held c.requires.bare s))

pub returns-in-Some-clause-carries : goal.returns-in-Some-clause-carries
returns-in-Some-clause-carries g c = λ P n l s. let a = g.A.Agent in let K = g.C.Clock in let w = c.args.worker.now in let t = c.try_clock in let code = c.args.code.now in let id = c.args.table.now.id in let held = c.args.held.now in
    c.wait_with.ensures.carries P n l (as_number a.over a.stands K.least K.faults K.readings P code id n t.new.worker l w.number t.new.worker.number (Some c.in-Some.clockwork) held t.ensures.same.number
    (c.in-Some.ensures.carries P n l (bare_in a.over a.stands K.least K.faults K.readings P code id n w l w.number held c.requires.bare s)))

pub returns-in-Some-clause-drew : goal.returns-in-Some-clause-drew
returns-in-Some-clause-drew g c = let t = c.try_clock in let k = c.wait_with in
    if_ok (λ x. Drew (cost_idle x) (is_over x) t.new.worker k.new.worker) (λ x. Drew (cost_idle x) (is_over x) c.args.worker.now k.new.worker) k.result (λ x d. drew_later t.ensures.same t.ensures.turns d) k.ensures.drew

pub returns-in-None-clause-solo : goal.returns-in-None-clause-solo
returns-in-None-clause-solo g c = λ most may. let a = g.A.Agent in let m = g.met.A.Agent in let K = g.C.Clock in let t = c.try_clock in let w = c.args.worker.now in let code = c.args.code.now in
    rests_empty a.over a.place a.stands a.advances a.gives a.starts m.advanced m.answered m.started code c.args.ports.now.items {most = most} {w = t.new.worker} (same_may a.over a.place a.stands a.advances a.gives a.starts m.advanced m.answered m.started code {P = AtEmpty} {most = most} {old = w} {new = t.new.worker} t.ensures.same t.ensures.turns may)

pub returns-in-Some-clause-solo : goal.returns-in-Some-clause-solo
returns-in-Some-clause-solo g c = let a = g.A.Agent in let m = g.met.A.Agent in let K = g.C.Clock in let t = c.try_clock in let k = c.wait_with in let code = c.args.code.now in let w = c.args.worker.now in let us = k.new.ports.items in
    if_ok
    (λ x. (most : ℕ) → MayGo a.over a.place a.stands a.advances a.gives a.starts code AtEmpty most t.new.worker → Went a.over a.place a.stands a.advances a.gives a.starts code (MaySettle to_rest us) most k.new.worker)
    (λ x. (most : ℕ) → MayGo a.over a.place a.stands a.advances a.gives a.starts code AtEmpty most w → Went a.over a.place a.stands a.advances a.gives a.starts code (MaySettle to_rest us) most k.new.worker)
    k.result (λ x f most may. f most (same_may a.over a.place a.stands a.advances a.gives a.starts m.advanced m.answered m.started code {P = AtEmpty} {most = most} {old = w} {new = t.new.worker} t.ensures.same t.ensures.turns may)) k.ensures.solo

pub returns-in-Some-clause-stopped : goal.returns-in-Some-clause-stopped
returns-in-Some-clause-stopped g c = let t = c.try_clock in if_err c.wait_with.result (λ s gave. gave_after t.ensures.same t.ensures.turns gave) c.wait_with.ensures.stopped
