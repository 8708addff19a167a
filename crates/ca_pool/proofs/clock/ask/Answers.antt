use Rattle.std.proofs.Common.{◌≡◌, ℕ, [], arith, Some}
use Rattle.ca_table.specs.Worked.{Drew}
use Rattle.ca_table.proofs.Drawing.{drew_later, drew_none}
use Rattle.ca_alone.specs.Schedule.{AtPicked}
use Rattle.ca_pool.specs.Costs.{cost_asked, is_marked}
use Rattle.ca_pool.specs.Lone.{HasAsked, MayGo}
use Rattle.ca_pool.proofs.Takens.{as_number, bare_in, bare_out, if_ok}
use Rattle.ca_pool.proofs.Lone.{same_may}
use Rattle.ca_pool.proofs.Resolutions.{err_map}
use Rattle.ca_pool.proofs.clock.ask.Goals as goal

pub try_clock-requires : goal.try_clock-requires
try_clock-requires g c = let a = g.A.Agent in let K = g.C.Clock in let r = c.requires.carries in let w = c.args.worker.now in record {
  carries =
      (r.0, r.1, r.2, bare_in a.over a.stands K.least K.faults K.readings r.0 c.args.code.now c.args.table.now.id r.1 w r.2 w.number c.args.held.now c.requires.bare r.3);
}

pub look-requires-clause-carries : goal.look-requires-clause-carries
look-requires-clause-carries g c = let a = g.A.Agent in let K = g.C.Clock in let r = c.requires.carries in let w = c.args.worker.now in let t = c.try_clock in let code = c.args.code.now in let id = c.args.table.now.id in let held = c.args.held.now in (
  r.0,
  r.1,
  r.2,
  as_number a.over a.stands K.least K.faults K.readings r.0 code id r.1 t.new.worker r.2 w.number t.new.worker.number (Some c.in-Some.clockwork) held t.ensures.same.number
      (c.in-Some.ensures.carries r.0 r.1 r.2 (bare_in a.over a.stands K.least K.faults K.readings r.0 code id r.1 w r.2 w.number held c.requires.bare r.3)),
)

pub returns-in-None-clause-carries : goal.returns-in-None-clause-carries
returns-in-None-clause-carries g c = λ P n l s. let a = g.A.Agent in let K = g.C.Clock in let w = c.args.worker.now in let t = c.try_clock in let code = c.args.code.now in let id = c.args.table.now.id in let held = c.args.held.now in
    bare_out a.over a.stands K.least K.faults K.readings P code id n t.new.worker l w.number held c.requires.bare
    (c.in-None.ensures.carries P n l (bare_in a.over a.stands K.least K.faults K.readings P code id n w l w.number held c.requires.bare s))

pub returns-in-None-clause-drew : goal.returns-in-None-clause-drew
returns-in-None-clause-drew g c = drew_none c.try_clock.ensures.same c.try_clock.ensures.turns

pub returns-in-Some-clause-carries : goal.returns-in-Some-clause-carries
returns-in-Some-clause-carries g c = λ P n l s. let a = g.A.Agent in let K = g.C.Clock in let w = c.args.worker.now in let t = c.try_clock in let code = c.args.code.now in let id = c.args.table.now.id in let held = c.args.held.now in
    c.look.ensures.carries P n l (as_number a.over a.stands K.least K.faults K.readings P code id n t.new.worker l w.number t.new.worker.number (Some c.in-Some.clockwork) held t.ensures.same.number
    (c.in-Some.ensures.carries P n l (bare_in a.over a.stands K.least K.faults K.readings P code id n w l w.number held c.requires.bare s)))

pub returns-in-Some-clause-drew : goal.returns-in-Some-clause-drew
returns-in-Some-clause-drew g c = let t = c.try_clock in let k = c.look in
    if_ok (λ x. Drew (cost_asked x) (is_marked x) t.new.worker k.new.worker) (λ x. Drew (cost_asked x) (is_marked x) c.args.worker.now k.new.worker) k.result (λ x d. drew_later t.ensures.same t.ensures.turns d) k.ensures.drew

pub returns-in-None-clause-solo : goal.returns-in-None-clause-solo
returns-in-None-clause-solo g c = λ most none may. let lt = c.in-None.ensures.free in let e = may.at.lone.1 in absurd (omega (arith, lt, e))

pub returns-in-Some-clause-solo : goal.returns-in-Some-clause-solo
returns-in-Some-clause-solo g c = let a = g.A.Agent in let m = g.met.A.Agent in let K = g.C.Clock in let t = c.try_clock in let k = c.look in let code = c.args.code.now in let w = c.args.worker.now in let us = k.new.ports.items in
    if_ok
    (λ x. (most : ℕ) → c.args.due.now.items ≡ [] → MayGo a.over a.place a.stands a.advances a.gives a.starts code AtPicked most t.new.worker → HasAsked a.over a.place a.stands a.advances a.gives a.starts code us most x k.new.worker)
    (λ x. (most : ℕ) → c.args.due.now.items ≡ [] → MayGo a.over a.place a.stands a.advances a.gives a.starts code AtPicked most w → HasAsked a.over a.place a.stands a.advances a.gives a.starts code us most x k.new.worker)
    k.result
    (λ x f most none may. f most none (same_may a.over a.place a.stands a.advances a.gives a.starts m.advanced m.answered m.started code {P = AtPicked} {most = most} {old = w} {new = t.new.worker} t.ensures.same t.ensures.turns may))
    k.ensures.solo

pub returns-in-Some-clause-refused : goal.returns-in-Some-clause-refused
returns-in-Some-clause-refused g c = let t = c.try_clock in err_map c.look.result (λ d. drew_later t.ensures.same t.ensures.turns d) c.look.ensures.refused
