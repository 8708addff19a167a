use Rattle.std.proofs.Common.{Some}
use Rattle.ca_commit.specs.Touched as said
use Rattle.ca_table.proofs.Drawing.{hands_both, turn_later}
use Rattle.ca_pool.proofs.Takens.{as_number, bare_in, same_show}
use Rattle.ca_pool.proofs.clock.stop.Goals as goal

pub take_clock-clockwork-requires-clause-carries : goal.take_clock-clockwork-requires-clause-carries
take_clock-clockwork-requires-clause-carries g c = let a = g.A.Agent in let K = g.C.Clock in let r = c.requires.carries in let w = c.args.worker.now in
    (r.0, r.1, r.2, bare_in a.over a.stands K.least K.faults K.readings r.0 c.args.code.now c.args.table.now.id r.1 w r.2 w.number c.args.held.now c.requires.bare r.3)

pub draw_clock-requires-clause-carries : goal.draw_clock-requires-clause-carries
draw_clock-requires-clause-carries g c = let a = g.A.Agent in let K = g.C.Clock in let r = c.requires.carries in let w = c.args.worker.now in let t = c.take_clock-clockwork in let code = c.args.code.now in let id = c.args.table.now.id in let held = c.args.held.now in (
  r.0,
  r.1,
  r.2,
  t.result,
  held,
  as_number a.over a.stands K.least K.faults K.readings r.0 code id r.1 t.new.worker r.2 w.number t.new.worker.number (Some t.result) held t.ensures.same.number
      (t.ensures.carries r.0 r.1 r.2 (bare_in a.over a.stands K.least K.faults K.readings r.0 code id r.1 w r.2 w.number held c.requires.bare r.3)),
  same_show held,
  c.with_mark-stopped.ensures,
)

pub returns-clause-carries : goal.returns-clause-carries
returns-clause-carries g c = λ P n l s. let a = g.A.Agent in let K = g.C.Clock in let w = c.args.worker.now in let t = c.take_clock-clockwork in let code = c.args.code.now in let id = c.args.table.now.id in let held = c.args.held.now in
    c.draw_clock.ensures.carries P n l t.result held
    (as_number a.over a.stands K.least K.faults K.readings P code id n t.new.worker l w.number t.new.worker.number (Some t.result) held t.ensures.same.number
    (t.ensures.carries P n l (bare_in a.over a.stands K.least K.faults K.readings P code id n w l w.number held c.requires.bare s)))
    (same_show held) c.with_mark-stopped.ensures

pub returns-clause-hand : goal.returns-clause-hand
returns-clause-hand g c = hands_both c.args.worker.now.hand c.take_clock-clockwork.new.worker.hand c.draw_clock.new.worker.hand c.take_clock-clockwork.ensures.turns.same c.draw_clock.ensures.hand

pub returns-clause-turn : goal.returns-clause-turn
returns-clause-turn g c = turn_later c.args.worker.now.hand c.take_clock-clockwork.new.worker.hand c.draw_clock.new.worker.hand said.stops c.take_clock-clockwork.ensures.turns c.draw_clock.ensures.turn
