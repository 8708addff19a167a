use Rattle.std.proofs.Common.{◌≢◌, Some, refl, subst}
use Rattle.ca_commit.specs.Contents.{unmarked}
use Rattle.ca_commit.specs.Touched as said
use Rattle.ca_table.specs.Parts.{mark_view}
use Rattle.ca_table.specs.declared.part.Clockwork.{Clockwork}
use Rattle.ca_pool.proofs.Takens.{as_number, bare_in, bare_out, same_show}
use Rattle.ca_pool.proofs.Lone.{stayed_both, stayed_one, stayed_same}
use Rattle.ca_pool.proofs.idle.obey.Goals as goal

pub try_clock-requires : goal.try_clock-requires
try_clock-requires g c = let a = g.A.Agent in let K = g.C.Clock in let r = c.requires.carries in let w = c.args.worker.now in
    record { carries = (r.0, r.1, r.2, bare_in a.over a.stands K.least K.faults K.readings r.0 c.args.code.now c.args.table.now.id r.1 w r.2 w.number c.args.held.now c.requires.bare r.3) }

pub returns-in-None-clause-carries : goal.returns-in-None-clause-carries
returns-in-None-clause-carries g c = λ P n l s. let a = g.A.Agent in let K = g.C.Clock in let w = c.args.worker.now in let t = c.try_clock in let code = c.args.code.now in let id = c.args.table.now.id in let held = c.args.held.now in
    bare_out a.over a.stands K.least K.faults K.readings P code id n t.new.worker l w.number held c.requires.bare
    (c.in-None.ensures.carries P n l (bare_in a.over a.stands K.least K.faults K.readings P code id n w l w.number held c.requires.bare s))

pub draw_clock-requires-clause-carries : goal.draw_clock-requires-clause-carries
draw_clock-requires-clause-carries g c = let a = g.A.Agent in let K = g.C.Clock in let r = c.requires.carries in let w = c.args.worker.now in let t = c.try_clock in let code = c.args.code.now in let id = c.args.table.now.id in let held = c.args.held.now in (
  r.0,
  r.1,
  r.2,
  c.in-Some.clockwork,
  held,
  as_number a.over a.stands K.least K.faults K.readings r.0 code id r.1 t.new.worker r.2 w.number t.new.worker.number (Some c.in-Some.clockwork) held t.ensures.same.number
      (c.in-Some.ensures.carries r.0 r.1 r.2 (bare_in a.over a.stands K.least K.faults K.readings r.0 code id r.1 w r.2 w.number held c.requires.bare r.3)),
  same_show held,
  (refl, subst (λ (x : Clockwork g.row.C.Denot). mark_view x.mark ≢ unmarked) c.deref.ensures (c.is_marked.ensures c.if-is_marked.true)),
)

pub put_off-requires-clause-carries : goal.put_off-requires-clause-carries
put_off-requires-clause-carries g c = let a = g.A.Agent in let K = g.C.Clock in let r = c.requires.carries in let w = c.args.worker.now in let t = c.try_clock in let code = c.args.code.now in let id = c.args.table.now.id in let held = c.args.held.now in (
  r.0,
  r.1,
  r.2,
  as_number a.over a.stands K.least K.faults K.readings r.0 code id r.1 t.new.worker r.2 w.number t.new.worker.number (Some c.in-Some.clockwork) held t.ensures.same.number
      (c.in-Some.ensures.carries r.0 r.1 r.2 (bare_in a.over a.stands K.least K.faults K.readings r.0 code id r.1 w r.2 w.number held c.requires.bare r.3)),
)

pub returns-then-is_marked-clause-carries : goal.returns-then-is_marked-clause-carries
returns-then-is_marked-clause-carries g c = λ P n l s. let a = g.A.Agent in let K = g.C.Clock in let w = c.args.worker.now in let t = c.try_clock in let code = c.args.code.now in let id = c.args.table.now.id in let held = c.args.held.now in
    c.draw_clock.ensures.carries P n l c.in-Some.clockwork held
    (as_number a.over a.stands K.least K.faults K.readings P code id n t.new.worker l w.number t.new.worker.number (Some c.in-Some.clockwork) held t.ensures.same.number
    (c.in-Some.ensures.carries P n l (bare_in a.over a.stands K.least K.faults K.readings P code id n w l w.number held c.requires.bare s)))
    (same_show held) (refl, subst (λ (x : Clockwork g.row.C.Denot). mark_view x.mark ≢ unmarked) c.deref.ensures (c.is_marked.ensures c.if-is_marked.true))

pub returns-else-is_marked-clause-carries : goal.returns-else-is_marked-clause-carries
returns-else-is_marked-clause-carries g c = λ P n l s. let a = g.A.Agent in let K = g.C.Clock in let w = c.args.worker.now in let t = c.try_clock in let code = c.args.code.now in let id = c.args.table.now.id in let held = c.args.held.now in
    c.put_off.ensures.carries P n l
    (as_number a.over a.stands K.least K.faults K.readings P code id n t.new.worker l w.number t.new.worker.number (Some c.in-Some.clockwork) held t.ensures.same.number
    (c.in-Some.ensures.carries P n l (bare_in a.over a.stands K.least K.faults K.readings P code id n w l w.number held c.requires.bare s)))

pub returns-in-None-clause-stayed : goal.returns-in-None-clause-stayed
returns-in-None-clause-stayed g c = stayed_same c.try_clock.ensures.same c.try_clock.ensures.turns

pub returns-then-is_marked-clause-stayed : goal.returns-then-is_marked-clause-stayed
returns-then-is_marked-clause-stayed g c = let t = c.try_clock.ensures in let d = c.draw_clock.ensures in stayed_both (stayed_same t.same t.turns) (stayed_one {what = said.halts} d.same d.hand d.turn tt)

pub returns-else-is_marked-clause-stayed : goal.returns-else-is_marked-clause-stayed
returns-else-is_marked-clause-stayed g c = let t = c.try_clock.ensures in let p = c.put_off.ensures in stayed_both (stayed_same t.same t.turns) (stayed_same p.same p.turns)
