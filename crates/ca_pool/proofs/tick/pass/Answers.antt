use Rattle.std.proofs.Common.{ℕ, List, subst}
use Rattle.ca_value.specs.Deadlines.{due}
use Rattle.ca_solo.specs.Stirs.{Ordered}
use Rattle.ca_table.specs.Parts.{clockwork_seen}
use Rattle.ca_table.specs.declared.part.Clockwork.{Clockwork}
use Rattle.ca_alone.specs.OwnTurn.{IsDue}
use Rattle.ca_alone.specs.Schedule.{Follow, MayTick}
use Rattle.ca_pool.specs.Lone.{MayGo}
use Rattle.ca_pool.proofs.Asides.{asked_reads}
use Rattle.ca_pool.proofs.Takens.{if_ok, same_show}
use Rattle.ca_pool.proofs.LoneClocks.{HasTicked}
use Rattle.ca_pool.proofs.tick.pass.Goals as goal

pub draw_clock-requires-clause-carries : goal.draw_clock-requires-clause-carries
draw_clock-requires-clause-carries g c = let K = g.C.Clock in let r = c.requires.carries in let held = c.args.held.now in
    (r.0, r.1, r.2, r.3, held, r.4, same_show held, asked_reads c.args.now (clockwork_seen K.least K.faults K.readings r.3.value) (clockwork_seen K.least K.faults K.readings c.args.clockwork.value) r.5)

pub returns-in-Err-clause-carries : goal.returns-in-Err-clause-carries
returns-in-Err-clause-carries g c = λ P n l clock0 s asked. let K = g.C.Clock in let held = c.args.held.now in
    c.draw_clock.ensures.carries P n l clock0 held s (same_show held) (asked_reads c.args.now (clockwork_seen K.least K.faults K.readings clock0.value) (clockwork_seen K.least K.faults K.readings c.args.clockwork.value) asked)

pub returns-in-Ok-clause-solo : goal.returns-in-Ok-clause-solo
returns-in-Ok-clause-solo g c = let a = g.A.Agent in let m = g.met.A.Agent in let K = g.C.Clock in let b = c.banks_due in let p = c.close_due in let code = c.args.code.now in let w = c.args.worker.now in let now = c.args.now in let ds = c.args.clockwork.value.timers.deadlines in let us = b.new.ports.items in
    let up = subst (λ (x : Clockwork g.row.C.Denot). Ordered (due now x.timers.deadlines) us) c.deref.ensures c.in-Ok.ensures.ordered in
    if_ok
    (λ x. (k : Follow) (us : List ℕ) (most : ℕ) → IsDue ds now → Ordered (due now ds) us → MayGo a.over a.place a.stands a.advances a.gives a.starts code (MayTick k) most w → HasTicked a.over a.place a.stands a.advances a.gives a.starts m.advanced m.answered m.started code k us most x p.new.worker)
    (λ x. (k : Follow) (most : ℕ) → IsDue ds now → MayGo a.over a.place a.stands a.advances a.gives a.starts code (MayTick k) most w → HasTicked a.over a.place a.stands a.advances a.gives a.starts m.advanced m.answered m.started code k us most x p.new.worker)
    p.result (λ x f k most is may. f k us most is up may)
    p.ensures.solo
