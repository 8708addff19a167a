use Rattle.std.proofs.Common.{◌∙◌, ◌∷◌, None, sym, subst}
use Rattle.ca_commit.specs.Contents.{whole}
use Rattle.ca_commit.specs.Showing.{waits_held}
use Rattle.ca_commit.specs.Waking.{IsPaused}
use Rattle.ca_alone.specs.Schedule.{MaySettle}
use Rattle.ca_pool.proofs.Lone.{same_may}
use Rattle.ca_pool.proofs.Stays.{same_turns}
use Rattle.ca_pool.proofs.Takens.{made_room, ready_same, served_ready, served_same}
use Rattle.ca_table.proofs.Drawing.{drew_later, drew_none}
use Rattle.ca_pool.proofs.settle.serve_taken.Goals as goal

pub take_ready-requires-clause-carries : goal.take_ready-requires-clause-carries
take_ready-requires-clause-carries g c = let r = c.requires.carries in (r.0, r.1, r.2, None, r.3)

pub prepare-requires-clause-paused : goal.prepare-requires-clause-paused
prepare-requires-clause-paused g c = λ w. subst (λ s. IsPaused g.A.Agent.place (whole (waits_held s) w)) (sym c.take_ready.ensures.others.shards) (c.requires.paused w)

pub draw_served-cost-requires-clause-carries : goal.draw_served-cost-requires-clause-carries
draw_served-cost-requires-clause-carries g c = let a = g.A.Agent in let K = g.C.Clock in let r = c.requires.carries in let w = c.args.worker.now in let t = c.take_ready in let p = c.prepare in let e = p.ensures in (
  r.0,
  r.1,
  r.2,
  made_room a.over a.stands K.least K.faults K.readings r.0 c.args.code.now c.args.table.now.id r.1 t.new.worker p.new.worker r.2 w.number None t.new.held p.new.held e.same e.hand e.entries (e.same.number ∙ t.ensures.same.number) e.shows (t.ensures.carries r.0 r.1 r.2 None r.3),
)

pub draw_served-cost-requires-clause-serves : goal.draw_served-cost-requires-clause-serves
draw_served-cost-requires-clause-serves g c = let t = c.take_ready in let p = c.prepare in let port = c.args.port.n in
    served_same t.new.held p.new.held port p.ensures.shows ∙ served_ready c.args.held.now t.new.held port t.ensures.others.banks t.ensures.others.shards ∙ c.requires.serves

pub draw_served-cost-requires-clause-paused : goal.draw_served-cost-requires-clause-paused
draw_served-cost-requires-clause-paused g c = λ w. subst (λ s. IsPaused g.A.Agent.place (whole (waits_held s) w)) (sym (c.prepare.ensures.shards ∙ c.take_ready.ensures.others.shards)) (c.requires.paused w)

pub draw_served-cost-requires-clause-ready : goal.draw_served-cost-requires-clause-ready
draw_served-cost-requires-clause-ready g c = ready_same c.take_ready.new.held c.prepare.new.held c.prepare.ensures.shows c.take_ready.ensures.there

pub draw_served-cost-requires-clause-timers : goal.draw_served-cost-requires-clause-timers
draw_served-cost-requires-clause-timers g c = c.prepare.ensures.numbers.0 ∙ c.take_ready.ensures.others.timers ∙ c.requires.timers

pub put_off-requires-clause-carries : goal.put_off-requires-clause-carries
put_off-requires-clause-carries g c = let a = g.A.Agent in let K = g.C.Clock in let r = c.requires.carries in let w = c.args.worker.now in let t = c.take_ready in let p = c.prepare in let e = p.ensures in (
  r.0,
  r.1,
  r.2,
  made_room a.over a.stands K.least K.faults K.readings r.0 c.args.code.now c.args.table.now.id r.1 t.new.worker p.new.worker r.2 w.number None t.new.held p.new.held e.same e.hand e.entries (e.same.number ∙ t.ensures.same.number) e.shows (t.ensures.carries r.0 r.1 r.2 None r.3),
)

pub put_off-requires-clause-timers : goal.put_off-requires-clause-timers
put_off-requires-clause-timers g c = c.prepare.ensures.numbers.0 ∙ c.take_ready.ensures.others.timers ∙ c.requires.timers

pub returns-in-Ok-clause-carries : goal.returns-in-Ok-clause-carries
returns-in-Ok-clause-carries g c = λ P n l s. let a = g.A.Agent in let K = g.C.Clock in let w = c.args.worker.now in let t = c.take_ready in let p = c.prepare in let e = p.ensures in
    c.draw_served-cost.ensures.carries P n l (made_room a.over a.stands K.least K.faults K.readings P c.args.code.now c.args.table.now.id n t.new.worker p.new.worker l w.number None t.new.held p.new.held e.same e.hand e.entries (e.same.number ∙ t.ensures.same.number) e.shows (t.ensures.carries P n l None s))

pub returns-in-Err-clause-carries : goal.returns-in-Err-clause-carries
returns-in-Err-clause-carries g c = λ P n l s. let a = g.A.Agent in let K = g.C.Clock in let w = c.args.worker.now in let t = c.take_ready in let p = c.prepare in let e = p.ensures in
    c.put_off.ensures.carries P n l (made_room a.over a.stands K.least K.faults K.readings P c.args.code.now c.args.table.now.id n t.new.worker p.new.worker l w.number None t.new.held p.new.held e.same e.hand e.entries (e.same.number ∙ t.ensures.same.number) e.shows (t.ensures.carries P n l None s))

pub returns-in-Ok-clause-solo : goal.returns-in-Ok-clause-solo
returns-in-Ok-clause-solo g c = λ k us most m. let a = g.A.Agent in let w = c.args.worker.now in let t = c.take_ready in let p = c.prepare in let at = MaySettle k (c.args.port.n ∷ us) in
    let taken_may = same_may a.over a.place a.stands a.advances a.gives a.starts g.met.A.Agent.advanced g.met.A.Agent.answered g.met.A.Agent.started c.args.code.now {P = at} {old = w} {new = t.new.worker} t.ensures.same t.ensures.turns m in
    c.draw_served-cost.ensures.solo k us most (same_may a.over a.place a.stands a.advances a.gives a.starts g.met.A.Agent.advanced g.met.A.Agent.answered g.met.A.Agent.started c.args.code.now {P = at} {old = t.new.worker} {new = p.new.worker} p.ensures.same (same_turns t.new.worker.hand p.new.worker.hand p.ensures.hand) taken_may)

pub returns-in-Err-clause-refused : goal.returns-in-Err-clause-refused
returns-in-Err-clause-refused g c = let t = c.take_ready in let p = c.prepare in let v = c.put_off in drew_later t.ensures.same t.ensures.turns (drew_later p.ensures.same (same_turns t.new.worker.hand p.new.worker.hand p.ensures.hand) (drew_none v.ensures.same v.ensures.turns))
