use Rattle.std.proofs.Common.{Some, ◌≡◌, ℕ, [], subst, sym}
use Rattle.ca_commit.specs.Contents.{TimersPart}
use Rattle.ca_table.specs.Worked.{Drew}
use Rattle.ca_table.proofs.Drawing.{drew_later, drew_none}
use Rattle.ca_alone.specs.Schedule.{AtPicked}
use Rattle.ca_pool.specs.Costs.{cost_asked, is_marked}
use Rattle.ca_pool.specs.Asking.{IsFirstMoment}
use Rattle.ca_pool.specs.Lone.{HasAsked, MayGo}
use Rattle.ca_pool.proofs.Stays.{same_turns}
use Rattle.ca_pool.proofs.Takens.{as_clocked, for_ok, if_ok, made_room, same_show}
use Rattle.ca_pool.proofs.Lone.{same_may}
use Rattle.ca_pool.proofs.Resolutions.{err_map}
use Rattle.ca_pool.proofs.clock.read.Goals as goal

pub read_now-requires-clause-carries : goal.read_now-requires-clause-carries
read_now-requires-clause-carries g c = let a = g.A.Agent in let K = g.C.Clock in let r = c.requires.carries in let t = c.ready_to_ask-clockwork in let e = t.ensures in let w = c.args.worker.now in let held = c.args.held.now in let code = c.args.code.now in let id = c.args.table.now.id in (
  r.0,
  r.1,
  r.2,
  made_room a.over a.stands K.least K.faults K.readings r.0 code id r.1 w t.new.worker r.2 w.number (Some t.result.0) held held e.same e.hand e.entries e.same.number (same_show held)
      (as_clocked a.over a.stands K.least K.faults K.readings r.0 code id r.1 w r.2 w.number c.args.clockwork t.result.0 held e.seen r.3),
)

pub read_now-requires-clause-asking : goal.read_now-requires-clause-asking
read_now-requires-clause-asking g c = for_ok c.ready_to_ask-clockwork.result.1 _ c.in-Ok.is c.ready_to_ask-clockwork.ensures.asking

pub read_now-requires-clause-room : goal.read_now-requires-clause-room
read_now-requires-clause-room g c = for_ok c.ready_to_ask-clockwork.result.1 _ c.in-Ok.is c.ready_to_ask-clockwork.ensures.room

pub put_off-requires-clause-carries : goal.put_off-requires-clause-carries
put_off-requires-clause-carries g c = let a = g.A.Agent in let K = g.C.Clock in let r = c.requires.carries in let t = c.ready_to_ask-clockwork in let e = t.ensures in let w = c.args.worker.now in let held = c.args.held.now in let code = c.args.code.now in let id = c.args.table.now.id in (
  r.0,
  r.1,
  r.2,
  made_room a.over a.stands K.least K.faults K.readings r.0 code id r.1 w t.new.worker r.2 w.number (Some t.result.0) held held e.same e.hand e.entries e.same.number (same_show held)
      (as_clocked a.over a.stands K.least K.faults K.readings r.0 code id r.1 w r.2 w.number c.args.clockwork t.result.0 held e.seen r.3),
)

pub returns-in-Ok-clause-carries : goal.returns-in-Ok-clause-carries
returns-in-Ok-clause-carries g c = λ P n l s. let a = g.A.Agent in let K = g.C.Clock in let t = c.ready_to_ask-clockwork in let e = t.ensures in let w = c.args.worker.now in let held = c.args.held.now in let code = c.args.code.now in let id = c.args.table.now.id in
    c.read_now.ensures.carries P n l (made_room a.over a.stands K.least K.faults K.readings P code id n w t.new.worker l w.number (Some t.result.0) held held e.same e.hand e.entries e.same.number (same_show held)
    (as_clocked a.over a.stands K.least K.faults K.readings P code id n w l w.number c.args.clockwork t.result.0 held e.seen s))

pub returns-in-Ok-clause-drew : goal.returns-in-Ok-clause-drew
returns-in-Ok-clause-drew g c = let t = c.ready_to_ask-clockwork in let k = c.read_now in
    if_ok (λ x. Drew (cost_asked x) (is_marked x) t.new.worker k.new.worker) (λ x. Drew (cost_asked x) (is_marked x) c.args.worker.now k.new.worker) k.result (λ x d. drew_later t.ensures.same (same_turns c.args.worker.now.hand t.new.worker.hand t.ensures.hand) d) k.ensures.drew

pub returns-in-Err-clause-carries : goal.returns-in-Err-clause-carries
returns-in-Err-clause-carries g c = λ P n l s. let a = g.A.Agent in let K = g.C.Clock in let t = c.ready_to_ask-clockwork in let e = t.ensures in let w = c.args.worker.now in let held = c.args.held.now in let code = c.args.code.now in let id = c.args.table.now.id in
    c.put_off.ensures.carries P n l (made_room a.over a.stands K.least K.faults K.readings P code id n w t.new.worker l w.number (Some t.result.0) held held e.same e.hand e.entries e.same.number (same_show held)
    (as_clocked a.over a.stands K.least K.faults K.readings P code id n w l w.number c.args.clockwork t.result.0 held e.seen s))

pub returns-in-Ok-clause-solo : goal.returns-in-Ok-clause-solo
returns-in-Ok-clause-solo g c = let a = g.A.Agent in let m = g.met.A.Agent in let K = g.C.Clock in let t = c.ready_to_ask-clockwork in let k = c.read_now in let code = c.args.code.now in let w = c.args.worker.now in let us = k.new.ports.items in let first = c.args.first in
    if_ok
    (λ x. (most : ℕ) → c.args.ports.now.items ≡ [] → IsFirstMoment first t.result.0.value.timers.deadlines → MayGo a.over a.place a.stands a.advances a.gives a.starts code AtPicked most t.new.worker → HasAsked a.over a.place a.stands a.advances a.gives a.starts code us most x k.new.worker)
    (λ x. (most : ℕ) → c.args.ports.now.items ≡ [] → IsFirstMoment first c.args.clockwork.value.timers.deadlines → MayGo a.over a.place a.stands a.advances a.gives a.starts code AtPicked most w → HasAsked a.over a.place a.stands a.advances a.gives a.starts code us most x k.new.worker)
    k.result
    (λ x f most none is may. f most none (subst (λ (z : TimersPart). IsFirstMoment first z.deadlines) (sym t.ensures.seen) is)
    (same_may a.over a.place a.stands a.advances a.gives a.starts m.advanced m.answered m.started code {P = AtPicked} {most = most} {old = w} {new = t.new.worker} t.ensures.same (same_turns w.hand t.new.worker.hand t.ensures.hand) may))
    k.ensures.solo

pub returns-in-Ok-clause-refused : goal.returns-in-Ok-clause-refused
returns-in-Ok-clause-refused g c = let t = c.ready_to_ask-clockwork in err_map c.read_now.result (λ d. drew_later t.ensures.same (same_turns c.args.worker.now.hand t.new.worker.hand t.ensures.hand) d) c.read_now.ensures.refused

pub returns-in-Err-clause-refused : goal.returns-in-Err-clause-refused
returns-in-Err-clause-refused g c = let t = c.ready_to_ask-clockwork in let v = c.put_off in drew_later t.ensures.same (same_turns c.args.worker.now.hand t.new.worker.hand t.ensures.hand) (drew_none v.ensures.same v.ensures.turns)
