use Rattle.std.proofs.Common.{◌≡◌, ◌∙◌, None, refl, sym, ap, subst, []}
use Rattle.ca_term.specs.declared.place.Place.{Place}
use Rattle.ca_term.specs.Operation.{WantView}
use Rattle.ca_meaning.specs.Body.{at_op}
use Rattle.ca_commit.specs.Planning.{to_refuse}
use Rattle.ca_commit.specs.Tasks.{agent_of}
use Rattle.ca_table.specs.Parts.{part_seen}
use Rattle.ca_table.proofs.Drawing.{drew_later, drew_none}
use Rattle.ca_table.proofs.HaltMoved.{refusals_draw}
use Rattle.ca_pool.specs.Desk.{desk_taken}
use Rattle.ca_pool.specs.Endings.{MayEndFaulted}
use Rattle.ca_pool.proofs.AtEvents.{kept_carrying, own_number, same_turns}
use Rattle.ca_pool.proofs.BanksHeld.{named_needed}
use Rattle.ca_pool.proofs.PlansReadied.{from_its_start}
use Rattle.ca_alone.specs.Schedule.{MaySettle, to_turn}
use Rattle.ca_pool.proofs.Lone.{same_may}
use Rattle.ca_pool.proofs.task_end.refuse.Goals as goal

same_want : (x y : WantView) → at_op x ≡ at_op y → x ≡ y
same_want x y e = cc

pub put_off-requires-clause-carries : goal.put_off-requires-clause-carries
put_off-requires-clause-carries g c = let a = g.A.Agent in let K = g.C.Clock in let r = c.requires.carries in let m = c.make_room in let code = c.args.code.now in let id = c.args.table.now.id in let q = m.ensures in let w = c.args.worker.now in let v = m.new.worker in
    (r.0, r.1, r.2, own_number a.over a.stands code id r.0 r.1 r.2 K.least K.faults K.readings w v None c.args.held.now q.same.number (kept_carrying a.over a.stands code id r.0 r.1 w v (desk_taken (part_seen K.least K.faults K.readings) r.1 code w.number r.2 None c.args.held.now) q.same q.hand q.entries r.3))

pub finish_by_fault-requires-clause-carries : goal.finish_by_fault-requires-clause-carries
finish_by_fault-requires-clause-carries g c = let a = g.A.Agent in let K = g.C.Clock in let r = c.requires.carries in let m = c.make_room in let code = c.args.code.now in let id = c.args.table.now.id in let q = m.ensures in let w = c.args.worker.now in let v = m.new.worker in
    (r.0, r.1, r.2, own_number a.over a.stands code id r.0 r.1 r.2 K.least K.faults K.readings w v None c.args.held.now q.same.number (kept_carrying a.over a.stands code id r.0 r.1 w v (desk_taken (part_seen K.least K.faults K.readings) r.1 code w.number r.2 None c.args.held.now) q.same q.hand q.entries r.3), r.4)

pub finish_by_fault-requires-clause-may : goal.finish_by_fault-requires-clause-may
finish_by_fault-requires-clause-may g c = let a = g.A.Agent in let K = g.C.Clock in let f = c.args.fault in let s = c.requires.resolved in let held = c.args.held.now in let task = c.args.task in let plan = from_its_start a.place held (to_refuse f) (agent_of task) s.plan_for in let seen = part_seen K.least K.faults K.readings in let code = c.args.code.now in
    let place_is = ap (λ (x : WantView). x.place) (same_want plan.0 _ (sym plan.1 ∙ c.want.ensures)) in
    subst (λ (p : Place). MayEndFaulted a.over a.place a.advances a.gives a.starts seen code f p task held) place_is
    (λ held2 closes. (at_op plan.0, plan.1, λ w n h lane lane2 timers timers2 ports looked ends. refusals_draw a.over a.place a.advances a.gives a.starts seen code w n h f lane lane2 timers timers2 held held2 task ports looked plan (λ q e. s.named plan.0 plan.1 q (named_needed plan.0.op held.new_port q e)) ends closes))

pub finish_by_fault-requires-clause-result : goal.finish_by_fault-requires-clause-result
finish_by_fault-requires-clause-result g c = c.requires.resolved.result c.args.fault refl

pub returns-in-Ok-clause-drew : goal.returns-in-Ok-clause-drew
returns-in-Ok-clause-drew g c = let q = c.make_room.ensures in drew_later q.same (same_turns c.args.worker.now.hand c.make_room.new.worker.hand q.hand) c.finish_by_fault.ensures.drew

pub returns-in-Ok-clause-stepped : goal.returns-in-Ok-clause-stepped
returns-in-Ok-clause-stepped g c = λ program n l s gone. let a = g.A.Agent in let K = g.C.Clock in let m = c.make_room in let code = c.args.code.now in let id = c.args.table.now.id in let q = m.ensures in let w = c.args.worker.now in let v = m.new.worker in
    c.finish_by_fault.ensures.stepped program n l (own_number a.over a.stands code id program n l K.least K.faults K.readings w v None c.args.held.now q.same.number (kept_carrying a.over a.stands code id program n w v (desk_taken (part_seen K.least K.faults K.readings) n code w.number l None c.args.held.now) q.same q.hand q.entries s)) gone

pub returns-in-Err-clause-kept : goal.returns-in-Err-clause-kept
returns-in-Err-clause-kept g c = λ program n l s. let a = g.A.Agent in let K = g.C.Clock in let m = c.make_room in let code = c.args.code.now in let id = c.args.table.now.id in let q = m.ensures in let w = c.args.worker.now in let v = m.new.worker in
    c.put_off.ensures.carries program n l (own_number a.over a.stands code id program n l K.least K.faults K.readings w v None c.args.held.now q.same.number (kept_carrying a.over a.stands code id program n w v (desk_taken (part_seen K.least K.faults K.readings) n code w.number l None c.args.held.now) q.same q.hand q.entries s))

pub returns-in-Err-clause-refused : goal.returns-in-Err-clause-refused
returns-in-Err-clause-refused g c = let q = c.make_room.ensures in drew_later q.same (same_turns c.args.worker.now.hand c.make_room.new.worker.hand q.hand) (drew_none c.put_off.ensures.same c.put_off.ensures.turns)

pub returns-in-Ok-clause-solo : goal.returns-in-Ok-clause-solo
returns-in-Ok-clause-solo g c = λ few most may. let a = g.A.Agent in let m = g.met.A.Agent in let code = c.args.code.now in let q = c.make_room in
    c.finish_by_fault.ensures.solo few most (same_may a.over a.place a.stands a.advances a.gives a.starts m.advanced m.answered m.started code {P = MaySettle to_turn []} q.ensures.same (same_turns c.args.worker.now.hand q.new.worker.hand q.ensures.hand) may)
