use Rattle.std.proofs.Common.{◌≡◌, ◌≢◌, ◌∙◌, ℕ, [], None, refl, subst, sym}
use Rattle.std.specs.Prelude.{option_map, slice_get}
use Rattle.ca_value.specs.Deadlines.{Deadline}
use Rattle.ca_commit.specs.Contents.{unmarked}
use Rattle.ca_commit.specs.Touched as said
use Rattle.ca_table.specs.Parts.{mark_view}
use Rattle.ca_table.specs.declared.part.Clockwork.{Clockwork}
use Rattle.ca_alone.specs.Schedule.{AtPicked, MaySettle, to_turn}
use Rattle.ca_pool.specs.Asking.{IsFirstMoment}
use Rattle.ca_pool.specs.Lone.{HasAsked, MayGo}
use Rattle.ca_pool.proofs.Takens.{if_ok, same_show}
use Rattle.ca_pool.proofs.Lone.{same_lone, stayed_may, stayed_one}
use Rattle.ca_pool.proofs.LoneClocks.{none_closed, none_open, stops_picked, untimed_lone}
use Rattle.ca_pool.proofs.clock.look.Goals as goal

pub draw_clock-requires-clause-carries : goal.draw_clock-requires-clause-carries
draw_clock-requires-clause-carries g c = let r = c.requires.carries in let held = c.args.held.now in
    (r.0, r.1, r.2, c.args.clockwork, held, r.3, same_show held, (refl, subst (λ (x : Clockwork g.row.C.Denot). mark_view x.mark ≢ unmarked) c.deref.ensures (c.is_marked.ensures c.if-is_marked.true)))

pub returns-then-is_marked-clause-carries : goal.returns-then-is_marked-clause-carries
returns-then-is_marked-clause-carries g c = λ P n l s. let held = c.args.held.now in c.draw_clock.ensures.carries P n l c.args.clockwork held s (same_show held) (refl, subst (λ (x : Clockwork g.row.C.Denot). mark_view x.mark ≢ unmarked) c.deref.ensures (c.is_marked.ensures c.if-is_marked.true))

pub returns-then-is_marked-clause-solo : goal.returns-then-is_marked-clause-solo
returns-then-is_marked-clause-solo g c = λ most none may. let a = g.A.Agent in let m = g.met.A.Agent in let K = g.C.Clock in let d = c.draw_clock in let e = d.ensures in let w = c.args.worker.now in let code = c.args.code.now in
    stops_picked a.over a.place a.stands a.advances a.gives a.starts m.advanced m.answered m.started code {most = most} {w = d.new.worker} (stayed_may a.over a.place a.stands a.advances a.gives a.starts m.advanced m.answered m.started code {P = AtPicked} {most = most} {old = w} {new = d.new.worker} (stayed_one {what = said.halts} e.same e.hand e.turn tt) may)

pub returns-in-None-clause-solo : goal.returns-in-None-clause-solo
returns-in-None-clause-solo g c = λ most none may. let a = g.A.Agent in let m = g.met.A.Agent in let K = g.C.Clock in let r = c.requires.carries in let p = c.put_off in let w = c.args.worker.now in let code = c.args.code.now in let id = c.args.table.now.id in let clock = c.args.clockwork in
    let none_is = none_open clock.value.timers.deadlines (subst (λ (x : Clockwork g.row.C.Denot). option_map (λ (d : Deadline). d.moment) (slice_get x.timers.deadlines 0) ≡ None) c.deref-2.ensures (sym c.first.ensures.first ∙ c.in-None.is)) in
    none_closed a.over a.place a.stands a.advances a.gives a.starts m.advanced m.answered m.started code c.args.ports.now.items {w = p.new.worker} none
    (same_lone a.over a.place a.stands a.advances a.gives a.starts m.advanced m.answered m.started code {P = MaySettle to_turn []} {old = w} {new = p.new.worker} p.ensures.same p.ensures.turns
    (untimed_lone a.over a.place a.stands a.advances a.gives a.starts m.advanced m.answered m.started code K.least K.faults K.readings id r.0 r.1 r.2 clock c.args.held.now w may.at.lone r.3 none_is may.at))

pub returns-in-Some-clause-solo : goal.returns-in-Some-clause-solo
returns-in-Some-clause-solo g c = let a = g.A.Agent in let m = g.met.A.Agent in let K = g.C.Clock in let k = c.read in let w = c.args.worker.now in let code = c.args.code.now in let first = c.in-Some.first in let us = k.new.ports.items in
    let is = subst (λ (x : Clockwork g.row.C.Denot). IsFirstMoment first x.timers.deadlines) c.deref-2.ensures (sym c.first.ensures.first ∙ c.in-Some.is) in
    if_ok
    (λ x. (most : ℕ) → c.args.ports.now.items ≡ [] → IsFirstMoment first c.args.clockwork.value.timers.deadlines → MayGo a.over a.place a.stands a.advances a.gives a.starts code AtPicked most w → HasAsked a.over a.place a.stands a.advances a.gives a.starts code us most x k.new.worker)
    (λ x. (most : ℕ) → c.args.ports.now.items ≡ [] → MayGo a.over a.place a.stands a.advances a.gives a.starts code AtPicked most w → HasAsked a.over a.place a.stands a.advances a.gives a.starts code us most x k.new.worker)
    k.result (λ x f most none may. f most none is may) k.ensures.solo
