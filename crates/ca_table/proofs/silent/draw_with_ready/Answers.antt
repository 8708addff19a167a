use Rattle.std.proofs.Common.{ℕ, ◌+◌, Some, refl, sym, ap, subst}
use Rattle.ca_commit.specs.Tasks.{tasks_in}
use Rattle.ca_table.specs.Carriers.{IsCarrying, IsMoved, LaneBox, both_back, just_lane, part_of_ready}
use Rattle.ca_table.specs.Carrying.{Carries, lane_place, nothing_carried, ready_place, with_at}
use Rattle.ca_table.specs.Covering.{plain_drawn}
use Rattle.ca_table.specs.Draws.{turn_view}
use Rattle.ca_table.specs.Parts.{part_of, part_seen}
use Rattle.ca_table.specs.Seen.{PartSeen}
use Rattle.ca_table.specs.Workers.{part_of_lane}
use Rattle.ca_table.specs.declared.part.Contents.TheVariants.{Lane, Ready}
use Rattle.ca_table.specs.declared.part.Part.{Part}
use Rattle.ca_table.proofs.Drawing.{drew_before, drew_later, turn_before, turn_later}
use Rattle.ca_table.proofs.Picks.{settled_back}
use Rattle.ca_table.proofs.silent.draw_with_ready.Goals as goal

pub put_both-requires : goal.put_both-requires
put_both-requires g c = let r = c.requires.carries in (r.0, c.args.table.now.id, r.1, r.2, r.3, r.4, r.6)

pub draw_silent-requires-clause-carries : goal.draw_silent-requires-clause-carries
draw_silent-requires-clause-carries g c = let a = g.A.Agent in let K = g.C.Clock in let seen = part_seen K.least K.faults K.readings in let id = c.args.table.now.id in let at = c.args.at in let r = c.requires.carries in let P = r.0 in let n = r.1 in let l = r.2 in let q = r.3 in let s = r.4 in let m = r.5 in
    let back : Carries (Part g.row.A.Denot g.row.C.Denot × PartSeen g.row.A.Denot) = both_back n c.args.code.now at l q c.args.lane c.args.ready in let lane : Carries (Part g.row.A.Denot g.row.C.Denot × PartSeen g.row.A.Denot) = with_at lane_place (Some (part_of n c.args.code.now (Lane c.args.lane), part_of_lane n c.args.code.now c.args.lane.value)) nothing_carried in
    let put = c.put_both.ensures.carries P id n l q s in
    let moves = subst (λ (k : ℕ). IsMoved a.over a.place a.advances a.gives a.starts seen c.args.code.now n k (plain_drawn k n (turn_view c.args.what)) back) (sym c.put_both.ensures.same.number) m in
    (P, n, back, put, moves)

pub give_at-requires : goal.give_at-requires
give_at-requires g c = let a = g.A.Agent in let K = g.C.Clock in let seen = part_seen K.least K.faults K.readings in let id = c.args.table.now.id in let at = c.args.at in let r = c.requires.carries in let P = r.0 in let n = r.1 in let l = r.2 in let q = r.3 in let s = r.4 in let m = r.5 in
    let back : Carries (Part g.row.A.Denot g.row.C.Denot × PartSeen g.row.A.Denot) = both_back n c.args.code.now at l q c.args.lane c.args.ready in let lane : Carries (Part g.row.A.Denot g.row.C.Denot × PartSeen g.row.A.Denot) = with_at lane_place (Some (part_of n c.args.code.now (Lane c.args.lane), part_of_lane n c.args.code.now c.args.lane.value)) nothing_carried in
    let put = c.put_both.ensures.carries P id n l q s in
    let moves = subst (λ (k : ℕ). IsMoved a.over a.place a.advances a.gives a.starts seen c.args.code.now n k (plain_drawn k n (turn_view c.args.what)) back) (sym c.put_both.ensures.same.number) m in
    let e = ap (λ (k : ℕ). k + 33 + at) s.one.of in
    let drew = subst (λ (h : Carries (Part g.row.A.Denot g.row.C.Denot × PartSeen g.row.A.Denot)). IsCarrying a.over a.stands P c.args.code.now id n c.draw_silent.new.worker h) (settled_back a.over a.place a.advances a.gives a.starts K.least K.faults K.readings c.args.code.now n c.args.worker.now.number at l q c.args.lane c.args.ready) (c.draw_silent.ensures.carries P n back put moves) in
    record { settled = (P, c.args.code.now, n, lane, ready_place at, part_of n c.args.code.now (Ready c.args.ready), drew, tt, e) }

pub take_lane-requires : goal.take_lane-requires
take_lane-requires g c = let a = g.A.Agent in let K = g.C.Clock in let seen = part_seen K.least K.faults K.readings in let id = c.args.table.now.id in let at = c.args.at in let r = c.requires.carries in let P = r.0 in let n = r.1 in let l = r.2 in let q = r.3 in let s = r.4 in let m = r.5 in
    let back : Carries (Part g.row.A.Denot g.row.C.Denot × PartSeen g.row.A.Denot) = both_back n c.args.code.now at l q c.args.lane c.args.ready in let lane : Carries (Part g.row.A.Denot g.row.C.Denot × PartSeen g.row.A.Denot) = with_at lane_place (Some (part_of n c.args.code.now (Lane c.args.lane), part_of_lane n c.args.code.now c.args.lane.value)) nothing_carried in
    let put = c.put_both.ensures.carries P id n l q s in
    let moves = subst (λ (k : ℕ). IsMoved a.over a.place a.advances a.gives a.starts seen c.args.code.now n k (plain_drawn k n (turn_view c.args.what)) back) (sym c.put_both.ensures.same.number) m in
    let e = ap (λ (k : ℕ). k + 33 + at) s.one.of in
    let drew = subst (λ (h : Carries (Part g.row.A.Denot g.row.C.Denot × PartSeen g.row.A.Denot)). IsCarrying a.over a.stands P c.args.code.now id n c.draw_silent.new.worker h) (settled_back a.over a.place a.advances a.gives a.starts K.least K.faults K.readings c.args.code.now n c.args.worker.now.number at l q c.args.lane c.args.ready) (c.draw_silent.ensures.carries P n back put moves) in
    let gave = c.give_at.ensures.carries P c.args.code.now n lane (ready_place at) (Some (part_of n c.args.code.now (Ready c.args.ready), part_of_ready n c.args.code.now (tasks_in c.args.ready))) refl drew tt e in
    record { lane = (P, id, n, nothing_carried, c.args.lane, part_of_lane n c.args.code.now c.args.lane.value, gave) }

pub returns-clause-lane : goal.returns-clause-lane
returns-clause-lane g c = let a = g.A.Agent in let K = g.C.Clock in let seen = part_seen K.least K.faults K.readings in let id = c.args.table.now.id in let at = c.args.at in let r = c.requires.carries in let P = r.0 in let n = r.1 in let l = r.2 in let q = r.3 in let s = r.4 in let m = r.5 in
    let back : Carries (Part g.row.A.Denot g.row.C.Denot × PartSeen g.row.A.Denot) = both_back n c.args.code.now at l q c.args.lane c.args.ready in let lane : Carries (Part g.row.A.Denot g.row.C.Denot × PartSeen g.row.A.Denot) = with_at lane_place (Some (part_of n c.args.code.now (Lane c.args.lane), part_of_lane n c.args.code.now c.args.lane.value)) nothing_carried in
    let put = c.put_both.ensures.carries P id n l q s in
    let moves = subst (λ (k : ℕ). IsMoved a.over a.place a.advances a.gives a.starts seen c.args.code.now n k (plain_drawn k n (turn_view c.args.what)) back) (sym c.put_both.ensures.same.number) m in
    let e = ap (λ (k : ℕ). k + 33 + at) s.one.of in
    let drew = subst (λ (h : Carries (Part g.row.A.Denot g.row.C.Denot × PartSeen g.row.A.Denot)). IsCarrying a.over a.stands P c.args.code.now id n c.draw_silent.new.worker h) (settled_back a.over a.place a.advances a.gives a.starts K.least K.faults K.readings c.args.code.now n c.args.worker.now.number at l q c.args.lane c.args.ready) (c.draw_silent.ensures.carries P n back put moves) in
    let gave = c.give_at.ensures.carries P c.args.code.now n lane (ready_place at) (Some (part_of n c.args.code.now (Ready c.args.ready), part_of_ready n c.args.code.now (tasks_in c.args.ready))) refl drew tt e in
    (c.take_lane.ensures.carries P id n nothing_carried c.args.lane (part_of_lane n c.args.code.now c.args.lane.value) gave).0

pub returns-clause-carries : goal.returns-clause-carries
returns-clause-carries g c = λ P n l q s m. let a = g.A.Agent in let K = g.C.Clock in let seen = part_seen K.least K.faults K.readings in let id = c.args.table.now.id in let at = c.args.at in
    let back : Carries (Part g.row.A.Denot g.row.C.Denot × PartSeen g.row.A.Denot) = both_back n c.args.code.now at l q c.args.lane c.args.ready in let lane : Carries (Part g.row.A.Denot g.row.C.Denot × PartSeen g.row.A.Denot) = with_at lane_place (Some (part_of n c.args.code.now (Lane c.args.lane), part_of_lane n c.args.code.now c.args.lane.value)) nothing_carried in
    let put = c.put_both.ensures.carries P id n l q s in
    let moves = subst (λ (k : ℕ). IsMoved a.over a.place a.advances a.gives a.starts seen c.args.code.now n k (plain_drawn k n (turn_view c.args.what)) back) (sym c.put_both.ensures.same.number) m in
    let e = ap (λ (k : ℕ). k + 33 + at) s.one.of in
    let drew = subst (λ (h : Carries (Part g.row.A.Denot g.row.C.Denot × PartSeen g.row.A.Denot)). IsCarrying a.over a.stands P c.args.code.now id n c.draw_silent.new.worker h) (settled_back a.over a.place a.advances a.gives a.starts K.least K.faults K.readings c.args.code.now n c.args.worker.now.number at l q c.args.lane c.args.ready) (c.draw_silent.ensures.carries P n back put moves) in
    let gave = c.give_at.ensures.carries P c.args.code.now n lane (ready_place at) (Some (part_of n c.args.code.now (Ready c.args.ready), part_of_ready n c.args.code.now (tasks_in c.args.ready))) refl drew tt e in
    let last = c.take_lane.ensures.carries P id n nothing_carried c.args.lane (part_of_lane n c.args.code.now c.args.lane.value) gave in
    subst (λ (b : LaneBox g.row.A.Denot). IsCarrying a.over a.stands P c.args.code.now id n c.take_lane.new.worker (just_lane n c.args.code.now b.value)) (sym last.0) last.1

pub returns-clause-drew : goal.returns-clause-drew
returns-clause-drew g c = λ none. let put = c.put_both.ensures in let gave = c.give_at.ensures in let took = c.take_lane.ensures in
    drew_before (drew_before (drew_later put.same put.turns (c.draw_silent.ensures.drew none)) gave.same gave.turns) took.same took.turns

pub returns-clause-turn : goal.returns-clause-turn
returns-clause-turn g c = let w = c.args.worker.now.hand in let put = c.put_both.new.worker.hand in let drawn = c.draw_silent.new.worker.hand in let gave = c.give_at.new.worker.hand in let took = c.take_lane.new.worker.hand in let what = turn_view c.args.what in
    turn_before w gave took what (turn_before w drawn gave what (turn_later w put drawn what c.put_both.ensures.turns c.draw_silent.ensures.turn) c.give_at.ensures.turns) c.take_lane.ensures.turns
