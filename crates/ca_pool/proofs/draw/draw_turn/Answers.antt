use Rattle.std.proofs.Common.{◌∙◌, ℕ, ◌++◌, ◌∷◌, [], List, refl, sym, ap, subst, is_some}
use Rattle.ca_turns.specs.declared.rule.Turn.{Turn}
use Rattle.ca_table.specs.Carriers.{IsCarrying}
use Rattle.ca_table.specs.Carrying.{Carries, lane_place, nothing_carried}
use Rattle.ca_table.specs.Draws.{turn_view}
use Rattle.ca_table.specs.Grips.{settled_one}
use Rattle.ca_table.specs.Parts.{part_away, part_seen}
use Rattle.ca_table.specs.Seen.{PartSeen}
use Rattle.ca_table.specs.Workers.{part_of_lane}
use Rattle.ca_table.specs.declared.drawn.Drawn.{Drawn}
use Rattle.ca_table.specs.declared.part.Part.{Part}
use Rattle.ca_table.proofs.Carriers.{is_held}
use Rattle.ca_table.proofs.Drawing.{drew_what}
use Rattle.ca_table.proofs.Loads.{then_worker}
use Rattle.ca_pool.specs.Desk.{all_laid, laid_again}
use Rattle.ca_pool.proofs.Desk.{desk_after, each_desk, laid_after, moved_told, ready_laid, then_hand}
use Rattle.ca_pool.proofs.draw.draw_turn.Goals as goal

pub lay_back-laid-requires : goal.lay_back-laid-requires
lay_back-laid-requires g c = let r = c.requires.moved in record { carries = (r.0, c.args.table.now.id, r.1, r.2, r.3, r.4, r.6, r.5) }

pub put_at-requires : goal.put_at-requires
put_at-requires g c = let a = g.A.Agent in let K = g.C.Clock in let seen = part_seen K.least K.faults K.readings in let code = c.args.code.now in let w = c.args.worker.now in let clock = c.args.clock in let held = c.args.held.now in let lay = c.lay_back-laid in
    let r = c.requires.moved in let P = r.0 in let n = r.1 in let l = r.2 in let clock0 = r.3 in let held0 = r.4 in let v = lay.new.worker in
    is_held a.over a.stands P code c.args.table.now.id n v v.number lane_place tt refl (laid_again seen n code w.number l clock0 held0 clock held) (part_away n code, part_of_lane n code l) (lay.ensures.carries P c.args.table.now.id n l clock0 held0 r.6 r.5)

pub draw_laid-requires-clause-carries : goal.draw_laid-requires-clause-carries
draw_laid-requires-clause-carries g c = let a = g.A.Agent in let K = g.C.Clock in let seen = part_seen K.least K.faults K.readings in let code = c.args.code.now in let w = c.args.worker.now in let clock = c.args.clock in let held = c.args.held.now in let lay = c.lay_back-laid in let put = c.put_at in let id = c.args.table.now.id in
    let r = c.requires.moved in let P = r.0 in let n = r.1 in let l = r.2 in let clock0 = r.3 in let held0 = r.4 in
    let back = put.ensures.carries P id n (laid_again seen n code w.number l clock0 held0 clock held) lane_place (part_away n code) (part_of_lane n code l) (lay.ensures.carries P id n l clock0 held0 r.6 r.5) tt refl in
    let all = all_laid seen n code w.number l c.args.lane clock0 held0 clock held in
    (P, n, all, back, moved_told a.over a.place a.advances a.gives a.starts seen code n put.new.worker.number w.number lay.result (is_some clock) held (turn_view c.args.what) all (put.ensures.same.number ∙ lay.ensures.same.number) lay.ensures.tells r.7)

pub give_back-requires : goal.give_back-requires
give_back-requires g c = let a = g.A.Agent in let K = g.C.Clock in let seen = part_seen K.least K.faults K.readings in let code = c.args.code.now in let w = c.args.worker.now in let clock = c.args.clock in let held = c.args.held.now in let lay = c.lay_back-laid in let put = c.put_at in let d = c.draw_laid in let id = c.args.table.now.id in let lane = c.args.lane in
    let r = c.requires.moved in let P = r.0 in let n = r.1 in let l = r.2 in let clock0 = r.3 in let held0 = r.4 in
    let h = laid_again seen n code w.number l clock0 held0 clock held in let all = all_laid seen n code w.number l lane clock0 held0 clock held in
    let back = put.ensures.carries P id n h lane_place (part_away n code) (part_of_lane n code l) (lay.ensures.carries P id n l clock0 held0 r.6 r.5) tt refl in
    let same = put.ensures.same.number ∙ lay.ensures.same.number in
    let moved = moved_told a.over a.place a.advances a.gives a.starts seen code n put.new.worker.number w.number lay.result (is_some clock) held (turn_view c.args.what) all same lay.ensures.tells r.7 in
    let drew = subst (λ (h : Carries (Part g.row.A.Denot g.row.C.Denot × PartSeen g.row.A.Denot)). IsCarrying a.over a.stands P code id n d.new.worker h) (each_desk seen n code w.number l all.lane h.banks h.shards h.timers (ready_laid seen n code w.number l held0 held))
    (d.ensures.carries P n all back moved) in
    let after = desk_after seen n code w.number l clock0 clock held0 held (settled_one seen all.lane) in
    let own = subst (λ (k : ℕ). IsCarrying a.over a.stands P code id n d.new.worker (desk_after seen n code w.number l clock0 clock held0 held (settled_one seen all.lane) k)) (sym (d.ensures.same.number ∙ same)) drew in
    record { carries = (P, code, n, settled_one seen all.lane, (after w.number).banks, (after w.number).shards, (after w.number).timers, settled_one seen (ready_laid seen n code w.number l held0 held), laid_after seen n code w.number l lay.result clock0 clock held0 held r.6 lay.ensures.tells, own) }

pub take_lane-requires : goal.take_lane-requires
take_lane-requires g c = let a = g.A.Agent in let K = g.C.Clock in let seen = part_seen K.least K.faults K.readings in let code = c.args.code.now in let w = c.args.worker.now in let clock = c.args.clock in let held = c.args.held.now in let lay = c.lay_back-laid in let put = c.put_at in let d = c.draw_laid in let id = c.args.table.now.id in let lane = c.args.lane in
    let r = c.requires.moved in let P = r.0 in let n = r.1 in let l = r.2 in let clock0 = r.3 in let held0 = r.4 in
    let h = laid_again seen n code w.number l clock0 held0 clock held in let all = all_laid seen n code w.number l lane clock0 held0 clock held in
    let back = put.ensures.carries P id n h lane_place (part_away n code) (part_of_lane n code l) (lay.ensures.carries P id n l clock0 held0 r.6 r.5) tt refl in
    let same = put.ensures.same.number ∙ lay.ensures.same.number in
    let moved = moved_told a.over a.place a.advances a.gives a.starts seen code n put.new.worker.number w.number lay.result (is_some clock) held (turn_view c.args.what) all same lay.ensures.tells r.7 in
    let drew = subst (λ (h : Carries (Part g.row.A.Denot g.row.C.Denot × PartSeen g.row.A.Denot)). IsCarrying a.over a.stands P code id n d.new.worker h) (each_desk seen n code w.number l all.lane h.banks h.shards h.timers (ready_laid seen n code w.number l held0 held))
    (d.ensures.carries P n all back moved) in
    let after = desk_after seen n code w.number l clock0 clock held0 held (settled_one seen all.lane) in
    let own = subst (λ (k : ℕ). IsCarrying a.over a.stands P code id n d.new.worker (desk_after seen n code w.number l clock0 clock held0 held (settled_one seen all.lane) k)) (sym (d.ensures.same.number ∙ same)) drew in
    let gave = c.give_back.ensures.carries P code n (settled_one seen all.lane) (after w.number).banks (after w.number).shards (after w.number).timers (settled_one seen (ready_laid seen n code w.number l held0 held)) (laid_after seen n code w.number l lay.result clock0 clock held0 held r.6 lay.ensures.tells) own in
    record { lane = (P, id, n, nothing_carried, lane, part_of_lane n code lane.value, gave) }

pub returns-clause-turns : goal.returns-clause-turns
returns-clause-turns g c = let t = c.draw_laid.ensures.drew in
    (t.0, c.take_lane.ensures.turns.turns ∙ c.give_back.ensures.turns.turns ∙ t.1 ∙ ap (λ (ts : List (Turn (PartSeen g.row.A.Denot) Drawn)). ts ++ t.0 ∷ []) (c.put_at.ensures.turns.turns ∙ c.lay_back-laid.ensures.turns.turns), t.2)

pub returns-clause-drew : goal.returns-clause-drew
returns-clause-drew g c = λ kept. let t = c.draw_laid.ensures.drew in let w = c.args.worker.now in let lay = c.lay_back-laid in let put = c.put_at in let d = c.draw_laid in let give = c.give_back in let take = c.take_lane in
    let worker1 = then_worker w lay.new.worker put.new.worker lay.ensures.same put.ensures.same in
    let worker2 = then_worker w put.new.worker d.new.worker worker1 d.ensures.same in
    let worker3 = then_worker w d.new.worker give.new.worker worker2 give.ensures.same in
    let hand1 = then_hand w.hand lay.new.worker.hand put.new.worker.hand lay.ensures.turns.same put.ensures.turns.same in
    let hand2 = then_hand w.hand put.new.worker.hand d.new.worker.hand hand1 d.ensures.hand in
    let hand3 = then_hand w.hand d.new.worker.hand give.new.worker.hand hand2 give.ensures.turns.same in
    drew_what {o = w} {n = take.new.worker} t.0.number t.0.event t.0.before t.0.after c.args.what
    (then_worker w give.new.worker take.new.worker worker3 take.ensures.same) (then_hand w.hand give.new.worker.hand take.new.worker.hand hand3 take.ensures.turns.same)
    (take.ensures.turns.turns ∙ give.ensures.turns.turns ∙ t.1 ∙ ap (λ (ts : List (Turn (PartSeen g.row.A.Denot) Drawn)). ts ++ t.0 ∷ []) (put.ensures.turns.turns ∙ lay.ensures.turns.turns)) t.2 kept

pub returns-clause-lane : goal.returns-clause-lane
returns-clause-lane g c = let a = g.A.Agent in let K = g.C.Clock in let seen = part_seen K.least K.faults K.readings in let code = c.args.code.now in let w = c.args.worker.now in let clock = c.args.clock in let held = c.args.held.now in let lay = c.lay_back-laid in let put = c.put_at in let d = c.draw_laid in let id = c.args.table.now.id in let lane = c.args.lane in
    let r = c.requires.moved in let P = r.0 in let n = r.1 in let l = r.2 in let clock0 = r.3 in let held0 = r.4 in
    let h = laid_again seen n code w.number l clock0 held0 clock held in let all = all_laid seen n code w.number l lane clock0 held0 clock held in
    let back = put.ensures.carries P id n h lane_place (part_away n code) (part_of_lane n code l) (lay.ensures.carries P id n l clock0 held0 r.6 r.5) tt refl in
    let same = put.ensures.same.number ∙ lay.ensures.same.number in
    let moved = moved_told a.over a.place a.advances a.gives a.starts seen code n put.new.worker.number w.number lay.result (is_some clock) held (turn_view c.args.what) all same lay.ensures.tells r.7 in
    let drew = subst (λ (h : Carries (Part g.row.A.Denot g.row.C.Denot × PartSeen g.row.A.Denot)). IsCarrying a.over a.stands P code id n d.new.worker h) (each_desk seen n code w.number l all.lane h.banks h.shards h.timers (ready_laid seen n code w.number l held0 held))
    (d.ensures.carries P n all back moved) in
    let after = desk_after seen n code w.number l clock0 clock held0 held (settled_one seen all.lane) in
    let own = subst (λ (k : ℕ). IsCarrying a.over a.stands P code id n d.new.worker (desk_after seen n code w.number l clock0 clock held0 held (settled_one seen all.lane) k)) (sym (d.ensures.same.number ∙ same)) drew in
    let gave = c.give_back.ensures.carries P code n (settled_one seen all.lane) (after w.number).banks (after w.number).shards (after w.number).timers (settled_one seen (ready_laid seen n code w.number l held0 held)) (laid_after seen n code w.number l lay.result clock0 clock held0 held r.6 lay.ensures.tells) own in
    (c.take_lane.ensures.carries P id n nothing_carried lane (part_of_lane n code lane.value) gave).0

pub returns-clause-carries : goal.returns-clause-carries
returns-clause-carries g c = λ P n l clock0 held0 s agree m. let a = g.A.Agent in let K = g.C.Clock in let seen = part_seen K.least K.faults K.readings in let code = c.args.code.now in let w = c.args.worker.now in let clock = c.args.clock in let held = c.args.held.now in let lay = c.lay_back-laid in let put = c.put_at in let d = c.draw_laid in let id = c.args.table.now.id in let lane = c.args.lane in
    let h = laid_again seen n code w.number l clock0 held0 clock held in let all = all_laid seen n code w.number l lane clock0 held0 clock held in
    let back = put.ensures.carries P id n h lane_place (part_away n code) (part_of_lane n code l) (lay.ensures.carries P id n l clock0 held0 agree s) tt refl in
    let same = put.ensures.same.number ∙ lay.ensures.same.number in
    let moved = moved_told a.over a.place a.advances a.gives a.starts seen code n put.new.worker.number w.number lay.result (is_some clock) held (turn_view c.args.what) all same lay.ensures.tells m in
    let drew = subst (λ (h : Carries (Part g.row.A.Denot g.row.C.Denot × PartSeen g.row.A.Denot)). IsCarrying a.over a.stands P code id n d.new.worker h) (each_desk seen n code w.number l all.lane h.banks h.shards h.timers (ready_laid seen n code w.number l held0 held))
    (d.ensures.carries P n all back moved) in
    let after = desk_after seen n code w.number l clock0 clock held0 held (settled_one seen all.lane) in
    let own = subst (λ (k : ℕ). IsCarrying a.over a.stands P code id n d.new.worker (desk_after seen n code w.number l clock0 clock held0 held (settled_one seen all.lane) k)) (sym (d.ensures.same.number ∙ same)) drew in
    let gave = c.give_back.ensures.carries P code n (settled_one seen all.lane) (after w.number).banks (after w.number).shards (after w.number).timers (settled_one seen (ready_laid seen n code w.number l held0 held)) (laid_after seen n code w.number l lay.result clock0 clock held0 held agree lay.ensures.tells) own in
    (c.take_lane.ensures.carries P id n nothing_carried lane (part_of_lane n code lane.value) gave).1
