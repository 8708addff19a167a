use Rattle.std.proofs.Common.{◌∙◌, ℕ, ◌++◌, ◌∷◌, [], List, sym, ap, subst, is_some}
use Rattle.ca_turns.specs.declared.rule.Turn.{Turn}
use Rattle.ca_table.specs.Carriers.{IsCarrying}
use Rattle.ca_table.specs.Carrying.{Carries}
use Rattle.ca_table.specs.Draws.{turn_view}
use Rattle.ca_table.specs.Parts.{part_seen}
use Rattle.ca_table.specs.Seen.{PartSeen}
use Rattle.ca_table.specs.declared.drawn.Drawn.{Drawn}
use Rattle.ca_table.specs.declared.part.Part.{Part}
use Rattle.ca_table.specs.Grips.{settled_one}
use Rattle.ca_table.proofs.Drawing.{drew_what}
use Rattle.ca_table.proofs.Loads.{then_worker}
use Rattle.ca_pool.specs.Desk.{laid_again, laid_aside}
use Rattle.ca_pool.proofs.Desk.{beside_desk, desk_after, laid_after, moved_told, ready_laid, then_hand}
use Rattle.ca_pool.proofs.LeftTimers.{lone_now, timers_drawn}
use Rattle.ca_pool.proofs.draw.draw_aside.Goals as goal

pub lay_back-laid-requires : goal.lay_back-laid-requires
lay_back-laid-requires g c = let r = c.requires.moved in record { carries = (r.0, c.args.table.now.id, r.1, r.2, r.3, r.4, r.6, r.5) }

pub draw_laid_aside-requires-clause-carries : goal.draw_laid_aside-requires-clause-carries
draw_laid_aside-requires-clause-carries g c = let a = g.A.Agent in let K = g.C.Clock in let seen = part_seen K.least K.faults K.readings in let code = c.args.code.now in let w = c.args.worker.now in let clock = c.args.clock in let held = c.args.held.now in let lay = c.lay_back-laid in
    let r = c.requires.moved in let P = r.0 in let n = r.1 in let l = r.2 in let clock0 = r.3 in let held0 = r.4 in (
      P,
      n,
      laid_again seen n code w.number l clock0 held0 clock held,
      lay.ensures.carries P c.args.table.now.id n l clock0 held0 r.6 r.5,
      moved_told a.over a.place a.advances a.gives a.starts seen code n lay.new.worker.number w.number lay.result (is_some clock) held (turn_view c.args.what) (laid_aside seen n code w.number l clock0 held0 clock held) lay.ensures.same.number lay.ensures.tells r.7,
    )

pub give_back-requires : goal.give_back-requires
give_back-requires g c = let a = g.A.Agent in let K = g.C.Clock in let seen = part_seen K.least K.faults K.readings in let code = c.args.code.now in let w = c.args.worker.now in let clock = c.args.clock in let held = c.args.held.now in let lay = c.lay_back-laid in let d = c.draw_laid_aside in let id = c.args.table.now.id in
    let r = c.requires.moved in let P = r.0 in let n = r.1 in let l = r.2 in let clock0 = r.3 in let held0 = r.4 in
    let h = laid_again seen n code w.number l clock0 held0 clock held in
    let moved = moved_told a.over a.place a.advances a.gives a.starts seen code n lay.new.worker.number w.number lay.result (is_some clock) held (turn_view c.args.what) (laid_aside seen n code w.number l clock0 held0 clock held) lay.ensures.same.number lay.ensures.tells r.7 in
    let drew = subst (λ (h : Carries (Part g.row.A.Denot g.row.C.Denot × PartSeen g.row.A.Denot)). IsCarrying a.over a.stands P code id n d.new.worker h) (beside_desk seen n code w.number l h.lane h.banks h.shards h.timers (ready_laid seen n code w.number l held0 held))
    (d.ensures.carries P n h (lay.ensures.carries P id n l clock0 held0 r.6 r.5) moved) in
    let own = subst (λ (k : ℕ). IsCarrying a.over a.stands P code id n d.new.worker (desk_after seen n code w.number l clock0 clock held0 held h.lane k)) (sym (d.ensures.same.number ∙ lay.ensures.same.number)) drew in
    let after = desk_after seen n code w.number l clock0 clock held0 held h.lane w.number in
    record { carries = (P, code, n, h.lane, after.banks, after.shards, after.timers, settled_one seen (ready_laid seen n code w.number l held0 held), laid_after seen n code w.number l lay.result clock0 clock held0 held r.6 lay.ensures.tells, own) }

pub returns-clause-turns : goal.returns-clause-turns
returns-clause-turns g c = let t = c.draw_laid_aside.ensures.drew in
    (t.0, c.give_back.ensures.turns.turns ∙ t.1 ∙ ap (λ (ts : List (Turn (PartSeen g.row.A.Denot) Drawn)). ts ++ t.0 ∷ []) c.lay_back-laid.ensures.turns.turns, t.2)

pub returns-clause-drew : goal.returns-clause-drew
returns-clause-drew g c = λ kept. let t = c.draw_laid_aside.ensures.drew in let lay = c.lay_back-laid in let d = c.draw_laid_aside in let give = c.give_back in
    drew_what {o = c.args.worker.now} {n = give.new.worker} t.0.number t.0.event t.0.before t.0.after c.args.what
    (then_worker c.args.worker.now lay.new.worker give.new.worker lay.ensures.same (then_worker lay.new.worker d.new.worker give.new.worker d.ensures.same give.ensures.same))
    (then_hand c.args.worker.now.hand lay.new.worker.hand give.new.worker.hand lay.ensures.turns.same (then_hand lay.new.worker.hand d.new.worker.hand give.new.worker.hand d.ensures.hand give.ensures.turns.same))
    (give.ensures.turns.turns ∙ t.1 ∙ ap (λ (ts : List (Turn (PartSeen g.row.A.Denot) Drawn)). ts ++ t.0 ∷ []) lay.ensures.turns.turns) t.2 kept

pub returns-clause-carries : goal.returns-clause-carries
returns-clause-carries g c = λ P n l clock0 held0 s same m. let a = g.A.Agent in let K = g.C.Clock in let seen = part_seen K.least K.faults K.readings in let code = c.args.code.now in let w = c.args.worker.now in let clock = c.args.clock in let held = c.args.held.now in let lay = c.lay_back-laid in let d = c.draw_laid_aside in let id = c.args.table.now.id in
    let h = laid_again seen n code w.number l clock0 held0 clock held in
    let moved = moved_told a.over a.place a.advances a.gives a.starts seen code n lay.new.worker.number w.number lay.result (is_some clock) held (turn_view c.args.what) (laid_aside seen n code w.number l clock0 held0 clock held) lay.ensures.same.number lay.ensures.tells m in
    let drew = subst (λ (h : Carries (Part g.row.A.Denot g.row.C.Denot × PartSeen g.row.A.Denot)). IsCarrying a.over a.stands P code id n d.new.worker h) (beside_desk seen n code w.number l h.lane h.banks h.shards h.timers (ready_laid seen n code w.number l held0 held))
    (d.ensures.carries P n h (lay.ensures.carries P id n l clock0 held0 same s) moved) in
    let own = subst (λ (k : ℕ). IsCarrying a.over a.stands P code id n d.new.worker (desk_after seen n code w.number l clock0 clock held0 held h.lane k)) (sym (d.ensures.same.number ∙ lay.ensures.same.number)) drew in
    let after = desk_after seen n code w.number l clock0 clock held0 held h.lane w.number in
    c.give_back.ensures.carries P code n h.lane after.banks after.shards after.timers (settled_one seen (ready_laid seen n code w.number l held0 held)) (laid_after seen n code w.number l lay.result clock0 clock held0 held same lay.ensures.tells) own

pub returns-clause-timed : goal.returns-clause-timed
returns-clause-timed g c = λ P n l clock0 held0 s same moved0 alone. let a = g.A.Agent in let K = g.C.Clock in let seen = part_seen K.least K.faults K.readings in let code = c.args.code.now in let w = c.args.worker.now in let clock = c.args.clock in let held = c.args.held.now in let lay = c.lay_back-laid in let d = c.draw_laid_aside in let id = c.args.table.now.id in let give = c.give_back in
    let h = laid_again seen n code w.number l clock0 held0 clock held in
    let moved = moved_told a.over a.place a.advances a.gives a.starts seen code n lay.new.worker.number w.number lay.result (is_some clock) held (turn_view c.args.what) (laid_aside seen n code w.number l clock0 held0 clock held) lay.ensures.same.number lay.ensures.tells moved0 in
    let drew = subst (λ (h : Carries (Part g.row.A.Denot g.row.C.Denot × PartSeen g.row.A.Denot)). IsCarrying a.over a.stands P code id n d.new.worker h) (beside_desk seen n code w.number l h.lane h.banks h.shards h.timers (ready_laid seen n code w.number l held0 held))
    (d.ensures.carries P n h (lay.ensures.carries P id n l clock0 held0 same s) moved) in
    let after = then_hand w.hand lay.new.worker.hand d.new.worker.hand lay.ensures.turns.same d.ensures.hand in
    timers_drawn a.over a.stands seen code id P n w.number l clock0 clock held0 held d.new.worker give.new.worker drew (lone_now w.hand d.new.worker.hand after alone) give.ensures.turns same.timers
