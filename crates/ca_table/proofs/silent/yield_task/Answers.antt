use Rattle.std.proofs.Common.{◌∙◌, ℕ, List, [], ◌∷◌, ◌++◌, refl, sym, ap, arith, subst}
use Rattle.ca_term.specs.Program.{program_view}
use Rattle.ca_commit.specs.Agents.{TaskAgent}
use Rattle.ca_commit.specs.Tasks.{task_view, tasks_in}
use Rattle.ca_commit.specs.Touched.{yields}
use Rattle.ca_table.specs.Carriers.{IsCarrying, LaneBox, just_lane, with_ready}
use Rattle.ca_table.proofs.Carriers.{carries_seated, lane_alone, seated_carries}
use Rattle.ca_table.proofs.Drawing.{drew_later, drew_none, hands_both, turn_later}
use Rattle.ca_table.proofs.Picks.{yielded}
use Rattle.ca_table.proofs.Seats.{then_same}
use Rattle.ca_table.proofs.silent.yield_task.Goals as goal

pub hold_ready-ready-requires-clause-ascending : goal.hold_ready-ready-requires-clause-ascending
hold_ready-ready-requires-clause-ascending g c = let r = c.requires.seated in λ i h. let lt = lane_alone g.A.Agent.over g.A.Agent.stands r.0 c.args.code.now c.args.table.now.id r.1 c.args.worker.now c.args.lane.value r.2 i h in let of = r.2.one.of in omega (arith, lt, of)

pub give_ready-requires : goal.give_ready-requires
give_ready-requires g c = let r = c.requires.seated in let a = g.A.Agent in let id = c.args.table.now.id in let l = c.args.lane.value in
    let held = c.hold_ready-ready.ensures.carries r.0 r.1 (just_lane r.1 c.args.code.now l) (seated_carries a.over a.stands r.0 c.args.code.now id r.1 c.args.worker.now l r.2) in
    record { carries = (r.0, r.1, l, subst (λ (q : List (ℕ × TaskAgent g.row.A.Denot)). IsCarrying a.over a.stands r.0 c.args.code.now id r.1 c.hold_ready-ready.new.worker (with_ready r.1 c.args.code.now c.args.worker.now.number q (just_lane r.1 c.args.code.now l))) (sym c.reserve.ensures.tasks) held, r.2.one.below) }

pub draw_with_ready-free-requires-clause-carries : goal.draw_with_ready-free-requires-clause-carries
draw_with_ready-free-requires-clause-carries g c = let r = c.requires.seated in let a = g.A.Agent in let K = g.C.Clock in let id = c.args.table.now.id in let l = c.args.lane.value in let at = c.args.worker.now.number in let w = c.hold_ready-ready.new.worker in let ready = c.push.new.self in let lane = c.without_task-parted in let t = lane.result.1 in
    let held = c.hold_ready-ready.ensures.carries r.0 r.1 (just_lane r.1 c.args.code.now l) (seated_carries a.over a.stands r.0 c.args.code.now id r.1 c.args.worker.now l r.2) in
    let q = tasks_in c.hold_ready-ready.result in let m = yielded a.over a.place a.advances a.gives a.starts K.least K.faults K.readings c.args.code.now r.1 w.number at l q lane.result.0 ready t (sym c.hold_ready-ready.ensures.same.number) lane.ensures.task lane.ensures.free lane.ensures.program lane.ensures.counts (c.push.ensures.tasks ∙ ap (λ z. z ++ task_view t ∷ []) c.reserve.ensures.tasks) in
    (r.0, r.1, l, q, held, m, r.2.one.below)

pub returns-in-Err-clause-seated : goal.returns-in-Err-clause-seated
returns-in-Err-clause-seated g c = λ program n s. let a = g.A.Agent in let id = c.args.table.now.id in let l = c.args.lane.value in
    let held = c.hold_ready-ready.ensures.carries program n (just_lane n c.args.code.now l) (seated_carries a.over a.stands program c.args.code.now id n c.args.worker.now l s) in
    let same = subst (λ (q : List (ℕ × TaskAgent g.row.A.Denot)). IsCarrying a.over a.stands program c.args.code.now id n c.hold_ready-ready.new.worker (with_ready n c.args.code.now c.args.worker.now.number q (just_lane n c.args.code.now l))) (sym c.reserve.ensures.tasks) held in
    carries_seated a.over a.stands program c.args.code.now id n c.give_ready.new.worker l s.lane_is (c.give_ready.ensures.carries program n l same)

pub returns-in-Ok-clause-seated : goal.returns-in-Ok-clause-seated
returns-in-Ok-clause-seated g c = λ program n s. let a = g.A.Agent in let K = g.C.Clock in let id = c.args.table.now.id in let l = c.args.lane.value in let at = c.args.worker.now.number in let w = c.hold_ready-ready.new.worker in let ready = c.push.new.self in let lane = c.without_task-parted in let t = lane.result.1 in let d = c.draw_with_ready-free in
    let held = c.hold_ready-ready.ensures.carries program n (just_lane n c.args.code.now l) (seated_carries a.over a.stands program c.args.code.now id n c.args.worker.now l s) in
    let q = tasks_in c.hold_ready-ready.result in let m = yielded a.over a.place a.advances a.gives a.starts K.least K.faults K.readings c.args.code.now n w.number at l q lane.result.0 ready t (sym c.hold_ready-ready.ensures.same.number) lane.ensures.task lane.ensures.free lane.ensures.program lane.ensures.counts (c.push.ensures.tasks ∙ ap (λ z. z ++ task_view t ∷ []) c.reserve.ensures.tasks) in
    carries_seated a.over a.stands program c.args.code.now id n d.new.worker d.result.value (ap (λ (b : LaneBox g.row.A.Denot). program_view b.value.program.value) d.ensures.lane ∙ ap (λ p. program_view p.value) lane.ensures.program ∙ s.lane_is) (d.ensures.carries program n l q held m)

pub returns-in-Err-clause-drew : goal.returns-in-Err-clause-drew
returns-in-Err-clause-drew g c = let held = c.hold_ready-ready.ensures in let gave = c.give_ready.ensures in drew_later held.same held.turns (drew_none gave.same gave.turns)

pub returns-in-Ok-clause-drew : goal.returns-in-Ok-clause-drew
returns-in-Ok-clause-drew g c = let held = c.hold_ready-ready.ensures in drew_later held.same held.turns (c.draw_with_ready-free.ensures.drew refl)

pub returns-in-Err-clause-hand : goal.returns-in-Err-clause-hand
returns-in-Err-clause-hand g c = (then_same c.args.worker.now.hand c.hold_ready-ready.new.worker.hand c.give_ready.new.worker.hand c.hold_ready-ready.ensures.turns c.give_ready.ensures.turns).same

pub returns-in-Err-clause-stays : goal.returns-in-Err-clause-stays
returns-in-Err-clause-stays g c = then_same c.args.worker.now.hand c.hold_ready-ready.new.worker.hand c.give_ready.new.worker.hand c.hold_ready-ready.ensures.turns c.give_ready.ensures.turns

pub returns-in-Ok-clause-hand : goal.returns-in-Ok-clause-hand
returns-in-Ok-clause-hand g c = hands_both c.args.worker.now.hand c.hold_ready-ready.new.worker.hand c.draw_with_ready-free.new.worker.hand c.hold_ready-ready.ensures.turns.same c.draw_with_ready-free.ensures.hand

pub returns-in-Ok-clause-yielded : goal.returns-in-Ok-clause-yielded
returns-in-Ok-clause-yielded g c = turn_later c.args.worker.now.hand c.hold_ready-ready.new.worker.hand c.draw_with_ready-free.new.worker.hand yields c.hold_ready-ready.ensures.turns c.draw_with_ready-free.ensures.turn
