use Rattle.std.proofs.Common.{◌≡◌, ◌∙◌, ℕ, ◌+◌, List, ◌∷◌, length, refl, sym, ap, arith, subst, true, false, is_some}
use lib.ListN.{get_elem?}
use Rattle.ca_term.specs.Program.{program_view}
use Rattle.ca_states.specs.ValidCode.{valid_code}
use Rattle.ca_commit.specs.Agents.{TaskAgent}
use Rattle.ca_commit.specs.Tasks.{task_view, tasks_in}
use Rattle.ca_commit.specs.Touched.{picks}
use Rattle.ca_commit.specs.declared.task.Task.{Task}
use Rattle.ca_table.specs.Carriers.{IsCarrying, LaneBox, just_lane, part_of_ready, with_ready}
use Rattle.ca_table.specs.Carrying.{ready_place}
use Rattle.ca_table.specs.Parts.{part_away}
use Rattle.ca_table.specs.Seen.{PartSeen, seen_ready}
use Rattle.ca_table.specs.Sound.{AllOver}
use Rattle.ca_table.proofs.Carriers.{carries_seated, in_left, lane_alone, seated_carries}
use Rattle.ca_table.proofs.Drawing.{drew_later, drew_none, hands_both, turn_later}
use Rattle.ca_table.proofs.OwnTurns.{left_same}
use Rattle.ca_table.proofs.Picks.{picked, some_none, some_same}
use Rattle.ca_table.proofs.Seats.{then_same}
use Rattle.ca_table.proofs.silent.pick.Goals as goal

pub hold_ready-ready-requires-clause-ascending : goal.hold_ready-ready-requires-clause-ascending
hold_ready-ready-requires-clause-ascending g c = let r = c.requires.seated in λ i h. let lt = lane_alone g.A.Agent.over g.A.Agent.stands r.0 c.args.code.now c.args.table.now.id r.1 c.args.worker.now c.args.lane.value r.2 i h in let of = r.2.one.of in omega (arith, lt, of)

pub give_ready-requires : goal.give_ready-requires
give_ready-requires g c = let r = c.requires.seated in let a = g.A.Agent in let id = c.args.table.now.id in let l = c.args.lane.value in let none = c.in-None.ensures.none in
    let held = c.hold_ready-ready.ensures.carries r.0 r.1 (just_lane r.1 c.args.code.now l) (seated_carries a.over a.stands r.0 c.args.code.now id r.1 c.args.worker.now l r.2) in
    record { carries = (r.0, r.1, l, subst (λ (q : List (ℕ × TaskAgent g.row.A.Denot)). IsCarrying a.over a.stands r.0 c.args.code.now id r.1 c.hold_ready-ready.new.worker (with_ready r.1 c.args.code.now c.args.at q (just_lane r.1 c.args.code.now l))) (none.0 ∙ sym none.1) held, r.3) }

pub draw_with_ready-requires-clause-carries : goal.draw_with_ready-requires-clause-carries
draw_with_ready-requires-clause-carries g c = let r = c.requires.seated in let a = g.A.Agent in let K = g.C.Clock in let id = c.args.table.now.id in let l = c.args.lane.value in let at = c.args.at in let w = c.hold_ready-ready.new.worker in let t = c.in-Some.task in let ready = c.pop.new.self in let lane = c.with_task-seated in
    let held = c.hold_ready-ready.ensures.carries r.0 r.1 (just_lane r.1 c.args.code.now l) (seated_carries a.over a.stands r.0 c.args.code.now id r.1 c.args.worker.now l r.2) in
    let q = task_view t ∷ tasks_in ready in let m = picked a.over a.place a.advances a.gives a.starts K.least K.faults K.readings c.args.code.now r.1 w.number at l q lane.result ready t c.requires.free lane.ensures.task lane.ensures.since lane.ensures.program lane.ensures.counts refl in (
      r.0,
      r.1,
      l,
      q,
      subst (λ (q : List (ℕ × TaskAgent g.row.A.Denot)). IsCarrying a.over a.stands r.0 c.args.code.now id r.1 w (with_ready r.1 c.args.code.now at q (just_lane r.1 c.args.code.now l))) c.in-Some.ensures.some held,
      m,
      r.3,
    )

pub returns-in-None-clause-seated : goal.returns-in-None-clause-seated
returns-in-None-clause-seated g c = λ program n s. let a = g.A.Agent in let id = c.args.table.now.id in let l = c.args.lane.value in let none = c.in-None.ensures.none in
    let held = c.hold_ready-ready.ensures.carries program n (just_lane n c.args.code.now l) (seated_carries a.over a.stands program c.args.code.now id n c.args.worker.now l s) in
    let same = subst (λ (q : List (ℕ × TaskAgent g.row.A.Denot)). IsCarrying a.over a.stands program c.args.code.now id n c.hold_ready-ready.new.worker (with_ready n c.args.code.now c.args.at q (just_lane n c.args.code.now l))) (none.0 ∙ sym none.1) held in
    carries_seated a.over a.stands program c.args.code.now id n c.give_ready.new.worker l s.lane_is (c.give_ready.ensures.carries program n l same)

pub returns-in-Some-clause-seated : goal.returns-in-Some-clause-seated
returns-in-Some-clause-seated g c = λ program n s. let a = g.A.Agent in let K = g.C.Clock in let id = c.args.table.now.id in let l = c.args.lane.value in let at = c.args.at in let w = c.hold_ready-ready.new.worker in let t = c.in-Some.task in let ready = c.pop.new.self in let lane = c.with_task-seated in let d = c.draw_with_ready in
    let held = c.hold_ready-ready.ensures.carries program n (just_lane n c.args.code.now l) (seated_carries a.over a.stands program c.args.code.now id n c.args.worker.now l s) in
    let q = task_view t ∷ tasks_in ready in let m = picked a.over a.place a.advances a.gives a.starts K.least K.faults K.readings c.args.code.now n w.number at l q lane.result ready t c.requires.free lane.ensures.task lane.ensures.since lane.ensures.program lane.ensures.counts refl in
    let first = subst (λ (q : List (ℕ × TaskAgent g.row.A.Denot)). IsCarrying a.over a.stands program c.args.code.now id n w (with_ready n c.args.code.now at q (just_lane n c.args.code.now l))) c.in-Some.ensures.some held in
    carries_seated a.over a.stands program c.args.code.now id n d.new.worker d.result.value (ap (λ (b : LaneBox g.row.A.Denot). program_view b.value.program.value) d.ensures.lane ∙ ap (λ p. program_view p.value) lane.ensures.program ∙ s.lane_is) (d.ensures.carries program n l q first m)

pub returns-in-None-clause-over : goal.returns-in-None-clause-over
returns-in-None-clause-over g c = λ t e. absurd (some_none c.args.lane.value.task t c.requires.free e)

pub returns-in-Some-clause-over : goal.returns-in-Some-clause-over
returns-in-Some-clause-over g c = λ t e. let K = valid_code c.args.code.now in let task = c.in-Some.task in
    let all = subst (AllOver g.A.Agent.over K) c.in-Some.ensures.some c.hold_ready-ready.ensures.over in
    let is = sym (ap (λ (b : LaneBox g.row.A.Denot). b.value.task) c.draw_with_ready.ensures.lane ∙ c.with_task-seated.ensures.task) ∙ e in
    subst (λ (t : Task g.row.A.Denot). g.A.Agent.over K t.agent) (some_same task t is) all.0

pub returns-in-None-clause-drew : goal.returns-in-None-clause-drew
returns-in-None-clause-drew g c = let held = c.hold_ready-ready.ensures in let gave = c.give_ready.ensures in drew_later held.same held.turns (drew_none gave.same gave.turns)

pub returns-in-Some-clause-drew : goal.returns-in-Some-clause-drew
returns-in-Some-clause-drew g c = let held = c.hold_ready-ready.ensures in drew_later held.same held.turns (c.draw_with_ready.ensures.drew refl)

pub returns-in-None-clause-hand : goal.returns-in-None-clause-hand
returns-in-None-clause-hand g c = (then_same c.args.worker.now.hand c.hold_ready-ready.new.worker.hand c.give_ready.new.worker.hand c.hold_ready-ready.ensures.turns c.give_ready.ensures.turns).same

pub returns-in-None-clause-none : goal.returns-in-None-clause-none
returns-in-None-clause-none g c = λ none. then_same c.args.worker.now.hand c.hold_ready-ready.new.worker.hand c.give_ready.new.worker.hand c.hold_ready-ready.ensures.turns c.give_ready.ensures.turns

pub returns-in-None-clause-picked : goal.returns-in-None-clause-picked
returns-in-None-clause-picked g c = λ some. absurd (let z : false ≡ true = sym (ap is_some c.requires.free) ∙ some in cc)

pub returns-in-None-clause-since : goal.returns-in-None-clause-since
returns-in-None-clause-since g c = λ some. absurd (let z : false ≡ true = sym (ap is_some c.requires.free) ∙ some in cc)

pub returns-in-None-clause-empty : goal.returns-in-None-clause-empty
returns-in-None-clause-empty g c = λ free alone. let r = c.requires.seated in let a = g.A.Agent in let id = c.args.table.now.id in let l = c.args.lane.value in let at = c.args.at in let n = r.1 in let q = tasks_in c.hold_ready-ready.result in
    let now = c.hold_ready-ready.new.worker in let turns = c.hold_ready-ready.ensures.turns in let place = c.args.worker.now.workers + 33 + at in
    let part : PartSeen g.row.A.Denot = part_of_ready n c.args.code.now q in
    let held = c.hold_ready-ready.ensures.carries r.0 n (just_lane n c.args.code.now l) (seated_carries a.over a.stands r.0 c.args.code.now id n c.args.worker.now l r.2) in
    let left = in_left a.over a.stands r.0 c.args.code.now id n now place (ready_place at) tt (ap (λ (k : ℕ). k + 33 + at) r.2.one.of) (just_lane n c.args.code.now l) (part_away n c.args.code.now, part) held (ap length turns.same.stands_for ∙ alone ∙ sym turns.same.hands) in
    (part, ap (λ (cs : List (PartSeen g.row.A.Denot)). get_elem? cs place) (left_same now.hand c.give_ready.new.worker.hand c.give_ready.ensures.turns) ∙ left, ap seen_ready c.in-None.ensures.none.0)

pub returns-in-Some-clause-hand : goal.returns-in-Some-clause-hand
returns-in-Some-clause-hand g c = hands_both c.args.worker.now.hand c.hold_ready-ready.new.worker.hand c.draw_with_ready.new.worker.hand c.hold_ready-ready.ensures.turns.same c.draw_with_ready.ensures.hand

pub returns-in-Some-clause-picked : goal.returns-in-Some-clause-picked
returns-in-Some-clause-picked g c = λ some. turn_later c.args.worker.now.hand c.hold_ready-ready.new.worker.hand c.draw_with_ready.new.worker.hand (picks c.args.at) c.hold_ready-ready.ensures.turns c.draw_with_ready.ensures.turn

pub returns-in-Some-clause-none : goal.returns-in-Some-clause-none
returns-in-Some-clause-none g c = λ none. let is = ap (λ (b : LaneBox g.row.A.Denot). b.value.task) c.draw_with_ready.ensures.lane ∙ c.with_task-seated.ensures.task in absurd (some_none c.draw_with_ready.result.value.task c.in-Some.task none is)

pub returns-in-Some-clause-since : goal.returns-in-Some-clause-since
returns-in-Some-clause-since g c = λ some. ap (λ (b : LaneBox g.row.A.Denot). b.value.since) c.draw_with_ready.ensures.lane ∙ c.with_task-seated.ensures.since

pub returns-in-Some-clause-empty : goal.returns-in-Some-clause-empty
returns-in-Some-clause-empty g c = λ none. let is = ap (λ (b : LaneBox g.row.A.Denot). b.value.task) c.draw_with_ready.ensures.lane ∙ c.with_task-seated.ensures.task in absurd (some_none c.draw_with_ready.result.value.task c.in-Some.task none is)
