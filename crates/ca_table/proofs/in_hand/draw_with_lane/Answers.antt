use Rattle.std.proofs.Common.{◌≤◌, ◌∙◌, List, [], ◌∷◌, ◌++◌, Some, length, refl, sym, ap, subst}
use Rattle.ca_states.specs.ValidCode.{valid_code}
use Rattle.ca_journal.specs.Merge.{room}
use Rattle.ca_turns.specs.Views.{new_turn}
use Rattle.ca_turns.specs.declared.rule.Turn.{Turn}
use Rattle.ca_commit.specs.Moving.{visible}
use Rattle.ca_table.specs.Carrying.{Carries, each_by, lane_place, with_at}
use Rattle.ca_table.specs.Draws.{drawn_view, turn_view}
use Rattle.ca_table.specs.Grips.{settled_one}
use Rattle.ca_table.specs.Parts.{part_away, part_of, part_seen}
use Rattle.ca_table.specs.Seen.{PartSeen}
use Rattle.ca_table.specs.Workers.{part_of_lane}
use Rattle.ca_table.specs.declared.drawn.Drawn.{Drawn}
use Rattle.ca_table.specs.declared.drawn.Turned.{Turned}
use Rattle.ca_table.specs.declared.part.Contents.TheVariants.{Lane}
use Rattle.ca_table.specs.declared.part.Part.{Part}
use Rattle.ca_table.proofs.Carriers.{is_held, moved_as}
use Rattle.ca_table.proofs.Drawing.{drew_before, drew_later, drew_what, hands_both}
use Rattle.ca_table.proofs.in_hand.draw_with_lane.Goals as goal

pub put_at-requires : goal.put_at-requires
put_at-requires g c = let a = g.A.Agent in let r = c.requires.carries in let n = r.1 in
    is_held a.over a.stands r.0 c.args.code.now c.args.table.now.id n c.args.worker.now c.args.worker.now.number lane_place tt refl r.2 (part_away n c.args.code.now, r.3) r.4

pub draw_carried-requires-clause-carries : goal.draw_carried-requires-clause-carries
draw_carried-requires-clause-carries g c = let a = g.A.Agent in let K = g.C.Clock in let r = c.requires.carries in let n = r.1 in let code = c.args.code.now in let w = c.args.worker.now in let put = c.put_at.ensures in let v = c.put_at.new.worker in
    let here : Carries (Part g.row.A.Denot g.row.C.Denot × PartSeen g.row.A.Denot) = with_at lane_place (Some (part_of n code (Lane c.args.lane), r.3)) r.2 in (
      r.0,
      code,
      n,
      here,
      put.carries r.0 c.args.table.now.id n r.2 lane_place (part_away n code) r.3 r.4 tt refl,
      moved_as a.over a.place a.advances a.gives a.starts (part_seen K.least K.faults K.readings) code n w.number v.number n v.workers (turn_view c.args.what) (drawn_view c.silent-drawn.result) here put.same.number (put.same.workers ∙ r.4.one.of) c.silent-drawn.ensures.view r.5,
    )

pub draw_carried-requires-clause-code : goal.draw_carried-requires-clause-code
draw_carried-requires-clause-code g c = let r = c.requires.carries in ap valid_code c.silent-drawn.ensures.code ∙ sym (ap (λ x. valid_code x.value) c.put_at.ensures.same.code ∙ r.4.one.of_code)

pub draw_carried-requires-clause-room : goal.draw_carried-requires-clause-room
draw_carried-requires-clause-room g c = subst (λ (t : Turned). length (visible (turn_view t)) ≤ room c.put_at.new.worker.entries) (sym c.silent-drawn.ensures.what)
    (subst (λ e. length (visible (turn_view c.args.what)) ≤ room e) (sym c.put_at.ensures.entries) c.requires.room)

pub take_lane-requires : goal.take_lane-requires
take_lane-requires g c = let a = g.A.Agent in let K = g.C.Clock in let r = c.requires.carries in let n = r.1 in let code = c.args.code.now in let w = c.args.worker.now in let put = c.put_at.ensures in let v = c.put_at.new.worker in
    let here : Carries (Part g.row.A.Denot g.row.C.Denot × PartSeen g.row.A.Denot) = with_at lane_place (Some (part_of n code (Lane c.args.lane), r.3)) r.2 in
    let moves = moved_as a.over a.place a.advances a.gives a.starts (part_seen K.least K.faults K.readings) code n w.number v.number n v.workers (turn_view c.args.what) (drawn_view c.silent-drawn.result) here put.same.number (put.same.workers ∙ r.4.one.of) c.silent-drawn.ensures.view r.5 in
    let drew = c.draw_carried.ensures.carries r.0 code n here (put.carries r.0 c.args.table.now.id n r.2 lane_place (part_away n code) r.3 r.4 tt refl) moves in
    record { lane = (r.0, c.args.table.now.id, n, each_by (settled_one (part_seen K.least K.faults K.readings)) r.2, c.args.lane, part_of_lane n code c.args.lane.value, drew) }

pub returns-clause-lane : goal.returns-clause-lane
returns-clause-lane g c = let a = g.A.Agent in let K = g.C.Clock in let r = c.requires.carries in let n = r.1 in let code = c.args.code.now in let w = c.args.worker.now in let put = c.put_at.ensures in let v = c.put_at.new.worker in
    let here : Carries (Part g.row.A.Denot g.row.C.Denot × PartSeen g.row.A.Denot) = with_at lane_place (Some (part_of n code (Lane c.args.lane), r.3)) r.2 in
    let moves = moved_as a.over a.place a.advances a.gives a.starts (part_seen K.least K.faults K.readings) code n w.number v.number n v.workers (turn_view c.args.what) (drawn_view c.silent-drawn.result) here put.same.number (put.same.workers ∙ r.4.one.of) c.silent-drawn.ensures.view r.5 in
    let drew = c.draw_carried.ensures.carries r.0 code n here (put.carries r.0 c.args.table.now.id n r.2 lane_place (part_away n code) r.3 r.4 tt refl) moves in
    (c.take_lane.ensures.carries r.0 c.args.table.now.id n (each_by (settled_one (part_seen K.least K.faults K.readings)) r.2) c.args.lane (part_of_lane n code c.args.lane.value) drew).0

pub returns-clause-carries : goal.returns-clause-carries
returns-clause-carries g c = λ P n h l s m. let a = g.A.Agent in let K = g.C.Clock in let code = c.args.code.now in let w = c.args.worker.now in let put = c.put_at.ensures in let v = c.put_at.new.worker in
    let here : Carries (Part g.row.A.Denot g.row.C.Denot × PartSeen g.row.A.Denot) = with_at lane_place (Some (part_of n code (Lane c.args.lane), l)) h in
    let moves = moved_as a.over a.place a.advances a.gives a.starts (part_seen K.least K.faults K.readings) code n w.number v.number n v.workers (turn_view c.args.what) (drawn_view c.silent-drawn.result) here put.same.number (put.same.workers ∙ s.one.of) c.silent-drawn.ensures.view m in
    let drew = c.draw_carried.ensures.carries P code n here (put.carries P c.args.table.now.id n h lane_place (part_away n code) l s tt refl) moves in
    (c.take_lane.ensures.carries P c.args.table.now.id n (each_by (settled_one (part_seen K.least K.faults K.readings)) h) c.args.lane (part_of_lane n code c.args.lane.value) drew).1

pub returns-clause-hand : goal.returns-clause-hand
returns-clause-hand g c = let w = c.args.worker.now.hand in let put = c.put_at in let d = c.draw_carried in let took = c.take_lane in
    hands_both w put.new.worker.hand took.new.worker.hand put.ensures.turns.same (hands_both put.new.worker.hand d.new.worker.hand took.new.worker.hand d.ensures.hand took.ensures.turns.same)

pub returns-clause-turn : goal.returns-clause-turn
returns-clause-turn g c = let d = c.draw_carried.ensures.drew in let t : Turn (PartSeen g.row.A.Denot) Drawn = new_turn d.0 c.silent-drawn.result d.1 d.2 in
    (t, c.take_lane.ensures.turns.turns ∙ d.3 ∙ ap (λ (ts : List (Turn (PartSeen g.row.A.Denot) Drawn)). ts ++ t ∷ []) c.put_at.ensures.turns.turns, c.silent-drawn.ensures.what)

pub returns-clause-drew : goal.returns-clause-drew
returns-clause-drew g c = λ kept. let put = c.put_at.ensures in let q = c.draw_carried.ensures in let d = q.drew in let took = c.take_lane.ensures in
    drew_before (drew_later put.same put.turns (drew_what d.0 c.silent-drawn.result d.1 d.2 c.args.what q.same q.hand d.3 c.silent-drawn.ensures.what kept)) took.same took.turns
