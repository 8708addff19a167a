use Rattle.std.proofs.Common.{◌∙◌, sym, ap}
use Rattle.ca_states.specs.ValidCode.{valid_code}
use Rattle.ca_turns.specs.Views.{new_turn}
use Rattle.ca_table.specs.Draws.{drawn_view, turn_view}
use Rattle.ca_table.specs.Parts.{part_seen}
use Rattle.ca_pool.proofs.Desk.{moved_drawn}
use Rattle.ca_pool.proofs.draw.draw_laid.Goals as goal

pub draw_carried-requires-clause-carries : goal.draw_carried-requires-clause-carries
draw_carried-requires-clause-carries g c = let a = g.A.Agent in let K = g.C.Clock in let r = c.requires.carries in let w = c.args.worker.now in let drawn = c.drawn_by-drawn in
    (r.0, c.args.code.now, r.1, r.2, r.3, moved_drawn a.over a.place a.advances a.gives a.starts (part_seen K.least K.faults K.readings) c.args.code.now r.1 w.number w.workers c.args.laid.now (turn_view c.args.what) (drawn_view drawn.result) r.2 r.3.one.of drawn.ensures.view r.4)

pub draw_carried-requires-clause-code : goal.draw_carried-requires-clause-code
draw_carried-requires-clause-code g c = ap valid_code c.drawn_by-drawn.ensures.code ∙ sym c.requires.carries.3.one.of_code

pub returns-clause-drew : goal.returns-clause-drew
returns-clause-drew g c = let d = c.draw_carried.ensures.drew in (new_turn d.0 c.drawn_by-drawn.result d.1 d.2, d.3, c.drawn_by-drawn.ensures.what)

pub returns-clause-carries : goal.returns-clause-carries
returns-clause-carries g c = λ P n h s m. let a = g.A.Agent in let K = g.C.Clock in let w = c.args.worker.now in let drawn = c.drawn_by-drawn in
    c.draw_carried.ensures.carries P c.args.code.now n h s (moved_drawn a.over a.place a.advances a.gives a.starts (part_seen K.least K.faults K.readings) c.args.code.now n w.number w.workers c.args.laid.now (turn_view c.args.what) (drawn_view drawn.result) h s.one.of drawn.ensures.view m)
