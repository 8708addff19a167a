use Rattle.std.proofs.Common.{◌∙◌, refl, sym, ap}
use Rattle.ca_states.specs.ValidCode.{valid_code}
use Rattle.ca_table.specs.Draws.{drawn_view, turn_view}
use Rattle.ca_table.specs.Parts.{part_seen}
use Rattle.ca_table.proofs.Carriers.{moved_as}
use Rattle.ca_table.proofs.Drawing.{drew_hidden, turn_drawn}
use Rattle.ca_table.proofs.silent.draw_silent.Goals as goal

pub draw_carried-requires-clause-carries : goal.draw_carried-requires-clause-carries
draw_carried-requires-clause-carries g c = let r = c.requires.carries in let a = g.A.Agent in let K = g.C.Clock in let w = c.args.worker.now in
    (r.0, c.args.code.now, r.1, r.2, r.3, moved_as a.over a.place a.advances a.gives a.starts (part_seen K.least K.faults K.readings) c.args.code.now r.1 w.number w.number r.1 w.workers (turn_view c.args.what) (drawn_view c.silent-drawn.result) r.2 refl r.3.one.of c.silent-drawn.ensures.view r.4)

pub draw_carried-requires-clause-code : goal.draw_carried-requires-clause-code
draw_carried-requires-clause-code g c = ap valid_code c.silent-drawn.ensures.code ∙ sym c.requires.carries.3.one.of_code

pub returns-clause-carries : goal.returns-clause-carries
returns-clause-carries g c = λ program n h s m. let a = g.A.Agent in let K = g.C.Clock in let w = c.args.worker.now in
    c.draw_carried.ensures.carries program c.args.code.now n h s (moved_as a.over a.place a.advances a.gives a.starts (part_seen K.least K.faults K.readings) c.args.code.now n w.number w.number n w.workers (turn_view c.args.what) (drawn_view c.silent-drawn.result) h refl s.one.of c.silent-drawn.ensures.view m)

pub returns-clause-drew : goal.returns-clause-drew
returns-clause-drew g c = λ none. let q = c.draw_carried.ensures in let d = q.drew in drew_hidden d.0 c.silent-drawn.result d.1 d.2 c.args.what q.same q.hand d.3 c.silent-drawn.ensures.what c.requires.hidden none

pub returns-clause-turn : goal.returns-clause-turn
returns-clause-turn g c = let q = c.draw_carried.ensures in let d = q.drew in turn_drawn c.args.worker.now.hand c.draw_carried.new.worker.hand (turn_view c.args.what) d.0 c.silent-drawn.result d.1 d.2 q.hand d.3 (ap turn_view c.silent-drawn.ensures.what)
