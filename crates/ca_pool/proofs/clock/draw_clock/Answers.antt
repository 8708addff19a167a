use Rattle.std.proofs.Common.{List, Some, ap, arith, length, refl, subst}
use Rattle.ca_term.specs.Event.{EventView}
use Rattle.ca_meaning.specs.Cost.{cost}
use Rattle.ca_table.specs.Draws.{turn_view}
use Rattle.ca_table.specs.Parts.{clockwork_seen}
use Rattle.ca_table.specs.Worked.{Drew, finds_run_end}
use Rattle.ca_pool.proofs.Asides.{may_any, same_shown, timed_moved}
use Rattle.ca_pool.proofs.clock.draw_clock.Goals as goal

pub draw_aside-requires-clause-moved : goal.draw_aside-requires-clause-moved
draw_aside-requires-clause-moved g c = let a = g.A.Agent in let K = g.C.Clock in let r = c.requires.carries in let held = c.args.held.now in let clock = c.args.clockwork in (
  r.0,
  r.1,
  r.2,
  Some r.3,
  r.4,
  r.5,
  same_shown (Some r.3) (Some clock) r.4 held refl r.6,
  timed_moved a.over a.place a.advances a.gives a.starts K.least K.faults K.readings c.args.code.now r.1 c.args.worker.now.number r.2 r.3 clock r.4 held (turn_view c.args.what) r.6 c.requires.ready r.7,
)

pub draw_aside-requires-clause-allows : goal.draw_aside-requires-clause-allows
draw_aside-requires-clause-allows g c = let K = g.C.Clock in let r = c.requires.carries in let w = c.args.worker.now in
    λ i. may_any w.number w.workers i (turn_view c.args.what) (clockwork_seen K.least K.faults K.readings r.3.value) (clockwork_seen K.least K.faults K.readings c.args.clockwork.value) r.7

pub draw_aside-requires-clause-room : goal.draw_aside-requires-clause-room
draw_aside-requires-clause-room g c = let e = ap length c.requires.hidden in omega (arith, e)

pub returns-clause-drew : goal.returns-clause-drew
returns-clause-drew g c = λ k. subst (λ (es : List EventView). Drew (cost es) (finds_run_end (turn_view c.args.what)) c.args.worker.now c.draw_aside.new.worker) c.requires.hidden (c.draw_aside.ensures.drew k)

pub returns-clause-carries : goal.returns-clause-carries
returns-clause-carries g c = λ P n l clock0 held0 s show t. let a = g.A.Agent in let K = g.C.Clock in let held = c.args.held.now in let clock = c.args.clockwork in
    c.draw_aside.ensures.carries P n l (Some clock0) held0 s (same_shown (Some clock0) (Some clock) held0 held refl show)
    (timed_moved a.over a.place a.advances a.gives a.starts K.least K.faults K.readings c.args.code.now n c.args.worker.now.number l clock0 clock held0 held (turn_view c.args.what) show c.requires.ready t)

pub returns-clause-turn : goal.returns-clause-turn
returns-clause-turn g c = let d = c.draw_aside.ensures in record { turn = d.turns.0; is = ap turn_view d.turns.2; after = record { opening = d.hand.opening; turns = d.turns.1 } }

pub returns-clause-timed : goal.returns-clause-timed
returns-clause-timed g c = λ P n l clock0 held0 s show t alone. let a = g.A.Agent in let K = g.C.Clock in let held = c.args.held.now in let clock = c.args.clockwork in
    c.draw_aside.ensures.timed P n l (Some clock0) held0 s (same_shown (Some clock0) (Some clock) held0 held refl show)
    (timed_moved a.over a.place a.advances a.gives a.starts K.least K.faults K.readings c.args.code.now n c.args.worker.now.number l clock0 clock held0 held (turn_view c.args.what) show c.requires.ready t) alone
