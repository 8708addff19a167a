use Rattle.std.proofs.Common.{◌∙◌, ℕ, ap}
use Rattle.ca_states.specs.ValidCode.{valid_code}
use Rattle.ca_turns.specs.Views.{new_turn}
use Rattle.ca_commit.specs.Touched as said
use Rattle.ca_table.specs.Covering.{plain_drawn}
use Rattle.ca_table.specs.Draws.{drawn_touches, turn_view}
use Rattle.ca_table.specs.Parts.{part_seen}
use Rattle.ca_pool.specs.Surveys.{as_settled}
use Rattle.ca_pool.proofs.Stalls.{stall_keeps, stall_moves}
use Rattle.ca_pool.proofs.Lone.{stayed_one}
use Rattle.ca_pool.proofs.stall.draw_stall.Goals as goal

pub draw_event-requires-clause-moved : goal.draw_event-requires-clause-moved
draw_event-requires-clause-moved g c = let a = g.A.Agent in let K = g.C.Clock in let r = c.requires.all in let w = c.args.worker.now in let code = valid_code c.args.code.now in let d = c.silent-drawn in
    let m = stall_moves a.over a.place a.advances a.gives a.starts K.least K.faults K.readings r.1 w.number code r.2.below w.hand r.3 r.4 r.5 r.6 r.7 d.result (d.ensures.view ∙ ap (λ (k : ℕ). plain_drawn w.number k said.stalls) r.2.of) (ap valid_code d.ensures.code) in
    (as_settled (part_seen K.least K.faults K.readings) r.3, r.4.grips, m.0, m.1)

pub returns-clause-holds : goal.returns-clause-holds
returns-clause-holds g c = λ P n one f s full. let a = g.A.Agent in let K = g.C.Clock in let w = c.args.worker.now in let code = valid_code c.args.code.now in let e = c.draw_event.ensures in (
  e.one P code n one,
  stall_keeps a.over a.place a.advances a.gives a.starts K.least K.faults K.readings n w.number code one.below w.hand f s full c.draw_event.new.worker.hand (drawn_touches c.silent-drawn.result) (e.grips (as_settled (part_seen K.least K.faults K.readings) f) s.grips),
)

pub returns-clause-stayed : goal.returns-clause-stayed
returns-clause-stayed g c = let e = c.draw_event.ensures in let d = c.silent-drawn in
    stayed_one {what = said.stalls} e.same e.hand (record { turn = new_turn e.drew.0 d.result e.drew.1 e.drew.2; is = ap turn_view d.ensures.what; after = record { opening = e.hand.opening; turns = e.drew.3 } }) tt
