use Rattle.ca_term.specs.Program.{program_view}
use Rattle.ca_states.specs.ValidCode.{valid_code}
use Rattle.ca_table.specs.Draws.{drawn_moves}
use Rattle.ca_table.proofs.Knowing.{knows_same}
use Rattle.ca_table.proofs.OwnTurns.{held_left, keeps_moved}
use Rattle.ca_table.proofs.Seats.{then_same}
use Rattle.ca_table.proofs.holding.hold_out.Goals as goal

pub move_out-requires-clause-knows : goal.move_out-requires-clause-knows
move_out-requires-clause-knows g c = let a = g.A.Agent in let h = c.hold in
    knows_same a.over a.stands (program_view c.args.program.now.value) (valid_code c.args.code.now) c.args.workers c.args.hand.now.view h.new.hand.view h.ensures.same.same.opening c.requires.knows

pub move_out-requires-clause-held : goal.move_out-requires-clause-held
move_out-requires-clause-held g c = let h = c.hold.ensures.held in (h.0, h.1, h.2)

pub returns-clause-same : goal.returns-clause-same
returns-clause-same g c = then_same c.args.hand.now c.hold.new.hand c.move_out.new.hand c.hold.ensures.same c.move_out.ensures.same

pub returns-clause-grips : goal.returns-clause-grips
returns-clause-grips g c = λ f all. let h = c.hold.ensures.held in c.move_out.ensures.grips f h.0 (h.3 f all)

pub returns-clause-left : goal.returns-clause-left
returns-clause-left g c = let a = g.A.Agent in let h = c.hold.ensures in
    keeps_moved c.args.hand.now.view c.hold.new.hand.view c.move_out.new.hand.view c.move_out.ensures.view (held_left c.args.hand.now c.hold.new.hand (drawn_moves a.over a.place a.advances a.gives a.starts) h.same h.history h.long)
