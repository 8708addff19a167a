use Rattle.ca_term.specs.Program.{program_view}
use Rattle.ca_states.specs.ValidCode.{valid_code}
use Rattle.ca_table.specs.Draws.{drawn_moves}
use Rattle.ca_table.proofs.Knowing.{knows_same}
use Rattle.ca_table.proofs.OwnTurns.{held_left, keeps_moved}
use Rattle.ca_table.proofs.holding.try_out.Goals as goal

pub move_out-requires-clause-knows : goal.move_out-requires-clause-knows
move_out-requires-clause-knows g c = let a = g.A.Agent in let h = c.try_hold in
    knows_same a.over a.stands (program_view c.args.program.now.value) (valid_code c.args.code.now) c.args.workers c.args.hand.now.view h.new.hand.view h.ensures.same.same.opening c.requires.knows

pub move_out-requires-clause-held : goal.move_out-requires-clause-held
move_out-requires-clause-held g c = let h = c.try_hold.ensures.held c.if-try_hold.true in (h.0, h.1, h.2)

pub returns-then-try_hold-clause-grips : goal.returns-then-try_hold-clause-grips
returns-then-try_hold-clause-grips g c = λ f all. let h = c.try_hold.ensures.held c.if-try_hold.true in c.move_out.ensures.grips f h.0 (h.3 f all)

pub returns-then-try_hold-clause-left : goal.returns-then-try_hold-clause-left
returns-then-try_hold-clause-left g c = let a = g.A.Agent in let h = c.try_hold.ensures in let is = c.if-try_hold.true in
    keeps_moved c.args.hand.now.view c.try_hold.new.hand.view c.move_out.new.hand.view c.move_out.ensures.view (held_left c.args.hand.now c.try_hold.new.hand (drawn_moves a.over a.place a.advances a.gives a.starts) h.same (h.history is) (h.long is))

pub returns-else-try_hold-clause-left : goal.returns-else-try_hold-clause-left
returns-else-try_hold-clause-left g c = λ alone up. c.try_hold.ensures.left c.if-try_hold.false
