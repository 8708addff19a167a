use Rattle.ca_table.specs.Draws.{drawn_moves, drawn_touches}
use Rattle.ca_table.specs.Parts.{part_seen}
use Rattle.ca_alone.proofs.Drawing.{draws_next}
use Rattle.ca_table.proofs.OwnTurns.{hold_more}
use Rattle.ca_alone.proofs.lone_hands.lone_hands_draw_next.Goals as goal

pub returns-clause-draws : goal.returns-clause-draws
returns-clause-draws g c = let a = g.A.Agent in let k = g.C.Clock in draws_next (part_seen k.least k.faults k.readings) (drawn_moves a.over a.place a.advances a.gives a.starts)

pub returns-clause-holds : goal.returns-clause-holds
returns-clause-holds g c = let a = g.A.Agent in hold_more drawn_touches (drawn_moves a.over a.place a.advances a.gives a.starts)
