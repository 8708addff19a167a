use Rattle.ca_table.specs.Parts.{part_seen}
use Rattle.ca_table.proofs.SettleMoved.{prunes_draw, settles_draw}
use Rattle.ca_table.proofs.laws.channels_are_drawn.Goals as goal

pub returns-clause-settled : goal.returns-clause-settled
returns-clause-settled g c = let a = g.A.Agent in let K = g.C.Clock in λ code. settles_draw a.over a.place a.advances a.gives a.starts (part_seen K.least K.faults K.readings) code

pub returns-clause-pruned : goal.returns-clause-pruned
returns-clause-pruned g c = let a = g.A.Agent in let K = g.C.Clock in λ code. prunes_draw a.over a.place a.advances a.gives a.starts (part_seen K.least K.faults K.readings) code
