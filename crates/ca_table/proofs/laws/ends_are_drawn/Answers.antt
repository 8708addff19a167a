use Rattle.ca_table.specs.Parts.{part_seen}
use Rattle.ca_table.proofs.HaltMoved.{ends_draw, faults_draw, refusals_draw}
use Rattle.ca_table.proofs.laws.ends_are_drawn.Goals as goal

pub returns-clause-ended : goal.returns-clause-ended
returns-clause-ended g c = let a = g.A.Agent in let K = g.C.Clock in λ code. ends_draw a.over a.place a.advances a.gives a.starts (part_seen K.least K.faults K.readings) code

pub returns-clause-faulted : goal.returns-clause-faulted
returns-clause-faulted g c = let a = g.A.Agent in let K = g.C.Clock in λ code. faults_draw a.over a.place a.advances a.gives a.starts (part_seen K.least K.faults K.readings) code

pub returns-clause-refused : goal.returns-clause-refused
returns-clause-refused g c = let a = g.A.Agent in let K = g.C.Clock in λ code. refusals_draw a.over a.place a.advances a.gives a.starts (part_seen K.least K.faults K.readings) code
