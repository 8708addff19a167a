use Rattle.ca_table.specs.Carriers.{was}
use Rattle.ca_table.specs.Parts.{part_seen}
use Rattle.ca_table.proofs.Loaded.{made_same}
use Rattle.ca_table.proofs.Staying.{parts_stay}
use Rattle.ca_table.proofs.laws.parts_stay.Goals as goal

pub returns-clause-reserved : goal.returns-clause-reserved
returns-clause-reserved g c = λ w n h lane timers held held2 same made. made_same n w was h lane timers held held2 same made

pub returns-clause-applied : goal.returns-clause-applied
returns-clause-applied g c = let a = g.A.Agent in let K = g.C.Clock in λ code. parts_stay a.over a.place a.advances a.gives a.starts (part_seen K.least K.faults K.readings) code
