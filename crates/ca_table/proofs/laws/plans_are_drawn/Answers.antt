use Rattle.ca_table.specs.Parts.{part_seen}
use Rattle.ca_table.proofs.Committed.{commit_moved}
use Rattle.ca_table.proofs.laws.plans_are_drawn.Goals as goal

pub returns : goal.returns
returns g c = let a = g.A.Agent in let K = g.C.Clock in let seen = part_seen K.least K.faults K.readings in
    λ code w n h lane lane2 timers timers2 held held2 q task spawned running e ports looked t due did times event brings.
    commit_moved a.over a.place a.advances a.gives a.starts seen code w n q lane lane2 timers timers2 held held2 task spawned running h t due did times e event ports looked brings
