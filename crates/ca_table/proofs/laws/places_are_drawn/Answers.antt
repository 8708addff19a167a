use Rattle.ca_table.specs.Parts.{part_seen}
use Rattle.ca_table.proofs.PlacesDrawn.{applied_moved}
use Rattle.ca_table.proofs.laws.places_are_drawn.Goals as goal

pub returns : goal.returns
returns g c = let a = g.A.Agent in let K = g.C.Clock in let seen = part_seen K.least K.faults K.readings in
    λ code w n t u p v m q h e x is alike brings. applied_moved a.over a.place a.advances a.gives a.starts seen code w n t u p v m q h e x is alike brings
