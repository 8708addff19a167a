use Rattle.ca_table.specs.Draws.{drawn_moves}
use Rattle.ca_alone.proofs.Drawing.{ran_next}
use Rattle.ca_alone.proofs.lone_hands.lone_turns_were_next.Goals as goal

pub returns : goal.returns
returns g c = let a = g.A.Agent in ran_next (drawn_moves a.over a.place a.advances a.gives a.starts)
