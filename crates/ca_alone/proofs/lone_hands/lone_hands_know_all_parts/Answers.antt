use Rattle.ca_table.proofs.OwnTurns.{draw_left, give_left, hold_left, own_run}
use Rattle.ca_table.specs.Draws.{drawn_moves, drawn_touches}
use Rattle.ca_alone.proofs.lone_hands.lone_hands_know_all_parts.Goals as goal

pub returns-clause-runs : goal.returns-clause-runs
returns-clause-runs g c = let a = g.A.Agent in λ v sees alone up. own_run drawn_touches (drawn_moves a.over a.place a.advances a.gives a.starts) v sees alone up

pub returns-clause-holds : goal.returns-clause-holds
returns-clause-holds g c = let a = g.A.Agent in λ v sees alone up long. hold_left drawn_touches (drawn_moves a.over a.place a.advances a.gives a.starts) v sees alone up long

pub returns-clause-draws : goal.returns-clause-draws
returns-clause-draws g c = λ v t h. draw_left drawn_touches v t h

pub returns-clause-given : goal.returns-clause-given
returns-clause-given g c = λ v i h. give_left drawn_touches v i h
