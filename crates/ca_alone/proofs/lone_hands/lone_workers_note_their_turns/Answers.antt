use Rattle.ca_table.specs.Draws.{drawn_moves, drawn_touches}
use Rattle.ca_table.proofs.OwnTurns.{own_journal}
use Rattle.ca_alone.proofs.lone_hands.lone_workers_note_their_turns.Goals as goal

pub returns : goal.returns
returns g c = let a = g.A.Agent in own_journal drawn_touches (drawn_moves a.over a.place a.advances a.gives a.starts)
