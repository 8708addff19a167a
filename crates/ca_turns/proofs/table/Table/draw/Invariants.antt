use Rattle.std.proofs.Common.{◌∷◌, [], map}
use Rattle.ca_turns.specs.Hands.{look}
use Rattle.ca_turns.specs.Views.{new_turn}
use Rattle.ca_turns.proofs.table.Table.draw.Given as goal

abbrev pub ghosts-draw_as : goal.ghosts-draw_as
ghosts-draw_as g a = let is = g.O.Object.touches a._event.now in record { turns = new_turn 0 a._event.now (look a.seat.now.me.0.held is) (map g.O.Object.content (look a._parts.now.items is)) ∷ [] }
