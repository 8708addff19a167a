use Rattle.std.proofs.Common.{rules, ◌≡◌, ◌+◌, ◌<◌, arith}
use Rattle.ca_turns.specs.Lines.{line_address}
use Rattle.ca_turns.proofs.Allowed.{may_draw}
use Rattle.ca_turns.proofs.steps.draw_as.Goals as goal

pub fetch_add-requires : goal.fetch_add-requires
fetch_add-requires g c = let wide : c.args.words.now.table_id.words ≡ line_address (c.args.words.now.table_id.slots + 1) = c.requires.table.1.0 in let is : c.line.result ≡ line_address 0 = c.line.ensures in let h : c.line.result < c.args.words.now.table_id.words = omega arith in let t = c.requires.turn in (search rules, h, may_draw g.O.Object.content g.O.Object.touches g.O.Object.moves _ _ g.O.Object.distinct _ _ c.line.result c.args.seat.now.me t.0 g.J.Drawing.turns c.line.ensures t.1 t.2 t.3 t.4 c.requires.room.0 c.requires.room.1)
