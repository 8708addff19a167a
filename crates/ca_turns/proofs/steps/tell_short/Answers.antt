use Rattle.std.proofs.Common.{rules, ◌≡◌, ◌+◌, ◌<◌, arith}
use Rattle.ca_turns.specs.Lines.{line_address}
use Rattle.ca_turns.proofs.Allowed.{may_look}
use Rattle.ca_turns.proofs.steps.tell_short.Goals as goal

pub load-requires : goal.load-requires
load-requires g c = let wide : c.args.words.now.table_id.words ≡ line_address (c.args.words.now.table_id.slots + 1) = c.requires.table.1.0 in let is : c.line.result ≡ line_address 0 = c.line.ensures in let h : c.line.result < c.args.words.now.table_id.words = omega arith in (search rules, h, may_look g.O.Object.content g.O.Object.touches g.O.Object.moves _ _ g.O.Object.distinct _ _ c.line.result c.args.seat.now.me c.line.ensures)
