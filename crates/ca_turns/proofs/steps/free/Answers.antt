use Rattle.std.proofs.Common.{rules, ◌≡◌, ◌+◌, ◌<◌, arith}
use Rattle.ca_turns.specs.Lines.{line_address}
use Rattle.ca_turns.proofs.Allowed.{may_free}
use Rattle.ca_turns.proofs.steps.free.Goals as goal

pub store-requires : goal.store-requires
store-requires g c = let wide : c.args.words.now.table_id.words ≡ line_address (c.args.words.now.table_id.slots + 1) = c.requires.table.1.0 in let is : c.line.result ≡ line_address (c.args.part + 1) = c.line.ensures in let near : c.args.part < c.args.words.now.table_id.slots = c.requires.part in let h : c.line.result < c.args.words.now.table_id.words = omega arith in let held = c.requires.held in (search rules, h, may_free g.O.Object.content g.O.Object.touches g.O.Object.moves _ _ g.O.Object.distinct _ _ c.args.part c.line.result c.args.seat.now.me held.0.0 c.line.ensures c.requires.part held.0.1 held.0.2 held.1)
