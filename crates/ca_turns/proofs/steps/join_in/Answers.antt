use Rattle.std.proofs.Common.{rules}
use Rattle.ca_turns.proofs.Allowed.{may_join}
use Rattle.ca_turns.proofs.steps.join_in.Goals as goal

pub join_seat-requires : goal.join_seat-requires
join_seat-requires g c = let l = c.requires.live in (search rules, search rules, search rules, search rules, may_join g.O.Object.content g.O.Object.touches g.O.Object.moves _ _ g.O.Object.distinct _ c.args.seat.now.me.0 _ c.args.other.me.0 l.0 l.1 l.2)
