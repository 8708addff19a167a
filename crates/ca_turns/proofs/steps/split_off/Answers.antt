use Rattle.std.proofs.Common.{rules}
use Rattle.ca_turns.proofs.Allowed.{may_split}
use Rattle.ca_turns.proofs.steps.split_off.Goals as goal

pub split_seat-requires : goal.split_seat-requires
split_seat-requires g c = (search rules, search rules, may_split g.O.Object.content g.O.Object.touches g.O.Object.moves _ _ g.O.Object.distinct _ c.args.seat.now.me.0 c.requires.opening.0 c.requires.opening.1)
