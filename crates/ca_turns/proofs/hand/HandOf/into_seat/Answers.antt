use Rattle.std.proofs.Common.{sym, subst}
use Rattle.ca_turns.specs.Hands.{HoldsNothing}
use Rattle.ca_turns.proofs.Keeping.{holds_nothing}
use Rattle.ca_turns.proofs.Spread.{none_out}
use Rattle.ca_turns.proofs.hand.HandOf.into_seat.Goals as goal

pub returns-clause-none : goal.returns-clause-none
returns-clause-none g c = let n = holds_nothing c.self.inside.parts.items (subst HoldsNothing (sym c.self.view_is) c.requires) c.self.invariant in (none_out c.self.inside.seat.me.1 n.0, n.1)
