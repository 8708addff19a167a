use Rattle.std.proofs.Common.{subst, sym}
use Rattle.ca_table.specs.LoneHands.{HoldsLeft}
use Rattle.ca_table.proofs.OwnTurns.{give_left}
use Rattle.ca_table.proofs.moving.give.Goals as goal

pub returns-clause-left : goal.returns-clause-left
returns-clause-left g c = λ h. let O = g.O.Object in subst (λ v. HoldsLeft O.touches v) (sym c.give_back.ensures.given) (give_left O.touches c.args.hand.now.view c.args.at h)
