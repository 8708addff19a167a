use Rattle.std.proofs.Common.{◌∙◌, Some, ap, length, length-set, subst, sym}
use Rattle.ca_table.specs.LoneHands.{HoldsLeft}
use Rattle.ca_table.proofs.OwnTurns.{miss_left}
use Rattle.ca_table.proofs.moving.try_hold.Goals as goal

pub returns-in-Ok-clause-long : goal.returns-in-Ok-clause-long
returns-in-Ok-clause-long g c = λ is. let h = c.in-Ok.ensures.held in ap (λ v. length v.held) h.2 ∙ length-set c.args.hand.now.view.held c.args.at (Some (g.O.Object.content h.0))

pub returns-in-Err-clause-left : goal.returns-in-Err-clause-left
returns-in-Err-clause-left g c = λ is h. let O = g.O.Object in subst (λ v. HoldsLeft O.touches v) (sym c.in-Err.ensures.busy.1) (miss_left O.touches c.args.hand.now.view c.args.at h)
