use Rattle.std.proofs.Common.{◌∙◌, Some, ap, length, length-set}
use Rattle.ca_table.proofs.moving.hold.Goals as goal

pub returns-clause-long : goal.returns-clause-long
returns-clause-long g c = let h = c.hold.ensures.held in ap (λ v. length v.held) h.3 ∙ length-set c.args.hand.now.view.held c.args.at (Some (g.O.Object.content h.0))
