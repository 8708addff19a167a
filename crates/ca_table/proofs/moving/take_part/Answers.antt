use Rattle.std.proofs.Common.{ap}
use Rattle.ca_table.proofs.Gripping.{grips_put}
use Rattle.ca_table.proofs.moving.take_part.Goals as goal

pub returns-clause-grips : goal.returns-clause-grips
returns-clause-grips g c = λ m x k e all. grips_put c.args.hand.now c.swap_part.new.hand m c.args.at x c.args.other k e (ap (λ v. v.held) c.swap_part.ensures.view) c.swap_part.ensures.parts all
