use Rattle.std.proofs.Common.{◌∙◌, Some, ap, eqb-true, sym}
use Rattle.ca_pool.proofs.idle.is_first.Goals as goal

pub returns-in-Some : goal.returns-in-Some
returns-in-Some c = λ e. sym c.first.ensures.first ∙ c.in-Some.is ∙ ap Some (eqb-true c.in-Some.moment c.args.first e)
