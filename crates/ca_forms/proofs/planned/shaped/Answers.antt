use Rattle.ca_forms.proofs.PlanLaws.{shaped_some, shaped_none}
use Rattle.ca_forms.proofs.planned.shaped.Goals as goal

pub returns-in-Some : goal.returns-in-Some
returns-in-Some c = shaped_some c.args.choices.now c.args.parts.now c.in-Some.planned.now c.requires (c.in-Some.ensures.lookup.3.0) (c.in-Some.ensures.lookup.1)

pub returns-in-None : goal.returns-in-None
returns-in-None c = shaped_none c.args.choices.now c.args.parts.now c.requires c.in-None.ensures.lookup.3
