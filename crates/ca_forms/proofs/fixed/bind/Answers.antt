use Rattle.ca_value.specs.Seq.{list}
use Rattle.ca_forms.proofs.FixedLaws.{bound_small}
use Rattle.ca_forms.proofs.fixed.bind.Goals as goal

pub returns-clause-ok : goal.returns-clause-ok
returns-clause-ok c = bound_small c.args.first (list c.args.values) _ _ _ _ c.in_ok-term.ensures.ok c.requires.values c.requires.body
