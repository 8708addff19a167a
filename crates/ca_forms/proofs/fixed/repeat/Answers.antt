use Rattle.ca_value.specs.Seq.{list}
use Rattle.ca_forms.proofs.FixedLaws.{repeated_small}
use Rattle.ca_forms.proofs.fixed.repeat.Goals as goal

pub returns-clause-ok : goal.returns-clause-ok
returns-clause-ok c = repeated_small c.args.first (list c.args.values) _ _ _ _ c.in_ok-term.ensures.ok c.requires.values c.requires.body
