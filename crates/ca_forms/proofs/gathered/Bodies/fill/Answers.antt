use Rattle.std.proofs.Common.{map, ap, ◌∙◌}
use Rattle.std.proofs.lemmas.List.{map-set}
use Rattle.ca_value.specs.Seq.{list}
use Rattle.ca_term.specs.Program.{procedure_view}
use Rattle.ca_forms.specs.WalkView.{gathered}
use Rattle.ca_forms.proofs.gathered.Bodies.fill.Goals as goal

pub returns-then-number-len : goal.returns-then-number-len
returns-then-number-len c = ap (λ bs. record (gathered c.args.self.now) { bodies = bs }) (ap (map procedure_view) c.set.ensures.set ∙ map-set procedure_view (list c.args.self.now.bodies) c.args.number c.args.made)
