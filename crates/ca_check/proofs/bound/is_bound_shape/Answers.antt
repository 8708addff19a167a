use Rattle.std.proofs.Common.{◌∙◌, arith}
use Rattle.ca_check.proofs.BoundLaws.{shape_some, shape_few, shape_many}
use Rattle.ca_check.proofs.bound.is_bound_shape.Goals as goal

pub returns-then-parts-lt3 : goal.returns-then-parts-lt3
returns-then-parts-lt3 c = rw c.if-branches.true (shape_few c.args.parts.now (omega (arith, c.if-parts-lt3.true)))

pub returns-then-parts-lt5 : goal.returns-then-parts-lt5
returns-then-parts-lt5 c = rw c.if-branches.true (c.is_only_name.ensures ∙ shape_some c.args.parts.now c.index-parts-1.result (omega arith) (omega arith) c.index-parts-1.is)

pub returns-else-parts-lt5 : goal.returns-else-parts-lt5
returns-else-parts-lt5 c = rw c.if-branches.true (shape_many c.args.parts.now (omega arith))
