use Rattle.std.proofs.Common.{ap, arith}
use Rattle.std.proofs.lemmas.Grind.{common_steps}
use Rattle.ca_value.specs.Tree.{trees_of}
use Rattle.ca_asking.proofs.operands.copies.Goals as goal

pub returns : goal.returns
returns g c = ap trees_of (grind (arith, common_steps))
