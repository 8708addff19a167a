use Rattle.std.proofs.Common.{◌∙◌, ap}
use Rattle.ca_term.specs.Operation.{op_view}
use Rattle.ca_pool.specs.Named.{with_operands}
use Rattle.ca_pool.proofs.HomesNamed.{operands_alone}
use Rattle.ca_pool.proofs.named.banks_of.Goals as goal

pub returns : goal.returns
returns c = λ i. let op = op_view c.args.op.now in let p = c.args.new_port in
    c.add_operands.ensures i ∙ ap (with_operands op p i) (c.none-into.ensures i) ∙ operands_alone i op p
