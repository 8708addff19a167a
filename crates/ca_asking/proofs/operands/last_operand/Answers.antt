use Rattle.std.proofs.Common.{◌≡◌, ◌-◌, sym, ◌∙◌, rules, slice_get, length, Some}
use Rattle.ca_asking.proofs.OperandLaws.{last-some}
use Rattle.ca_asking.proofs.operands.last_operand.Goals as goal

pub returns-in-Some : goal.returns-in-Some
returns-in-Some g c = let e : slice_get c.args.values.now (length c.args.values.now - 1) ≡ Some c.in-Some.value.now = search rules in c.value.ensures ∙ sym (last-some g.O.AsOperand.tree c.args.values.now c.in-Some.value.now e)
