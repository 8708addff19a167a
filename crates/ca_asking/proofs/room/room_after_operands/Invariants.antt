use Rattle.std.proofs.Common.{◌≡◌, ◌≤◌, ◌+◌, drop, length}
use Rattle.ca_value.specs.Tree.{nil}
use Rattle.ca_value.specs.View.{view}
use Rattle.ca_value.specs.Printed.{plain_items, plain_more}
use Rattle.ca_asking.specs.Asked.{trees_by}
use Rattle.ca_asking.proofs.room.room_after_operands.Given as goal

abbrev pub invariant-loop-operand : goal.invariant-loop-operand
invariant-loop-operand g l = record {
  left : l.room + length (plain_items (trees_by g.O.AsOperand.tree l.operands)) ≡ l.fn.room + length (plain_more (trees_by g.O.AsOperand.tree (drop l.operand-index l.rest)));
  less : l.room ≤ l.fn.room;
  no_value : view l.nil ≡ nil;
}
