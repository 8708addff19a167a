use Rattle.std.proofs.Common.{◌≡◌, ◌≤◌, ◌+◌, map, take, length}
use Rattle.ca_value.specs.Seq.{list, spare}
use Rattle.ca_value.specs.Tree.{nil}
use Rattle.ca_value.specs.View.{view}
use Rattle.ca_asking.proofs.operands.copies.Given as goal

abbrev pub invariant-loop-value : goal.invariant-loop-value
invariant-loop-value g l = record {
  same : map view (list l.copies) ≡ map g.O.AsOperand.tree (take l.value-index l.values);
  room : length l.values ≤ spare l.copies + l.value-index;
  no_value : view l.nil ≡ nil;
}
