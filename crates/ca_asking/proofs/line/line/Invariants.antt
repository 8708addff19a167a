use Rattle.std.proofs.Common.{◌≡◌, ◌++◌, drop}
use Rattle.ca_value.specs.Seq.{list}
use Rattle.ca_value.specs.Tree.{nil}
use Rattle.ca_value.specs.View.{view}
use Rattle.ca_value.specs.Printed.{plain_more}
use Rattle.ca_asking.specs.Asked.{trees_by}
use Rattle.ca_asking.proofs.line.line.Given as goal

abbrev pub invariant-loop-value : goal.invariant-loop-value
invariant-loop-value g l = record {
  written : list l.text ++ plain_more (trees_by g.O.AsOperand.tree (drop l.value-index l.rest)) ≡ list l.initial.text ++ plain_more (trees_by g.O.AsOperand.tree l.rest);
  no_value : view l.nil ≡ nil;
}
