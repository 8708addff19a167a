use Rattle.std.proofs.Common.{◌≡◌, drop}
use Rattle.ca_value.specs.Seq.{list}
use Rattle.ca_value.specs.Tree.{nil}
use Rattle.ca_value.specs.View.{view}
use Rattle.ca_term.specs.Kernel.{puts}
use Rattle.ca_term.specs.View.{kernel, kernels}
use Rattle.ca_meaning.specs.Redex.{values_of}
use Rattle.ca_meaning.specs.Operands.{values_in}
use Rattle.ca_meaning.specs.Started.{named}
use Rattle.ca_meaning.proofs.started.text_with.Given as goal

abbrev pub invariant-loop-name : goal.invariant-loop-name
invariant-loop-name l = record {
  at : l.place ≡ l.name-index;
  rest : puts (named (drop l.name-index l.name-items) (values_in (values_of (kernels (drop l.name-index (list l.operands)))))) (kernel l.now) ≡ puts (named (list l.names) (values_in (values_of (kernels (list l.operands))))) (kernel l.text);
  no_value : view l.nil ≡ nil;
}
