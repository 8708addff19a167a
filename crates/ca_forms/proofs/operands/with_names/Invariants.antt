use Rattle.std.proofs.Common.{◌≡◌, ◌+◌, ◌≤◌, length, drop}
use Rattle.ca_value.specs.Seq.{list, spare}
use Rattle.ca_term.specs.View.{kernels}
use Rattle.ca_forms.specs.Operands.{with_vars}
use Rattle.ca_forms.proofs.operands.with_names.Given as goal

abbrev pub invariant-loop-name : goal.invariant-loop-name
invariant-loop-name l = record {
  same : with_vars (kernels (list l.operands)) (drop l.name-index l.names) ≡ with_vars (kernels (list l.fn.operands)) l.names;
  room : length l.names ≤ spare l.operands + l.name-index;
}
