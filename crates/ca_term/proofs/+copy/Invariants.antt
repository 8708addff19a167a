use Rattle.std.proofs.Common.{◌≡◌, ◌+◌, ◌≤◌, length, map, take}
use Rattle.ca_value.specs.Seq.{list, spare}
use Rattle.ca_term.specs.View.{kernel, binding_view}
use Rattle.ca_term.proofs.+copy.Given as goal

abbrev pub invariant-copy::copy_terms-loop-term : goal.invariant-copy::copy_terms-loop-term
invariant-copy::copy_terms-loop-term l = record {
  same : map kernel (list l.copies) ≡ map kernel (take l.term-index l.terms);
  room : length l.terms ≤ spare l.copies + l.term-index;
}

abbrev pub invariant-copy::copy_bindings-loop-binding :
    goal.invariant-copy::copy_bindings-loop-binding
invariant-copy::copy_bindings-loop-binding l = record {
  same : map binding_view (list l.copies) ≡ map binding_view (take l.binding-index l.binding-items);
  room : length l.binding-items ≤ spare l.copies + l.binding-index;
}
