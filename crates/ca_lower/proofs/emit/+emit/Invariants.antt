use Rattle.std.proofs.Common.{◌≡◌, ◌+◌, ◌++◌, drop, take, length}
use Rattle.ca_value.specs.Seq.{list}
use Rattle.ca_term.specs.View.{bindings, kernels}
use Rattle.ca_lower.specs.Implements.{in_slots, names_bound}
use Rattle.ca_lower.specs.Emit.{emit_all, emit_bindings}
use Rattle.ca_lower.specs.InOrder.{emit_rest}
use Rattle.ca_lower.specs.Splits.{stacked_all, stacked_bound}
use Rattle.ca_lower.specs.Views.{builder_view, scope_view, target_view}
use Rattle.ca_lower.proofs.SplitLaws.{Passes}
use Rattle.ca_lower.proofs.emit.+emit.Given as goal

abbrev pub invariant-emit_all-loop-term : goal.invariant-emit_all-loop-term
invariant-emit_all-loop-term l = record {
  code : emit_all l.width (scope_view (list l.fn.names)) l.slot (kernels (drop l.term-index l.term-items)) (builder_view l.b) ≡ emit_all l.width (scope_view (list l.fn.names)) l.h (kernels l.term-items) (builder_view l.fn.b);
  names : list l.names ≡ list l.fn.names;
  splits : Passes (stacked_all (kernels l.term-items)) (stacked_all (kernels (drop l.term-index l.term-items))) (list l.fn.splits) (list l.splits);
}

abbrev pub invariant-emit_in_order-loop-term : goal.invariant-emit_in_order-loop-term
invariant-emit_in_order-loop-term l = record {
  code : emit_rest l.width (target_view l.target) (scope_view (list l.fn.names)) l.h (kernels (drop l.term-index l.term-items)) (builder_view l.b) ≡ emit_rest l.width (target_view l.target) (scope_view (list l.fn.names)) l.h (kernels l.term-items) (builder_view l.fn.b);
  names : list l.names ≡ list l.fn.names;
  left : l.left + l.term-index ≡ length l.term-items;
  splits : Passes (stacked_all (kernels l.term-items)) (stacked_all (kernels (drop l.term-index l.term-items))) (list l.fn.splits) (list l.splits);
}

abbrev pub invariant-emit_bindings-loop-binding : goal.invariant-emit_bindings-loop-binding
invariant-emit_bindings-loop-binding l = record {
  code : emit_bindings l.width (scope_view (list l.names)) l.slot (bindings (drop l.binding-index l.binding-items)) (builder_view l.b) ≡ emit_bindings l.width (scope_view (list l.fn.names)) l.h (bindings l.binding-items) (builder_view l.fn.b);
  scope : scope_view (list l.names) ++ in_slots (names_bound (bindings (drop l.binding-index l.binding-items))) l.slot ≡ scope_view (list l.fn.names) ++ in_slots (names_bound (bindings l.binding-items)) l.h;
  kept : take (length (list l.fn.names)) (list l.names) ≡ list l.fn.names;
  splits : Passes (stacked_bound (bindings l.binding-items)) (stacked_bound (bindings (drop l.binding-index l.binding-items))) (list l.fn.splits) (list l.splits);
}
