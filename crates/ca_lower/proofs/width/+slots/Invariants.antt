use Rattle.std.proofs.Common.{◌≡◌, drop}
use Rattle.ca_term.specs.View.{bindings, kernels}
use Rattle.ca_lower.specs.Emit.{greater, slots_for_all, slots_for_bound, slots_in_order}
use Rattle.ca_lower.proofs.width.+slots.Given as goal

abbrev pub invariant-slots_in_order-loop-term : goal.invariant-slots_in_order-loop-term
invariant-slots_in_order-loop-term l = greater l.most (slots_in_order l.slot (kernels (drop l.term-index l.term-items))) ≡ slots_in_order l.slot (kernels l.term-items)

abbrev pub invariant-slots_for_bound-loop-binding : goal.invariant-slots_for_bound-loop-binding
invariant-slots_for_bound-loop-binding l = greater l.most (slots_for_bound l.next (bindings (drop l.binding-index l.binding-items))) ≡ slots_for_bound l.slot (bindings l.binding-items)

abbrev pub invariant-slots_for_all-loop-term : goal.invariant-slots_for_all-loop-term
invariant-slots_for_all-loop-term l = greater l.most (slots_for_all l.next (kernels (drop l.term-index l.term-items))) ≡ slots_for_all l.slot (kernels l.term-items)
