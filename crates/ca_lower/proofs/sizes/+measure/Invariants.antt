use Rattle.std.proofs.Common.{◌≡◌, drop}
use Rattle.ca_value.specs.Seq.{list}
use Rattle.ca_term.specs.View.{bindings, kernels}
use Rattle.ca_lower.specs.Emit.{blocks_all, blocks_bound}
use Rattle.ca_lower.specs.Splits.{stacked_all, stacked_bound}
use Rattle.ca_lower.proofs.sizes.+measure.Given as goal

abbrev pub invariant-measure_all-loop-place : goal.invariant-measure_all-loop-place
invariant-measure_all-loop-place l = record {
  blocks : l.count ≡ blocks_all (kernels (drop l.place l.terms));
  splits : list l.splits ≡ stacked_all (kernels (drop l.place l.terms)) (list l.fn.splits);
}

abbrev pub invariant-measure_bound-loop-place : goal.invariant-measure_bound-loop-place
invariant-measure_bound-loop-place l = record {
  blocks : l.count ≡ blocks_bound (bindings (drop l.place l.bindings));
  splits : list l.splits ≡ stacked_bound (bindings (drop l.place l.bindings)) (list l.fn.splits);
}
