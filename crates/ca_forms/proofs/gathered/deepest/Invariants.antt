use Rattle.std.proofs.Common.{◌≡◌, ◌≤◌, drop, max}
use Rattle.ca_term.specs.View.{kernels}
use Rattle.ca_forms.specs.Depth.{kernels_depth}
use Rattle.ca_forms.proofs.gathered.deepest.Given as goal

abbrev pub invariant-loop-term : goal.invariant-loop-term
invariant-loop-term l = record {
  same : max l.depth (kernels_depth (kernels (drop l.term-index l.terms))) ≡ kernels_depth (kernels l.terms);
  most : l.depth ≤ 400;
}
