use Rattle.std.proofs.Common.{◌≡◌, drop}
use Rattle.ca_value.specs.Seq.{list}
use Rattle.ca_term.specs.View.{kernel, kernels}
use Rattle.ca_meaning.specs.Redex.{redex_items}
use Rattle.ca_meaning.proofs.redex.+redex.Given as goal

abbrev pub invariant-redex_of_terms-loop-term : goal.invariant-redex_of_terms-loop-term
invariant-redex_of_terms-loop-term l =
    redex_items (kernels (drop l.term-index l.term-items)) (kernel l.here) ≡ redex_items (kernels (list l.terms)) (kernel l.here)
