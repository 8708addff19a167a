use Rattle.std.proofs.Common.{◌≡◌, drop}
use Rattle.ca_value.specs.Seq.{list}
use Rattle.ca_term.specs.View.{kernels}
use Rattle.ca_meaning.specs.Redex.{all_values}
use Rattle.ca_meaning.proofs.redex.are_values.Given as goal

abbrev pub invariant-loop-term : goal.invariant-loop-term
invariant-loop-term l = all_values (kernels (drop l.term-index l.term-items)) ≡ all_values (kernels (list l.terms))
