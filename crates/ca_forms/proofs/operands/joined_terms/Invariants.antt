use Rattle.std.proofs.Common.{◌≡◌, ◌++◌, ◌≤◌, length}
use Rattle.std.specs.Vec.Iter.{into_iter_items}
use Rattle.ca_value.specs.Seq.{list, spare}
use Rattle.ca_forms.proofs.operands.joined_terms.Given as goal

abbrev pub invariant-loop-term : goal.invariant-loop-term
invariant-loop-term l = record {
  same : list l.terms ++ into_iter_items l.term-iterator ≡ list l.initial.terms ++ into_iter_items l.initial.term-iterator;
  room : length (into_iter_items l.term-iterator) ≤ spare l.terms;
}
