use Rattle.std.proofs.Common.{◌≡◌, ◌++◌, ◌≤◌, length}
use Rattle.std.specs.Vec.Iter.{into_iter_items}
use Rattle.ca_value.specs.Seq.{list, spare}
use Rattle.ca_forms.proofs.gathered.plain_terms.Given as goal

abbrev pub invariant-loop-term : goal.invariant-loop-term
invariant-loop-term l = record {
  same : list l.plain ++ into_iter_items l.term-iterator ≡ into_iter_items l.initial.term-iterator;
  room : length (into_iter_items l.term-iterator) ≤ spare l.plain;
}
