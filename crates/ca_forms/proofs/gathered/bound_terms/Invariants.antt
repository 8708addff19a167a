use Rattle.std.proofs.Common.{◌≡◌, ◌+◌, ◌<◌, ◌≤◌, ◌^◌, length}
use Rattle.std.specs.Vec.Iter.{into_iter_items}
use Rattle.ca_value.specs.Seq.{list, spare}
use Rattle.ca_term.specs.View.{bindings}
use Rattle.ca_forms.specs.Meaning.{bindings_joined, numbered}
use Rattle.ca_forms.specs.WalkView.{terms_of}
use Rattle.ca_forms.proofs.gathered.bound_terms.Given as goal

abbrev pub invariant-loop-term : goal.invariant-loop-term
invariant-loop-term l = record {
  same : bindings_joined (bindings (list l.rest)) (numbered l.number (terms_of (into_iter_items l.term-iterator))) ≡ numbered l.fn.first (terms_of (into_iter_items l.initial.term-iterator));
  room : length (into_iter_items l.term-iterator) ≤ spare l.rest;
  small : l.number + length (into_iter_items l.term-iterator) < 2 ^ 64;
}
