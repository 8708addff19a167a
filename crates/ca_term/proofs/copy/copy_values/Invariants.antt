use Rattle.std.proofs.Common.{◌≡◌, ◌+◌, ◌≤◌, length, map, take}
use Rattle.ca_value.specs.Seq.{list, spare}
use Rattle.ca_value.specs.View.{view}
use Rattle.ca_term.proofs.copy.copy_values.Given as goal

abbrev pub invariant-loop-value : goal.invariant-loop-value
invariant-loop-value l = record {
  same : map view (list l.copies) ≡ map view (take l.value-index l.values);
  room : length l.values ≤ spare l.copies + l.value-index;
}
