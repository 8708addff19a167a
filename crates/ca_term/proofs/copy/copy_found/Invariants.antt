use Rattle.std.proofs.Common.{◌≡◌, ◌+◌, ◌≤◌, length, map, take}
use Rattle.ca_value.specs.Seq.{list, spare}
use Rattle.ca_term.specs.View.{view_of_found}
use Rattle.ca_term.proofs.copy.copy_found.Given as goal

abbrev pub invariant-loop-pair : goal.invariant-loop-pair
invariant-loop-pair l = record {
  same : map view_of_found (list l.copies) ≡ map view_of_found (take l.pair-index l.pair-items);
  room : length l.pair-items ≤ spare l.copies + l.pair-index;
}
