use Rattle.std.proofs.Common.{◌≡◌, ◌+◌, ◌≤◌, length, take}
use Rattle.ca_value.specs.Seq.{list, spare}
use Rattle.ca_value.specs.View.{views}
use Rattle.ca_value.proofs.copy.copies.Given as goal

abbrev pub invariant-loop-value : goal.invariant-loop-value
invariant-loop-value l = record {
  same : views (list l.copies) ≡ views (take l.value-index l.values);
  room : length l.values ≤ spare l.copies + l.value-index;
}
