use Rattle.std.proofs.Common.{◌≡◌, ◌+◌, ◌≤◌, length}
use Rattle.ca_value.specs.Seq.{list, spare}
use Rattle.ca_lower.proofs.code.marks.Given as goal

abbrev pub invariant-loop-slot : goal.invariant-loop-slot
invariant-loop-slot l = record {
  count : length (list l.marks) ≡ l._slot;
  room : l.count ≤ spare l.marks + l._slot;
}
