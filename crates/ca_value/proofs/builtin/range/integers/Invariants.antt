use Rattle.std.proofs.Common.{◌≡◌, ◌+◌, ◌≤◌}
use Rattle.ca_value.specs.Seq.{list, spare}
use Rattle.ca_value.specs.View.{views}
use Rattle.ca_value.specs.Vectors.{integers_from}
use Rattle.ca_value.proofs.builtin.range.integers.Given as goal

abbrev pub invariant-loop-k : goal.invariant-loop-k
invariant-loop-k l = record {
  same : views (list l.items) ≡ integers_from l.first l.k;
  room : l.count ≤ spare l.items + l.k;
}
