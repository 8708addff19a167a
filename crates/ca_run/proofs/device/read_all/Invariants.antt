use Rattle.std.proofs.Common.{length, ◌-◌, ◌+◌, ◌≤◌}
use Rattle.std.specs.Io.KnownBytes.{Consumes}
use Rattle.ca_value.specs.Seq.{list}
use Rattle.ca_run.proofs.device.read_all.Given as goal

abbrev pub invariant-loop-piece : goal.invariant-loop-piece
invariant-loop-piece g l = record {
  most : length (list l.text) ≤ l.limit + 1;
  read : Consumes (g.S.Source.left l.initial.source) (g.S.Source.left l.source) (list l.text);
  later : g.S.Source.faults l.initial.source ≤ g.S.Source.faults l.source;
}

abbrev pub decreases-loop-piece : goal.decreases-loop-piece
decreases-loop-piece g l = l.limit + 1 - length (list l.text)
