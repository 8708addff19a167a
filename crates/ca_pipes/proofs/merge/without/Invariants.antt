use Rattle.std.proofs.Common.{◌≡◌, ◌≤◌, ◌+◌, take, length}
use Rattle.ca_value.specs.Seq.{list, spare}
use Rattle.ca_value.specs.View.{trees}
use Rattle.ca_meaning.specs.PipeTable.{without_port}
use Rattle.ca_pipes.proofs.merge.without.Given as goal

abbrev pub invariant-loop-input : goal.invariant-loop-input
invariant-loop-input l = record {
  same : trees (list l.kept) ≡ without_port l.port.n (trees (take l.input-index l.inputs));
  room : length l.inputs ≤ spare l.kept + l.input-index;
}
