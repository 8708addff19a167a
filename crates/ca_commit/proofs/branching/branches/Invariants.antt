use Rattle.std.proofs.Common.{◌≡◌, ◌≤◌, ◌+◌, length, map, take}
use Rattle.ca_value.specs.Seq.{list, spare}
use Rattle.ca_term.specs.Event.{branch_view}
use Rattle.ca_commit.specs.Branching.{branches_in}
use Rattle.ca_commit.proofs.branching.branches.Given as goal

abbrev pub invariant-loop-port : goal.invariant-loop-port
invariant-loop-port l = record {
  built : map branch_view (list l.copies) ≡ branches_in (take l.port-index l.ports);
  room : length l.ports ≤ spare l.copies + l.port-index;
}
