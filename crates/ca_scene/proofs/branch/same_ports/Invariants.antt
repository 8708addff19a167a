use Rattle.std.proofs.Common.{◌≡◌, drop, map}
use Rattle.ca_value.specs.View.{trees}
use Rattle.ca_term.specs.Event.{branch_view}
use Rattle.ca_meaning.specs.Choice.{branch_of}
use Rattle.ca_meaning.specs.Operands.{values_in}
use Rattle.ca_scene.specs.Same.{same_branches}
use Rattle.ca_scene.proofs.branch.same_ports.Given as goal

abbrev pub invariant-loop-i : goal.invariant-loop-i
invariant-loop-i l = same_branches (map branch_view (drop l.i l.branches)) (map branch_of (values_in (trees (drop l.i l.ports)))) ≡ same_branches (map branch_view l.branches) (map branch_of (values_in (trees l.ports)))
