use Rattle.std.proofs.Common.{◌≡◌, drop, map}
use Rattle.ca_term.specs.Event.{branch_view}
use Rattle.ca_scene.specs.Same.{same_branches}
use Rattle.ca_scene.proofs.same_event.same_branches.Given as goal

abbrev pub invariant-loop-i : goal.invariant-loop-i
invariant-loop-i l = same_branches (map branch_view (drop l.i l.a)) (map branch_view (drop l.i l.b)) ≡ same_branches (map branch_view l.a) (map branch_view l.b)
