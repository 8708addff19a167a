use Rattle.std.proofs.Common.{◌≡◌, drop, map}
use Rattle.ca_value.specs.View.{trees}
use Rattle.ca_meaning.specs.Choice.{branch_of}
use Rattle.ca_meaning.specs.Operands.{values_in}
use Rattle.ca_meaning.specs.Refusal.{crowded}
use Rattle.ca_scene.specs.Scene.{scene_state}
use Rattle.ca_scene.proofs.scene.Scene.crowded_branches.Given as goal

abbrev pub invariant-loop-branch : goal.invariant-loop-branch
invariant-loop-branch l = crowded (scene_state l.self) (map branch_of (values_in (trees (drop l.branch-index l.branches)))) ≡ crowded (scene_state l.self) (map branch_of (values_in (trees l.branches)))
