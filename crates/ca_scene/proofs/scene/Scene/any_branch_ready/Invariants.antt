use Rattle.std.proofs.Common.{◌≡◌, drop, map}
use Rattle.ca_value.specs.View.{trees}
use Rattle.ca_meaning.specs.Choice.{any_ready, branch_of}
use Rattle.ca_meaning.specs.Operands.{values_in}
use Rattle.ca_scene.specs.Scene.{scene_state}
use Rattle.ca_scene.proofs.scene.Scene.any_branch_ready.Given as goal

abbrev pub invariant-loop-branch : goal.invariant-loop-branch
invariant-loop-branch l = any_ready (scene_state l.self) (map branch_of (values_in (trees (drop l.branch-index l.branches)))) ≡ any_ready (scene_state l.self) (map branch_of (values_in (trees l.branches)))
