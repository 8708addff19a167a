use Rattle.std.proofs.Common.{◌≡◌, drop}
use Rattle.ca_scene.specs.Scene.{waits_in}
use Rattle.ca_replay.proofs.world.World.next_wait.Given as goal

abbrev pub invariant-loop-place : goal.invariant-loop-place
invariant-loop-place l = waits_in (drop l.from l.self.scene.waits.entries) ≡ waits_in (drop l.place l.self.scene.waits.entries)
