use Rattle.std.proofs.Common.{◌≡◌, drop}
use Rattle.ca_scene.specs.Scene.{waits_in}
use Rattle.ca_replay.proofs.world.World.wait_at.Given as goal

abbrev pub invariant-loop-passed : goal.invariant-loop-passed
invariant-loop-passed l = drop l._passed (waits_in l.self.scene.waits.entries) ≡ waits_in (drop l.behind l.self.scene.waits.entries)
