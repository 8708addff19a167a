use Rattle.ca_term.specs.Program.{program_view}
use Rattle.ca_meaning.proofs.Soundness.{opening_sound}
use Rattle.ca_scene.specs.Scene.{scene_state}
use Rattle.ca_replay.proofs.WorldSteps.{opening_values}
use Rattle.ca_replay.proofs.world.World.opening.Goals as goal

pub returns-clause-world : goal.returns-clause-world
returns-clause-world c = record {
  checked = c.checked.ensures;
  scene = c.in_ok-scene.ensures.scene;
  values = opening_values (program_view c.args.program.now) (scene_state c.in_ok-scene.scene) c.checked.ensures c.in_ok-scene.ensures.opens;
  sound = opening_sound (program_view c.args.program.now) (scene_state c.in_ok-scene.scene) c.in_ok-scene.ensures.opens;
}
