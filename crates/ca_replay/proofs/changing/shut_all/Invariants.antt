use Rattle.std.proofs.Common.{◌≡◌, drop, map}
use Rattle.ca_term.specs.Event.{port_number}
use Rattle.ca_term.specs.Program.{ProgramView}
use Rattle.ca_meaning.specs.State.{shut_all}
use Rattle.ca_scene.specs.Scene.{scene_state}
use Rattle.ca_replay.specs.SceneOf.{IsSceneOf}
use Rattle.ca_replay.proofs.changing.shut_all.Given as goal

abbrev pub invariant-loop-port : goal.invariant-loop-port
invariant-loop-port l = record {
  state : record (scene_state l.scene) { channels = shut_all (map port_number (drop l.port-index l.ports)) (scene_state l.scene).channels } ≡ record (scene_state l.initial.scene) { channels = shut_all (map port_number l.ports) (scene_state l.initial.scene).channels };
  scene : (program : ProgramView) → IsSceneOf program l.initial.scene → IsSceneOf program l.scene;
}
