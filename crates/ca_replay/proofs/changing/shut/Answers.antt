use Rattle.std.proofs.Common.{refl}
use Rattle.ca_replay.proofs.Changed.{shut_scene, shut_state}
use Rattle.ca_replay.proofs.changing.shut.Goals as goal

pub returns-clause-state : goal.returns-clause-state
returns-clause-state c = shut_state c.args.scene.now (record c.args.scene.now { rooms = c.shut_in.new.rooms }) c.args.port refl c.shut_in.ensures

pub returns-clause-scene : goal.returns-clause-scene
returns-clause-scene c = shut_scene c.args.scene.now (record c.args.scene.now { rooms = c.shut_in.new.rooms }) c.args.port refl c.shut_in.ensures
