use Rattle.std.proofs.Common.{refl}
use Rattle.ca_replay.proofs.Changed.{finished_scene, finished_state}
use Rattle.ca_replay.proofs.changing.finish.Goals as goal

pub returns-clause-state : goal.returns-clause-state
returns-clause-state c = finished_state c.args.scene.now (record c.args.scene.now { tasks = c.finish_in.new.tasks }) c.args.task refl c.finish_in.ensures

pub returns-clause-scene : goal.returns-clause-scene
returns-clause-scene c = finished_scene c.args.scene.now (record c.args.scene.now { tasks = c.finish_in.new.tasks }) c.args.task refl c.finish_in.ensures
