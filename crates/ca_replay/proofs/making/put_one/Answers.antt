use Rattle.std.proofs.Common.{refl}
use Rattle.ca_replay.proofs.Made.{put_registry_state, registries_scene}
use Rattle.ca_replay.proofs.making.put_one.Goals as goal

pub returns-clause-state : goal.returns-clause-state
returns-clause-state c = put_registry_state c.args.scene.now (record c.args.scene.now { registries = c.insert_in.new.table }) refl c.args.port c.args.registry c.in_ok-insert_in.ensures

pub returns-clause-scene : goal.returns-clause-scene
returns-clause-scene c = registries_scene c.args.scene.now (record c.args.scene.now { registries = c.insert_in.new.table }) refl
