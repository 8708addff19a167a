use Rattle.std.proofs.Common.{refl}
use Rattle.ca_replay.proofs.Made.{put_room_scene, put_room_state}
use Rattle.ca_replay.proofs.making.put_room.Goals as goal

pub returns-clause-state : goal.returns-clause-state
returns-clause-state c = put_room_state c.args.scene.now (record c.args.scene.now { rooms = c.insert_in.new.table }) c.args.port c.args.room refl c.in_ok-insert_in.ensures

pub returns-clause-scene : goal.returns-clause-scene
returns-clause-scene c = put_room_scene c.args.scene.now (record c.args.scene.now { rooms = c.insert_in.new.table }) c.args.port c.args.room refl c.in_ok-insert_in.ensures c.requires.new c.requires.empty
