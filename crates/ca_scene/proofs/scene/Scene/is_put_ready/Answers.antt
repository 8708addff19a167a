use Rattle.std.proofs.Common.{rules}
use Rattle.ca_scene.proofs.Queues.{put_ready_there}
use Rattle.ca_scene.proofs.scene.Scene.is_put_ready.Goals as goal

pub returns-in-Some : goal.returns-in-Some
returns-in-Some c = put_ready_there c.args.self.now c.requires c.args.port c.in-Some.room.now (search rules) c.takes_put.result c.takes_put.ensures
