use Rattle.ca_replay.specs.World.{world_program, world_state}
use Rattle.ca_replay.proofs.GoingsOn.{possible_where, somewhere}
use Rattle.ca_replay.proofs.world.World.possible.Goals as goal

pub returns : goal.returns
returns c = possible_where (world_program c.args.self.now) (world_state c.args.self.now) c.requires.sound (somewhere c.args.self.now.scene c.requires.scene.scene.shown) c.can_go_on.result c.can_go_on.ensures
