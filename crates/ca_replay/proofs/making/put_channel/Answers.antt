use Rattle.std.proofs.Common.{OnOk, Option, option_map, sym, subst}
use Rattle.ca_scene.specs.declared.room.Room.{Room}
use Rattle.ca_scene.specs.Scene.{room_channel, scene_state}
use Rattle.ca_replay.specs.Changes.{PutsChannel}
use Rattle.ca_replay.proofs.Made.{no_channel_put}
use Rattle.ca_replay.proofs.making.put_channel.Goals as goal

pub returns-in-Some-clause-state : goal.returns-in-Some-clause-state
returns-in-Some-clause-state c = subst (λ (o : Option Room). OnOk c.put_room.result (PutsChannel (scene_state c.args.scene.now) c.args.port (option_map room_channel o) (scene_state c.put_room.new.scene))) (sym c.in-Some.is) c.put_room.ensures.state

pub returns-in-None-clause-state : goal.returns-in-None-clause-state
returns-in-None-clause-state c = subst (λ (o : Option Room). PutsChannel (scene_state c.args.scene.now) c.args.port (option_map room_channel o) (scene_state c.args.scene.now)) (sym c.in-None.is) (no_channel_put (scene_state c.args.scene.now) c.args.port c.requires.new)
