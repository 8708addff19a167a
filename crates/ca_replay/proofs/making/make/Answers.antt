use Rattle.std.proofs.Common.{option_map}
use Rattle.ca_term.specs.Operation.{what_view}
use Rattle.ca_term.specs.Program.{program_view}
use Rattle.ca_registry.specs.Registry.{registry_view}
use Rattle.ca_scene.specs.Scene.{room_channel, scene_state}
use Rattle.ca_replay.proofs.Made.{make_stands, make_step, moment_there, no_channel_there, no_registry_there}
use Rattle.ca_replay.proofs.Went.{tasks_of_scene}
use Rattle.ca_replay.proofs.making.make.Goals as goal

pub go_on-requires-clause-tasks : goal.go_on-requires-clause-tasks
go_on-requires-clause-tasks c = tasks_of_scene (program_view c.args.program.now) c.args.scene.now c.requires.scene

pub go_on-requires-clause-stands : goal.go_on-requires-clause-stands
go_on-requires-clause-stands c = make_stands c.args.scene.now c.args.task c.args.port.n (what_view c.args.what.now) c.args.moment c.requires.admitted

pub put_channel-requires-clause-new : goal.put_channel-requires-clause-new
put_channel-requires-clause-new c = no_channel_there c.args.scene.now c.go_on.new.scene c.args.task c.in_ok-go_on.ensures.rest c.args.port.n (what_view c.args.what.now) c.args.moment c.requires.admitted

pub put_registry-requires : goal.put_registry-requires
put_registry-requires c = record {
  new =
      no_registry_there c.args.scene.now c.go_on.new.scene c.args.task c.in_ok-go_on.ensures.rest c.args.port.n (what_view c.args.what.now) c.args.moment c.requires.admitted
      (option_map room_channel c.room_for.result) (scene_state c.put_channel.new.scene) c.in_ok-put_channel.ensures.state;
}

pub time-requires : goal.time-requires
time-requires c =
    moment_there c.args.scene.now c.go_on.new.scene c.args.task c.in_ok-go_on.ensures.rest c.args.port.n (what_view c.args.what.now) c.args.moment c.requires.admitted
    (option_map room_channel c.room_for.result) (scene_state c.put_channel.new.scene) c.in_ok-put_channel.ensures.state
    (option_map registry_view c.registry_for.result) (scene_state c.put_registry.new.scene) c.in_ok-put_registry.ensures.state

pub returns-clause-step : goal.returns-clause-step
returns-clause-step c =
    make_step c.args.scene.now c.go_on.new.scene c.args.task c.in_ok-go_on.ensures.rest c.args.port.n (what_view c.args.what.now) c.args.moment c.requires.admitted
    (option_map room_channel c.room_for.result) (scene_state c.put_channel.new.scene) c.in_ok-put_channel.ensures.state
    (option_map registry_view c.registry_for.result) (scene_state c.put_registry.new.scene) c.in_ok-put_registry.ensures.state
    (program_view c.args.program.now) (scene_state c.time.new.scene) c.room_for.ensures.channel c.registry_for.ensures c.in_ok-time.ensures.state c.in_ok-go_on.ensures.goes

pub returns-clause-scene : goal.returns-clause-scene
returns-clause-scene c =
    let P = program_view c.args.program.now in
    c.in_ok-time.ensures.scene P (c.in_ok-put_registry.ensures.scene P (c.in_ok-put_channel.ensures.scene P (c.in_ok-go_on.ensures.scene c.requires.scene)))
