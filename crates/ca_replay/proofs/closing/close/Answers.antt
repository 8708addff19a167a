use Rattle.ca_term.specs.Program.{program_view}
use Rattle.ca_scene.specs.Scene.{scene_state}
use Rattle.ca_replay.proofs.Stepped.{close_stands, close_step}
use Rattle.ca_replay.proofs.Went.{tasks_of_scene}
use Rattle.ca_replay.proofs.closing.close.Goals as goal

pub go_on-requires-clause-tasks : goal.go_on-requires-clause-tasks
go_on-requires-clause-tasks c = tasks_of_scene (program_view c.args.program.now) c.args.scene.now c.requires.scene

pub go_on-requires-clause-stands : goal.go_on-requires-clause-stands
go_on-requires-clause-stands c = close_stands c.args.scene.now c.args.task c.args.port c.requires.admitted

pub returns-clause-step : goal.returns-clause-step
returns-clause-step c = close_step (program_view c.args.program.now) c.args.scene.now c.go_on.new.scene c.args.task c.in_ok-go_on.ensures.rest c.args.port (scene_state c.shut.new.scene) c.requires.admitted c.in_ok-go_on.ensures.goes c.shut.ensures.state

pub returns-clause-scene : goal.returns-clause-scene
returns-clause-scene c = c.shut.ensures.scene (program_view c.args.program.now) (c.in_ok-go_on.ensures.scene c.requires.scene)
