use Rattle.std.proofs.Common.{subst}
use Rattle.ca_value.specs.View.{view}
use Rattle.ca_term.specs.Program.{program_view}
use Rattle.ca_scene.specs.Scene.{tasks_of}
use Rattle.ca_replay.specs.Goings.{TaskGoesOn}
use Rattle.ca_replay.proofs.Stepped.{default_stands, default_step}
use Rattle.ca_replay.proofs.Went.{tasks_of_scene}
use Rattle.ca_replay.proofs.defaulting.take_default.Goals as goal

pub go_on-requires-clause-tasks : goal.go_on-requires-clause-tasks
go_on-requires-clause-tasks c = tasks_of_scene (program_view c.args.program.now) c.args.scene.now c.requires.scene

pub go_on-requires-clause-stands : goal.go_on-requires-clause-stands
go_on-requires-clause-stands c = default_stands c.args.scene.now c.args.task (view c.args.value.now) c.requires.admitted

pub returns-clause-step : goal.returns-clause-step
returns-clause-step c =
    let P = program_view c.args.program.now in
    let goes = subst (λ v. TaskGoesOn P (tasks_of c.args.scene.now) c.args.task v (tasks_of c.go_on.new.scene)) c.in_ok-answer.ensures c.in_ok-go_on.ensures.goes in
    default_step P c.args.scene.now c.go_on.new.scene c.args.task c.in_ok-go_on.ensures.rest (view c.args.value.now) c.requires.admitted goes
