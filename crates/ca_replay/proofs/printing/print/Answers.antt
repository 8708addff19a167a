use Rattle.ca_value.specs.Seq.{list}
use Rattle.ca_term.specs.Program.{program_view}
use Rattle.ca_replay.proofs.Stepped.{print_stands, print_step}
use Rattle.ca_replay.proofs.Went.{tasks_of_scene}
use Rattle.ca_replay.proofs.printing.print.Goals as goal

pub go_on-requires-clause-tasks : goal.go_on-requires-clause-tasks
go_on-requires-clause-tasks c = tasks_of_scene (program_view c.args.program.now) c.args.scene.now c.requires.scene

pub go_on-requires-clause-stands : goal.go_on-requires-clause-stands
go_on-requires-clause-stands c = print_stands c.args.scene.now c.args.task (list c.args.line.now) c.requires.admitted

pub returns-clause-step : goal.returns-clause-step
returns-clause-step c = print_step (program_view c.args.program.now) c.args.scene.now c.go_on.new.scene c.args.task c.in_ok-go_on.ensures.rest (list c.args.line.now) c.requires.admitted c.in_ok-go_on.ensures.goes
