use Rattle.ca_term.specs.Program.{program_view}
use Rattle.ca_replay.proofs.Openings.{opened_scene, opened_opens}
use Rattle.ca_replay.proofs.opening.opened.Goals as goal

pub returns-clause-scene : goal.returns-clause-scene
returns-clause-scene c = opened_scene (program_view c.args.program.now) c.in_ok-task.task c.in_ok-task.ensures.rested c.with_task.result c.with_task.ensures.scene c.with_task.ensures.task

pub returns-clause-opens : goal.returns-clause-opens
returns-clause-opens c =
    opened_opens (program_view c.args.program.now) c.in_ok-task.task c.in_ok-task.ensures.rested c.in_ok-task.ensures.result c.with_task.result c.with_task.ensures.task
    c.with_task.ensures.rooms c.with_task.ensures.registries c.with_task.ensures.waits c.with_task.ensures.deadlines c.with_task.ensures.moment
