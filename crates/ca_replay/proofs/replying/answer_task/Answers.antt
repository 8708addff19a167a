use Rattle.std.proofs.Common.{subst, rules}
use Rattle.ca_value.specs.Tree.{Tree}
use Rattle.ca_value.specs.View.{view}
use Rattle.ca_term.specs.Program.{program_view}
use Rattle.ca_meaning.specs.Going.{Goes}
use Rattle.ca_scene.specs.Scene.{task_at, tasks_of}
use Rattle.ca_replay.specs.Goings.{TaskGoesOn, SameButTasks}
use Rattle.ca_replay.specs.SceneOf.{AreTasksOf}
use Rattle.ca_replay.proofs.Kept.{scene_went, tasks_there}
use Rattle.ca_replay.proofs.replying.answer_task.Goals as goal

pub reply-requires : goal.reply-requires
reply-requires c = c.requires.scene.scene

pub go_on-requires-clause-tasks : goal.go_on-requires-clause-tasks
go_on-requires-clause-tasks c = tasks_there (program_view c.args.program.now) c.args.scene.now c.requires.scene

pub go_on-requires-clause-stands : goal.go_on-requires-clause-stands
go_on-requires-clause-stands c = c.requires.stands

pub returns-clause-goes : goal.returns-clause-goes
returns-clause-goes c =
    let goes : TaskGoesOn (program_view c.args.program.now) (tasks_of c.args.scene.now) c.args.task (view c.in_ok-given.given) (tasks_of c.go_on.new.scene) = search rules in
    λ x at. subst (λ (v : Tree). Goes (program_view c.args.program.now) (tasks_of c.args.scene.now) c.args.task x v (tasks_of c.go_on.new.scene)) (c.in_ok-given.ensures x at) (goes x at)

pub returns-clause-scene : goal.returns-clause-scene
returns-clause-scene c =
    let went : SameButTasks c.args.scene.now c.go_on.new.scene = search rules in
    let tasks : AreTasksOf (program_view c.args.program.now) (task_at c.go_on.new.scene) = search rules in
    scene_went (program_view c.args.program.now) c.args.scene.now c.go_on.new.scene c.requires.scene.scene went tasks
