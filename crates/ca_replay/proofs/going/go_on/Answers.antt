use Rattle.std.proofs.Common.{refl, nat_eq}
use Rattle.indexmap.specs.IndexMap.{get}
use Rattle.ca_value.specs.View.{view}
use Rattle.ca_term.specs.Program.{program_view}
use Rattle.ca_scene.specs.Scene.{task_at}
use Rattle.ca_replay.proofs.Went.{scene_kept, went_goes, went_tasks}
use Rattle.ca_replay.proofs.going.go_on.Goals as goal

pub returns-clause-goes : goal.returns-clause-goes
returns-clause-goes c = went_goes (program_view c.args.program.now) (task_at c.args.scene.now) (λ t. get nat_eq c.go_on_in.new.tasks t) c.args.task (view c.args.value) c.in_ok-go_on_in.ensures.others c.in_ok-go_on_in.ensures.went

pub returns-clause-rest : goal.returns-clause-rest
returns-clause-rest c = refl

pub returns-clause-tasks : goal.returns-clause-tasks
returns-clause-tasks c = went_tasks (program_view c.args.program.now) (task_at c.args.scene.now) (λ t. get nat_eq c.go_on_in.new.tasks t) c.args.task (view c.args.value) c.in_ok-go_on_in.ensures.others c.in_ok-go_on_in.ensures.went c.requires.tasks

pub returns-clause-scene : goal.returns-clause-scene
returns-clause-scene c =
    let P = program_view c.args.program.now in
    let tasks = went_tasks P (task_at c.args.scene.now) (λ t. get nat_eq c.go_on_in.new.tasks t) c.args.task (view c.args.value) c.in_ok-go_on_in.ensures.others c.in_ok-go_on_in.ensures.went c.requires.tasks in
    scene_kept P c.args.scene.now (record c.args.scene.now { tasks = c.go_on_in.new.tasks }) refl tasks
