use Rattle.std.proofs.Common.{◌≡◌, List, [], ◌∷◌, None, true, map, sym, ap, ◌∙◌, subst, rules}
use Rattle.ca_value.specs.Seq.{list}
use Rattle.ca_value.specs.Tree.{bool}
use Rattle.ca_value.specs.View.{view}
use Rattle.ca_term.specs.Event.{BranchView, branch_view, put_of}
use Rattle.ca_term.specs.Program.{program_view}
use Rattle.ca_scene.specs.Scene.{scene_state, task_at, tasks_of, IsScene}
use Rattle.ca_replay.specs.Goings.{TaskGoesOn, SameButTasks}
use Rattle.ca_replay.specs.Moves.{HaveHomes, with_wait}
use Rattle.ca_replay.proofs.Kept.{scene_went, stands_kept, tasks_kept}
use Rattle.ca_replay.specs.SceneOf.{AreTasksOf}
use Rattle.ca_replay.proofs.Moved.{post_stands, post_new, post_homes, post_step}
use Rattle.ca_replay.proofs.posting.post.Goals as goal

pub join_wait-requires-clause-scene : goal.join_wait-requires-clause-scene
join_wait-requires-clause-scene c = c.requires.scene.scene

pub join_wait-requires-clause-new : goal.join_wait-requires-clause-new
join_wait-requires-clause-new c = post_new c.args.scene.now c.args.task c.args.wait c.args.port.n (view c.args.value.now) c.requires.admitted

pub join_wait-requires-clause-homes : goal.join_wait-requires-clause-homes
join_wait-requires-clause-homes c =
    let puts : map branch_view (list c.in_ok-branches.branches) ≡ put_of c.args.port.n (view c.args.value.now) ∷ [] = search rules in
    subst (HaveHomes (scene_state c.args.scene.now).channels) (sym puts) (post_homes c.args.scene.now c.args.task c.args.wait c.args.port.n (view c.args.value.now) c.requires.admitted)

pub go_on-requires-clause-tasks : goal.go_on-requires-clause-tasks
go_on-requires-clause-tasks c =
    let tasks : c.join_wait.new.scene.tasks ≡ c.args.scene.now.tasks = search rules in
    tasks_kept (program_view c.args.program.now) c.args.scene.now c.join_wait.new.scene c.requires.scene tasks

pub go_on-requires-clause-stands : goal.go_on-requires-clause-stands
go_on-requires-clause-stands c =
    let tasks : c.join_wait.new.scene.tasks ≡ c.args.scene.now.tasks = search rules in
    stands_kept c.args.scene.now c.join_wait.new.scene c.args.task tasks (post_stands c.args.scene.now c.args.task c.args.wait c.args.port.n (view c.args.value.now) c.requires.admitted)

pub returns-clause-step : goal.returns-clause-step
returns-clause-step c =
    let puts : map branch_view (list c.in_ok-branches.branches) ≡ put_of c.args.port.n (view c.args.value.now) ∷ [] = search rules in
    let state : scene_state c.join_wait.new.scene ≡ with_wait c.args.wait None (map branch_view (list c.in_ok-branches.branches)) (scene_state c.args.scene.now) = search rules in
    let went : SameButTasks c.join_wait.new.scene c.go_on.new.scene = search rules in
    let goes : TaskGoesOn (program_view c.args.program.now) (tasks_of c.join_wait.new.scene) c.args.task (bool true) (tasks_of c.go_on.new.scene) = search rules in
    post_step c.args.scene.now c.args.task c.args.wait c.args.port.n (view c.args.value.now) c.requires.admitted (program_view c.args.program.now) c.join_wait.new.scene c.go_on.new.scene
    (state ∙ ap (λ (bs : List BranchView). with_wait c.args.wait None bs (scene_state c.args.scene.now)) puts) went goes

pub returns-clause-scene : goal.returns-clause-scene
returns-clause-scene c =
    let scene : IsScene c.join_wait.new.scene = search rules in
    let went : SameButTasks c.join_wait.new.scene c.go_on.new.scene = search rules in
    let tasks : AreTasksOf (program_view c.args.program.now) (task_at c.go_on.new.scene) = search rules in
    scene_went (program_view c.args.program.now) c.join_wait.new.scene c.go_on.new.scene scene went tasks
