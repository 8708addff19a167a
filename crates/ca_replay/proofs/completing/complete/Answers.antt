use Rattle.std.proofs.Common.{◌≡◌, Some, None, subst, rules}
use Rattle.ca_value.specs.Tree.{Tree}
use Rattle.ca_value.specs.View.{view}
use Rattle.ca_term.specs.Program.{program_view}
use Rattle.ca_meaning.specs.Wait.{owner_of, told}
use Rattle.ca_scene.specs.Scene.{scene_state, tasks_of, IsScene}
use Rattle.ca_replay.specs.Goings.{SameButTasks}
use Rattle.ca_replay.specs.Moves.{without_wait}
use Rattle.ca_replay.specs.Replies.{GoesReplied}
use Rattle.ca_replay.proofs.Completed.{woken_stands, woken_there, gone_alone, unwoken, gone_with}
use Rattle.ca_replay.proofs.Kept.{scene_kept, stands_kept}
use Rattle.ca_replay.proofs.completing.complete.Goals as goal

pub take_out-requires-clause-scene : goal.take_out-requires-clause-scene
take_out-requires-clause-scene c = c.requires.scene.scene

pub returns-in-None-clause-wakes : goal.returns-in-None-clause-wakes
returns-in-None-clause-wakes c =
    let tasks : c.take_out.new.scene.tasks ≡ c.args.scene.now.tasks = search rules in
    let owner : None ≡ owner_of c.args.wait (scene_state c.args.scene.now).waits = search rules in
    unwoken c.args.scene.now c.take_out.new.scene tasks c.args.wait c.args.port.n (told c.args.side (view c.args.value.now)) (program_view c.args.program.now) (owner_of c.args.wait (scene_state c.args.scene.now).waits) owner

pub returns-in-None-clause-state : goal.returns-in-None-clause-state
returns-in-None-clause-state c =
    let tasks : c.take_out.new.scene.tasks ≡ c.args.scene.now.tasks = search rules in
    let state : scene_state c.take_out.new.scene ≡ without_wait c.args.wait (scene_state c.args.scene.now) = search rules in
    gone_alone c.args.scene.now c.take_out.new.scene tasks c.args.wait state

pub returns-in-None-clause-scene : goal.returns-in-None-clause-scene
returns-in-None-clause-scene c =
    let tasks : c.take_out.new.scene.tasks ≡ c.args.scene.now.tasks = search rules in
    let scene : IsScene c.take_out.new.scene = search rules in
    scene_kept (program_view c.args.program.now) c.args.scene.now c.take_out.new.scene c.requires.scene tasks scene

pub answer_task-requires-clause-scene : goal.answer_task-requires-clause-scene
answer_task-requires-clause-scene c =
    let tasks : c.take_out.new.scene.tasks ≡ c.args.scene.now.tasks = search rules in
    let scene : IsScene c.take_out.new.scene = search rules in
    scene_kept (program_view c.args.program.now) c.args.scene.now c.take_out.new.scene c.requires.scene tasks scene

pub answer_task-requires-clause-stands : goal.answer_task-requires-clause-stands
answer_task-requires-clause-stands c =
    let tasks : c.take_out.new.scene.tasks ≡ c.args.scene.now.tasks = search rules in
    let owner : Some c.in-Some.owner ≡ owner_of c.args.wait (scene_state c.args.scene.now).waits = search rules in
    stands_kept c.args.scene.now c.take_out.new.scene c.in-Some.owner tasks
    (woken_stands c.args.scene.now c.in-Some.owner c.args.wait (owner_of c.args.wait (scene_state c.args.scene.now).waits) c.requires.scene.fills owner c.requires.woken)

pub returns-in_ok-answer_task-in-Some-clause-wakes : goal.returns-in_ok-answer_task-in-Some-clause-wakes
returns-in_ok-answer_task-in-Some-clause-wakes c =
    let tasks : c.take_out.new.scene.tasks ≡ c.args.scene.now.tasks = search rules in
    let owner : Some c.in-Some.owner ≡ owner_of c.args.wait (scene_state c.args.scene.now).waits = search rules in
    let said : view c.in_ok-answer-in-Some.answer ≡ told c.args.side (view c.args.value.now) = search rules in
    let goes : GoesReplied (program_view c.args.program.now) (tasks_of c.take_out.new.scene) c.in-Some.owner c.args.port.n (view c.in_ok-answer-in-Some.answer) (tasks_of c.answer_task.new.scene) = search rules in
    woken_there c.args.scene.now c.take_out.new.scene tasks c.in-Some.owner c.args.wait c.args.port.n (told c.args.side (view c.args.value.now)) (program_view c.args.program.now) (tasks_of c.answer_task.new.scene)
    (owner_of c.args.wait (scene_state c.args.scene.now).waits) owner c.requires.woken
    (subst (λ (a : Tree). GoesReplied (program_view c.args.program.now) (tasks_of c.take_out.new.scene) c.in-Some.owner c.args.port.n a (tasks_of c.answer_task.new.scene)) said goes)

pub returns-in_ok-answer_task-in-Some-clause-state : goal.returns-in_ok-answer_task-in-Some-clause-state
returns-in_ok-answer_task-in-Some-clause-state c =
    let state : scene_state c.take_out.new.scene ≡ without_wait c.args.wait (scene_state c.args.scene.now) = search rules in
    let went : SameButTasks c.take_out.new.scene c.answer_task.new.scene = search rules in
    gone_with c.args.scene.now c.take_out.new.scene c.answer_task.new.scene c.args.wait state went
