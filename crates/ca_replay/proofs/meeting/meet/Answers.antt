use Rattle.std.proofs.Common.{◌≡◌, subst, rules}
use Rattle.ca_value.specs.Tree.{Tree}
use Rattle.ca_value.specs.View.{view}
use Rattle.ca_term.specs.declared.event.Side.{Side}
use Rattle.ca_term.specs.Program.{program_view}
use Rattle.ca_meaning.specs.Going.{Wakes}
use Rattle.ca_meaning.specs.Wait.{owner_of, told}
use Rattle.ca_scene.specs.Scene.{scene_state, tasks_of}
use Rattle.ca_replay.specs.Goings.{SameButTasks}
use Rattle.ca_replay.specs.Moves.{with_tasks, without_wait}
use Rattle.ca_replay.specs.Replies.{GoesReplied}
use Rattle.ca_replay.proofs.Moved.{meet_stands, meet_live, meet_woken, meet_step}
use Rattle.ca_replay.proofs.meeting.meet.Goals as goal

pub answer_task-requires-clause-stands : goal.answer_task-requires-clause-stands
answer_task-requires-clause-stands c = meet_stands c.args.scene.now c.args.task c.args.meeting.branch c.args.meeting.side c.args.meeting.port.n (view c.args.value.now) c.args.meeting.wait c.args.meeting.other c.requires.admitted

pub complete-requires-clause-live : goal.complete-requires-clause-live
complete-requires-clause-live c =
    let went : SameButTasks c.args.scene.now c.answer_task.new.scene = search rules in
    meet_live c.args.scene.now c.args.task c.args.meeting.branch c.args.meeting.side c.args.meeting.port.n (view c.args.value.now) c.args.meeting.wait c.args.meeting.other c.requires.admitted c.answer_task.new.scene went

pub complete-requires-clause-woken : goal.complete-requires-clause-woken
complete-requires-clause-woken c =
    let went : SameButTasks c.args.scene.now c.answer_task.new.scene = search rules in
    let goes : GoesReplied (program_view c.args.program.now) (tasks_of c.args.scene.now) c.args.task c.args.meeting.port.n (view c.in_ok-answer.answer) (tasks_of c.answer_task.new.scene) = search rules in
    meet_woken c.args.scene.now c.args.task c.args.meeting.branch c.args.meeting.side c.args.meeting.port.n (view c.args.value.now) c.args.meeting.wait c.args.meeting.other c.requires.admitted
    (program_view c.args.program.now) c.answer_task.new.scene (view c.in_ok-answer.answer) went goes

pub returns-clause-step : goal.returns-clause-step
returns-clause-step c =
    let went : SameButTasks c.args.scene.now c.answer_task.new.scene = search rules in
    let said : view c.in_ok-answer.answer ≡ told c.args.meeting.side (view c.args.value.now) = search rules in
    let goes : GoesReplied (program_view c.args.program.now) (tasks_of c.args.scene.now) c.args.task c.args.meeting.port.n (view c.in_ok-answer.answer) (tasks_of c.answer_task.new.scene) = search rules in
    let wakes : Wakes (program_view c.args.program.now) (owner_of c.args.meeting.wait (scene_state c.answer_task.new.scene).waits) (tasks_of c.answer_task.new.scene) c.args.meeting.wait c.args.meeting.port.n (told c.other_side-other.result (view c.args.value.now)) (tasks_of c.complete.new.scene) = search rules in
    let state : scene_state c.complete.new.scene ≡ with_tasks (tasks_of c.complete.new.scene) (without_wait c.args.meeting.wait (scene_state c.answer_task.new.scene)) = search rules in
    meet_step c.args.scene.now c.args.task c.args.meeting.branch c.args.meeting.side c.args.meeting.port.n (view c.args.value.now) c.args.meeting.wait c.args.meeting.other c.requires.admitted
    (program_view c.args.program.now) c.answer_task.new.scene c.complete.new.scene went
    (subst (λ (a : Tree). GoesReplied (program_view c.args.program.now) (tasks_of c.args.scene.now) c.args.task c.args.meeting.port.n a (tasks_of c.answer_task.new.scene)) said goes)
    (subst (λ (x : Side). Wakes (program_view c.args.program.now) (owner_of c.args.meeting.wait (scene_state c.answer_task.new.scene).waits) (tasks_of c.answer_task.new.scene) c.args.meeting.wait c.args.meeting.port.n (told x (view c.args.value.now)) (tasks_of c.complete.new.scene)) c.other_side-other.ensures wakes)
    state
