use Rattle.std.proofs.Common.{◌≡◌, ℕ, refl, subst, rules}
use Rattle.ca_value.specs.Tree.{Tree}
use Rattle.ca_value.specs.View.{view}
use Rattle.ca_term.specs.Event.{branch_view}
use Rattle.ca_term.specs.Program.{program_view}
use Rattle.ca_meaning.specs.Wait.{port_of}
use Rattle.ca_scene.specs.Scene.{tasks_of}
use Rattle.ca_replay.specs.Changes.{mapped_at}
use Rattle.ca_replay.specs.Goings.{SameButTasks}
use Rattle.ca_replay.specs.Replies.{GoesReplied}
use Rattle.ca_replay.specs.Rooms.{rooms_kept, by_channel, done_by}
use Rattle.ca_replay.proofs.Moved.{done_stands, done_step}
use Rattle.ca_replay.proofs.Served.{changed_scene}
use Rattle.ca_replay.proofs.doing.done.Goals as goal

pub answer_task-requires-clause-scene : goal.answer_task-requires-clause-scene
answer_task-requires-clause-scene c =
    let is : (q : ℕ) → rooms_kept c.do_branch.new.rooms q ≡ mapped_at (rooms_kept c.args.scene.now.rooms) (port_of (branch_view c.args.branch.now)) (by_channel (done_by (branch_view c.args.branch.now))) q = search rules in
    changed_scene c.args.scene.now (record c.args.scene.now { rooms = c.do_branch.new.rooms }) (port_of (branch_view c.args.branch.now)) (done_by (branch_view c.args.branch.now)) refl is (program_view c.args.program.now) c.requires.scene

pub answer_task-requires-clause-stands : goal.answer_task-requires-clause-stands
answer_task-requires-clause-stands c = done_stands c.args.scene.now c.args.task c.args.place (branch_view c.args.branch.now) (view c.args.answer.now) c.requires.admitted

pub returns-clause-step : goal.returns-clause-step
returns-clause-step c =
    let is : (q : ℕ) → rooms_kept c.do_branch.new.rooms q ≡ mapped_at (rooms_kept c.args.scene.now.rooms) (port_of (branch_view c.args.branch.now)) (by_channel (done_by (branch_view c.args.branch.now))) q = search rules in
    let went : SameButTasks (record c.args.scene.now { rooms = c.do_branch.new.rooms }) c.answer_task.new.scene = search rules in
    let goes : GoesReplied (program_view c.args.program.now) (tasks_of (record c.args.scene.now { rooms = c.do_branch.new.rooms })) c.args.task c.port_of.result.n (view c.in_ok-copy.copy) (tasks_of c.answer_task.new.scene) = search rules in
    let copied : view c.in_ok-copy.copy ≡ view c.args.answer.now = search rules in
    done_step c.args.scene.now c.args.task c.args.place (branch_view c.args.branch.now) (view c.args.answer.now) c.requires.admitted (program_view c.args.program.now) (record c.args.scene.now { rooms = c.do_branch.new.rooms }) c.answer_task.new.scene refl is went
    (subst (λ (p : ℕ). GoesReplied (program_view c.args.program.now) (tasks_of (record c.args.scene.now { rooms = c.do_branch.new.rooms })) c.args.task p (view c.args.answer.now) (tasks_of c.answer_task.new.scene)) c.port_of.ensures
    (subst (λ (a : Tree). GoesReplied (program_view c.args.program.now) (tasks_of (record c.args.scene.now { rooms = c.do_branch.new.rooms })) c.args.task c.port_of.result.n a (tasks_of c.answer_task.new.scene)) copied goes))
