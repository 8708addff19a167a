use Rattle.std.proofs.Common.{◌≡◌, ℕ, refl, rules}
use Rattle.ca_value.specs.View.{view}
use Rattle.ca_term.specs.Program.{program_view}
use Rattle.ca_meaning.specs.Going.{Wakes}
use Rattle.ca_meaning.specs.Wait.{owner_of, told}
use Rattle.ca_scene.specs.Scene.{scene_state, tasks_of}
use Rattle.ca_replay.specs.Changes.{mapped_at}
use Rattle.ca_replay.specs.Moves.{with_tasks, without_wait}
use Rattle.ca_replay.specs.Rooms.{rooms_kept, by_channel, served_by}
use Rattle.ca_replay.proofs.Moved.{settle_live, settle_woken, settle_step}
use Rattle.ca_replay.proofs.Served.{changed_scene}
use Rattle.ca_replay.proofs.settling.settle.Goals as goal

pub complete-requires-clause-scene : goal.complete-requires-clause-scene
complete-requires-clause-scene c =
    let is : (q : ℕ) → rooms_kept c.serve.new.rooms q ≡ mapped_at (rooms_kept c.args.scene.now.rooms) c.args.served.port.n (by_channel (served_by c.args.served.side (view c.args.value.now))) q = search rules in
    changed_scene c.args.scene.now (record c.args.scene.now { rooms = c.serve.new.rooms }) c.args.served.port.n (served_by c.args.served.side (view c.args.value.now)) refl is (program_view c.args.program.now) c.requires.scene

pub complete-requires-clause-live : goal.complete-requires-clause-live
complete-requires-clause-live c =
    settle_live c.args.scene.now c.args.served.wait c.args.served.branch c.args.served.side c.args.served.port.n (view c.args.value.now) c.requires.admitted (record c.args.scene.now { rooms = c.serve.new.rooms }) refl

pub complete-requires-clause-woken : goal.complete-requires-clause-woken
complete-requires-clause-woken c =
    settle_woken c.args.scene.now c.args.served.wait c.args.served.branch c.args.served.side c.args.served.port.n (view c.args.value.now) c.requires.admitted (record c.args.scene.now { rooms = c.serve.new.rooms }) refl

pub returns-clause-step : goal.returns-clause-step
returns-clause-step c =
    let is : (q : ℕ) → rooms_kept c.serve.new.rooms q ≡ mapped_at (rooms_kept c.args.scene.now.rooms) c.args.served.port.n (by_channel (served_by c.args.served.side (view c.args.value.now))) q = search rules in
    let wakes : Wakes (program_view c.args.program.now) (owner_of c.args.served.wait (scene_state (record c.args.scene.now { rooms = c.serve.new.rooms })).waits) (tasks_of (record c.args.scene.now { rooms = c.serve.new.rooms })) c.args.served.wait c.args.served.port.n (told c.args.served.side (view c.args.value.now)) (tasks_of c.complete.new.scene) = search rules in
    let state : scene_state c.complete.new.scene ≡ with_tasks (tasks_of c.complete.new.scene) (without_wait c.args.served.wait (scene_state (record c.args.scene.now { rooms = c.serve.new.rooms }))) = search rules in
    settle_step c.args.scene.now c.args.served.wait c.args.served.branch c.args.served.side c.args.served.port.n (view c.args.value.now) c.requires.admitted (program_view c.args.program.now) (record c.args.scene.now { rooms = c.serve.new.rooms }) c.complete.new.scene refl is wakes state
