use Rattle.std.proofs.Common.{◌≡◌, List, Some, map, refl, sym, ap, ◌∙◌, subst, rules}
use Rattle.ca_value.specs.Seq.{list}
use Rattle.ca_term.specs.Event.{BranchView, branch_view}
use Rattle.ca_scene.specs.Scene.{scene_state, IsScene}
use Rattle.ca_replay.specs.Moves.{HaveHomes, with_wait}
use Rattle.ca_replay.proofs.Parkings.{park_new, park_homes, park_step, park_scene}
use Rattle.ca_replay.proofs.parking.park.Goals as goal

pub join_wait-requires-clause-new : goal.join_wait-requires-clause-new
join_wait-requires-clause-new c = park_new c.args.scene.now c.args.scene.now c.args.scene.now c.args.task c.args.wait (map branch_view c.args.branches.now) c.requires.admitted

pub join_wait-requires-clause-homes : goal.join_wait-requires-clause-homes
join_wait-requires-clause-homes c =
    let copies : map branch_view (list c.in_ok-branches.branches) ≡ map branch_view c.args.branches.now = search rules in
    subst (HaveHomes (scene_state c.args.scene.now).channels) (sym copies) (park_homes c.args.scene.now c.args.scene.now c.args.scene.now c.args.task c.args.wait (map branch_view c.args.branches.now) c.requires.admitted)

pub returns-clause-step : goal.returns-clause-step
returns-clause-step c = λ program.
    let copies : map branch_view (list c.in_ok-branches.branches) ≡ map branch_view c.args.branches.now = search rules in
    let tasks : c.join_wait.new.scene.tasks ≡ c.args.scene.now.tasks = search rules in
    let state : scene_state c.join_wait.new.scene ≡ with_wait c.args.wait (Some c.args.task) (map branch_view (list c.in_ok-branches.branches)) (scene_state c.args.scene.now) = search rules in
    park_step c.args.scene.now c.join_wait.new.scene (record c.join_wait.new.scene { tasks = c.wait_on.new.tasks }) c.args.task c.args.wait (map branch_view c.args.branches.now) c.requires.admitted tasks refl c.wait_on.ensures program
    (state ∙ ap (λ (bs : List BranchView). with_wait c.args.wait (Some c.args.task) bs (scene_state c.args.scene.now)) copies)

pub returns-clause-scene : goal.returns-clause-scene
returns-clause-scene c = λ program known.
    let tasks : c.join_wait.new.scene.tasks ≡ c.args.scene.now.tasks = search rules in
    let scene : IsScene c.join_wait.new.scene = search rules in
    park_scene c.args.scene.now c.join_wait.new.scene (record c.join_wait.new.scene { tasks = c.wait_on.new.tasks }) c.args.task c.args.wait (map branch_view c.args.branches.now) c.requires.admitted tasks refl c.wait_on.ensures program scene known
