use Rattle.std.proofs.Common.{◌≡◌, Some, true, rules}
use Rattle.ca_value.specs.Seq.{list}
use Rattle.ca_value.specs.View.{view, trees}
use Rattle.ca_term.specs.Operation.{registering}
use Rattle.ca_scene.specs.Admits.{asks}
use Rattle.ca_scene.specs.Same.{same_items, same_name}
use Rattle.ca_scene.specs.Scene.{scene_state}
use Rattle.ca_scene.proofs.Brought.{registered_so, wanted_apart}
use Rattle.ca_scene.proofs.scene.Scene.admits_register.Goals as goal

pub registry_gives-requires : goal.registry_gives-requires
registry_gives-requires c =
    let asked : asks (scene_state c.args.self.now) c.args.task ≡ Some (registering c.in-Some-Register.asked (trees c.as_slice.result.now)) = search rules in
    record { apart = wanted_apart (scene_state c.args.self.now) c.args.task c.requires.values (registering c.in-Some-Register.asked (trees c.as_slice.result.now)) asked }

pub returns-then-same : goal.returns-then-same
returns-then-same c =
    let asked : asks (scene_state c.args.self.now) c.args.task ≡ Some (registering c.in-Some-Register.asked (trees c.as_slice.result.now)) = search rules in
    let name : same_name c.args.name c.in-Some-Register.asked ≡ true = search rules in
    let args : same_items (trees (list c.args.args.now)) (trees c.as_slice.result.now) ≡ true = search rules in
    registered_so (scene_state c.args.self.now) c.args.task c.args.name c.in-Some-Register.asked (trees (list c.args.args.now)) (trees c.as_slice.result.now) (view c.args.answer.now) c.registry_gives.result asked name args c.registry_gives.ensures
