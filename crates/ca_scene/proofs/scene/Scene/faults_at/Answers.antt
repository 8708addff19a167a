use Rattle.std.proofs.Common.{◌≡◌, Some, option_map, rules}
use Rattle.ca_term.specs.Operation.{want_view}
use Rattle.ca_scene.specs.Admits.{standing_of}
use Rattle.ca_scene.specs.Scene.{scene_state, tasks_of}
use Rattle.ca_scene.specs.Standing.{shown_at, shown_op}
use Rattle.ca_scene.proofs.Brought.{shown_apart}
use Rattle.ca_scene.proofs.scene.Scene.faults_at.Goals as goal

pub refusal-requires-clause-apart : goal.refusal-requires-clause-apart
refusal-requires-clause-apart c =
    let told : Some (shown_op (want_view c.in-Some-AtOp.want)) ≡ option_map shown_at (standing_of (tasks_of c.args.self.now c.args.task)) = search rules in
    shown_apart (scene_state c.args.self.now) c.args.task c.requires.values (want_view c.in-Some-AtOp.want) told
