use Rattle.std.proofs.Common.{◌≡◌, Some, rules}
use Rattle.ca_term.specs.Operation.{op_view}
use Rattle.ca_scene.specs.Admits.{asked_by}
use Rattle.ca_scene.specs.Scene.{scene_state, tasks_of}
use Rattle.ca_scene.proofs.Brought.{asked_apart}
use Rattle.ca_scene.proofs.scene.Scene.asks.Goals as goal

pub refusal-requires-clause-apart : goal.refusal-requires-clause-apart
refusal-requires-clause-apart c =
    let asked : asked_by (tasks_of c.args.self.now c.args.task) ≡ Some (op_view c.in_ok-op.op.now) = search rules in
    asked_apart (scene_state c.args.self.now) c.args.task c.requires.values (op_view c.in_ok-op.op.now) asked
