use Rattle.std.proofs.Common.{ap, ◌∙◌, rules}
use Rattle.ca_value.specs.View.{view}
use Rattle.ca_meaning.specs.Choice.{row}
use Rattle.ca_scene.specs.Admits.{completes_with}
use Rattle.ca_scene.specs.Look.{look_view}
use Rattle.ca_scene.specs.Scene.{scene_state}
use Rattle.ca_scene.proofs.Queues.{take_there, put_there}
use Rattle.ca_scene.proofs.scene.Scene.completes.Goals as goal

pub returns-in-Some : goal.returns-in-Some
returns-in-Some c =
    ap (completes_with (view c.args.answer.now)) (ap (λ l. row (scene_state c.args.self.now) (look_view l)) c.in-Take.is ∙ take_there c.args.self.now c.requires c.in-Take.port c.in-Some.room.now (search rules))
    ∙ c.completes_take.ensures

pub returns-in-Some-get : goal.returns-in-Some-get
returns-in-Some-get c =
    ap (completes_with (view c.args.answer.now)) (ap (λ l. row (scene_state c.args.self.now) (look_view l)) c.in-Put.is ∙ put_there c.args.self.now c.requires c.in-Put.port c.in-Some-get.room.now _ (search rules))
    ∙ c.completes_put.ensures _
