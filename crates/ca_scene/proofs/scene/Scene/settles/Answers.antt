use Rattle.std.proofs.Common.{ap, ◌∙◌, rules}
use Rattle.ca_value.specs.View.{view}
use Rattle.ca_scene.specs.Admits.{settles_so}
use Rattle.ca_scene.proofs.Branches.{settling_there}
use Rattle.ca_scene.proofs.scene.Scene.settles.Goals as goal

pub returns-in-Some : goal.returns-in-Some
returns-in-Some c = ap (settles_so c.args.wait c.args.branch c.args.side (view c.args.value.now)) (settling_there c.args.self.now c.requires c.args.port c.in-Some.room.now (search rules)) ∙ c.settles.ensures
