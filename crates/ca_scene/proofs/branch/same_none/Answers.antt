use Rattle.std.proofs.Common.{rules}
use Rattle.ca_scene.proofs.Branches.{none_same, some_same}
use Rattle.ca_scene.proofs.branch.same_none.Goals as goal

pub returns-in-None : goal.returns-in-None
returns-in-None c = none_same c.args.branches.now (search rules)

pub returns-in-Some : goal.returns-in-Some
returns-in-Some c = some_same c.args.branches.now (search rules)
