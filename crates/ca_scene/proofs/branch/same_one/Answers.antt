use Rattle.std.proofs.Common.{◌≡◌, ◌≢◌, rules, length}
use Rattle.ca_scene.proofs.Branches.{not_one}
use Rattle.ca_scene.proofs.branch.same_one.Goals as goal

pub returns-then-branches-ne1 : goal.returns-then-branches-ne1
returns-then-branches-ne1 c = λ d e. let h : length c.args.branches.now ≢ 1 = search rules in not_one c.args.branches.now d h
