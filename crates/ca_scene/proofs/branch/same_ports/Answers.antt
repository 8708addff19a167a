use Rattle.std.proofs.Common.{◌≡◌, ◌≢◌, rules, length}
use Rattle.ca_scene.proofs.Branches.{lengths_differ}
use Rattle.ca_scene.proofs.branch.same_ports.Goals as goal

pub returns-then-branches-ports : goal.returns-then-branches-ports
returns-then-branches-ports c = let h : length c.args.branches.now ≢ length c.args.ports.now = search rules in lengths_differ c.args.branches.now c.args.ports.now h
