use Rattle.std.proofs.Common.{ap, sym, ◌∙◌, Some}
use Rattle.ca_value.specs.View.{view}
use Rattle.ca_meaning.specs.Choice.{branch_of}
use Rattle.ca_scene.proofs.Branches.{branch_there, branch_past}
use Rattle.ca_scene.proofs.branch.look_at.Goals as goal

pub returns-in-Some : goal.returns-in-Some
returns-in-Some c = ap (λ x. Some x) (c.seen.ensures ∙ ap (λ v. branch_of (view v)) (c.in-Some.ensures.lookup.3.1 c.in-Some.branch.now)) ∙ branch_there c.args.ports.now c.args.place c.in-Some.branch.now c.in-Some.ensures.lookup.3.0

pub returns-in-None : goal.returns-in-None
returns-in-None c = branch_past c.args.ports.now c.args.place c.in-None.ensures.lookup.3
