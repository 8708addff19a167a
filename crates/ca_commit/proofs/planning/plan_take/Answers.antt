use Rattle.std.proofs.Common.{sym, ◌∙◌}
use Rattle.ca_value.specs.View.{view}
use Rattle.ca_commit.specs.Showing.{seen}
use Rattle.ca_commit.proofs.BranchLaws.{take_planned}
use Rattle.ca_commit.proofs.planning.plan_take.Goals as goal

pub returns-in-None-clause-plan : goal.returns-in-None-clause-plan
returns-in-None-clause-plan g c = λ start. take_planned (seen c.args.banks.now c.args.shards.now) (view c.args.channel.now) c.port_of.result.n start c.one_branch.result (sym c.not_a_channel.ensures ∙ c.in-None.is) c.port_of.ensures c.one_branch.ensures.plan
