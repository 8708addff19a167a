use Rattle.std.proofs.Common.{sym, ap, ◌∙◌}
use Rattle.ca_commit.specs.Branching.{plan_or}
use Rattle.ca_commit.specs.Plans.{plan_view}
use Rattle.ca_commit.specs.Showing.{seen}
use Rattle.ca_commit.proofs.BranchLaws.{first_part, second_part}
use Rattle.ca_commit.proofs.planning.from_number.Goals as goal

pub returns-in-Some-clause-plan : goal.returns-in-Some-clause-plan
returns-in-Some-clause-plan g c = first_part (seen c.args.banks.now c.args.shards.now) c.args.at c.args.ports.now (plan_view c.in-Some.plan) (λ rest. ap (λ o. plan_or o rest) (sym c.in-Some.is) ∙ c.in_ok-plan.ensures.plan rest)

pub returns-in-None-clause-plan : goal.returns-in-None-clause-plan
returns-in-None-clause-plan g c = second_part (seen c.args.banks.now c.args.shards.now) c.args.at c.args.ports.now c.in_turn-in-None.result (λ rest. ap (λ o. plan_or o rest) (sym c.in-None.is) ∙ c.in_ok-plan.ensures.plan rest) c.in_turn-in-None.ensures.plan
