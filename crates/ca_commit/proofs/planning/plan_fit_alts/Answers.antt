use Rattle.std.proofs.Common.{option_map}
use Rattle.ca_value.specs.View.{view}
use Rattle.ca_commit.specs.Showing.{seen}
use Rattle.ca_commit.proofs.BranchLaws.{found_planned, rest_planned}
use Rattle.ca_commit.proofs.planning.plan_fit_alts.Goals as goal

pub returns-in-Some-clause-plan : goal.returns-in-Some-clause-plan
returns-in-Some-clause-plan g c = found_planned (seen c.args.banks.now c.args.shards.now) c.args.ports.now c.args.priority (option_map view c.args.default.now) c.args.start c.first_number-at.result c.in_ok-plan.field-0 c.in-Some.plan c.first_number-at.ensures.number c.in-Some.is c.in_ok-plan.ensures.plan

pub returns-in-None-clause-plan : goal.returns-in-None-clause-plan
returns-in-None-clause-plan g c = rest_planned (seen c.args.banks.now c.args.shards.now) c.args.ports.now c.args.priority (option_map view c.args.default.now) c.args.start c.first_number-at.result c.in_ok-plan.field-0 c.unready_alts.result c.first_number-at.ensures.number c.in-None.is c.in_ok-plan.ensures.plan (c.unready_alts.ensures.plan c.args.priority)
