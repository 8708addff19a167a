use Rattle.std.proofs.Common.{◌∙◌, None, sym, ap, subst}
use Rattle.ca_commit.specs.Deciding.{PlanTells}
use Rattle.ca_commit.specs.Planning.{Planned}
use Rattle.ca_commit.specs.Plans.{plan_view}
use Rattle.ca_commit.specs.Tasks.{agent_of}
use Rattle.ca_commit.proofs.PlanTold.{plan_tells}
use Rattle.ca_table.specs.Bearing.{parts_held}
use Rattle.ca_table.specs.Homes.{has_home}
use Rattle.ca_pool.specs.OwnPlans.{IsOwnPlanFor}
use Rattle.ca_pool.proofs.AtEvents.{drew_nothing}
use Rattle.ca_pool.proofs.Resolutions.{decided_else, named_held, refused_is, seen_held}
use Rattle.ca_pool.proofs.LoneSteps.{stayed_nothing}
use Rattle.ca_pool.proofs.resolution.take_up.Goals as goal

pub prune_first-requires-clause-stale : goal.prune_first-requires-clause-stale
prune_first-requires-clause-stale g c = let plan = c.requires.planned in let held = c.args.held.now in let h = parts_held c.args.worker.now.number None None held in
    (subst (λ (q : Planned). PlanTells h plan.0.op q) (sym plan.2 ∙ ap plan_view c.in-Prune.is) (plan_tells h plan.0.op c.args.task.now.alts)).1.0

pub refuse_over-requires-clause-planned : goal.refuse_over-requires-clause-planned
refuse_over-requires-clause-planned g c = subst (λ (q : Planned). IsOwnPlanFor g.A.Agent.place c.args.held.now q (agent_of c.args.task.now)) (ap plan_view c.in-Refused.is) c.requires.planned

pub returns-in_default-clause-drew : goal.returns-in_default-clause-drew
returns-in_default-clause-drew g c = drew_nothing c.args.worker.now

pub returns-in_default-clause-took : goal.returns-in_default-clause-took
returns-in_default-clause-took g c = record { holds = c.requires.held; these = c.requires.these; carries = λ program n l s. s }

pub returns-in_default-clause-resolved : goal.returns-in_default-clause-resolved
returns-in_default-clause-resolved g c = let wanted = c.args.wanted.now in let held = c.args.held.now in let task = c.args.task.now in let plan = c.args.plan in record {
  plan_for = c.requires.planned;
  copies = c.requires.copies;
  decided = decided_else (has_home wanted.shards) held.new_wait plan c.requires.seen c.in_default.not-Prune;
  seen = seen_held wanted.banks wanted.shards held (plan_view plan) c.requires.these c.requires.seen;
  named = named_held g.A.Agent.place wanted.banks wanted.shards held task c.requires.these c.requires.wants;
  result = λ f e. absurd (c.in_default.not-Refused f (refused_is plan f e));
}

pub returns-in_default-clause-stayed : goal.returns-in_default-clause-stayed
returns-in_default-clause-stayed g c = stayed_nothing c.args.worker.now
