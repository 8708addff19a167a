use Rattle.std.proofs.Common.{ap, subst, sym}
use Rattle.ca_commit.specs.Applying.{ReadyBy}
use Rattle.ca_commit.specs.Plans.{plan_view}
use Rattle.ca_commit.specs.Tasks.{agent_of}
use Rattle.ca_commit.specs.declared.planned.Plan.{Plan}
use Rattle.ca_commit.proofs.PlansRight.{plan_at, plan_right}
use Rattle.ca_commit.proofs.applying.apply.Goals as goal

pub apply_done-requires-clause-at : goal.apply_done-requires-clause-at
apply_done-requires-clause-at g c = plan_at g.A.Agent.place c.args.held.now (plan_view c.args.plan) (agent_of c.args.task) c.requires.planned

pub apply_done-requires-clause-row : goal.apply_done-requires-clause-row
apply_done-requires-clause-row g c = plan_right g.A.Agent.place c.args.held.now (plan_view c.args.plan) _ (agent_of c.args.task) c.requires.planned (ap plan_view c.in-Done.is)

pub apply_meet-requires-clause-at : goal.apply_meet-requires-clause-at
apply_meet-requires-clause-at g c = plan_at g.A.Agent.place c.args.held.now (plan_view c.args.plan) (agent_of c.args.task) c.requires.planned

pub apply_park-requires-clause-at : goal.apply_park-requires-clause-at
apply_park-requires-clause-at g c = plan_at g.A.Agent.place c.args.held.now (plan_view c.args.plan) (agent_of c.args.task) c.requires.planned

pub apply_park-requires-clause-channels : goal.apply_park-requires-clause-channels
apply_park-requires-clause-channels g c = plan_right g.A.Agent.place c.args.held.now (plan_view c.args.plan) _ (agent_of c.args.task) c.requires.planned (ap plan_view c.in-Park.is)

pub apply_post-requires-clause-at : goal.apply_post-requires-clause-at
apply_post-requires-clause-at g c = plan_at g.A.Agent.place c.args.held.now (plan_view c.args.plan) (agent_of c.args.task) c.requires.planned

pub apply_post-requires-clause-channels : goal.apply_post-requires-clause-channels
apply_post-requires-clause-channels g c = plan_right g.A.Agent.place c.args.held.now (plan_view c.args.plan) _ (agent_of c.args.task) c.requires.planned (ap plan_view c.in-Post.is)

pub apply_default-requires-clause-at : goal.apply_default-requires-clause-at
apply_default-requires-clause-at g c = plan_at g.A.Agent.place c.args.held.now (plan_view c.args.plan) (agent_of c.args.task) c.requires.planned

pub apply_make-requires-clause-at : goal.apply_make-requires-clause-at
apply_make-requires-clause-at g c = plan_at g.A.Agent.place c.args.held.now (plan_view c.args.plan) (agent_of c.args.task) c.requires.planned

pub apply_spawn-requires-clause-at : goal.apply_spawn-requires-clause-at
apply_spawn-requires-clause-at g c = plan_at g.A.Agent.place c.args.held.now (plan_view c.args.plan) (agent_of c.args.task) c.requires.planned

pub apply_close-requires-clause-at : goal.apply_close-requires-clause-at
apply_close-requires-clause-at g c = plan_at g.A.Agent.place c.args.held.now (plan_view c.args.plan) (agent_of c.args.task) c.requires.planned

pub apply_register-requires-clause-at : goal.apply_register-requires-clause-at
apply_register-requires-clause-at g c = plan_at g.A.Agent.place c.args.held.now (plan_view c.args.plan) (agent_of c.args.task) c.requires.planned

pub apply_register-requires-clause-there : goal.apply_register-requires-clause-there
apply_register-requires-clause-there g c = plan_right g.A.Agent.place c.args.held.now (plan_view c.args.plan) _ (agent_of c.args.task) c.requires.planned (ap plan_view c.in-Register.is)

pub apply_print-requires-clause-at : goal.apply_print-requires-clause-at
apply_print-requires-clause-at g c = plan_at g.A.Agent.place c.args.held.now (plan_view c.args.plan) (agent_of c.args.task) c.requires.planned

pub returns-in-Some-clause-ready : goal.returns-in-Some-clause-ready
returns-in-Some-clause-ready g c = subst (λ (p : Plan). ReadyBy g.A.Agent.place g.A.Agent.gives c.args.held.now c.apply_spawn.new.held c.args.spawned (plan_view p)) (sym c.in-Spawn.is) (c.in-Some.spawned, c.in-Some.is, c.apply_spawn.ensures.ready)
