use Rattle.std.proofs.Common.{◌≡◌, sym, subst, ℕ}
use Rattle.std.specs.Prelude.{IfOk, OnOk}
use Rattle.ca_term.specs.Event.{event_view}
use Rattle.ca_states.specs.ValidCode.{valid_code}
use Rattle.ca_commit.specs.Applying.{event_of}
use Rattle.ca_commit.specs.Plans.{plan_view}
use Rattle.ca_commit.specs.Tasks.{agent_of}
use Rattle.ca_tasks.specs.Tasks.{task_over_code}
use Rattle.ca_follow.specs.Events.{AreNew}
use Rattle.ca_follow.specs.Follower.{IsPlanOf, KnowsTask, has}
use Rattle.ca_follow.proofs.Operates.{AppliedWith, at_its_op, moved, moved_on}
use Rattle.ca_follow.proofs.follower.Follower.applied.Goals as goal

pub spawned-requires-clause-at : goal.spawned-requires-clause-at
spawned-requires-clause-at c = at_its_op (has c.args.self.now) (agent_of c.args.task) c.requires.plan.0 (plan_view c.args.plan) c.requires.plan.1

pub spawned-requires-clause-over : goal.spawned-requires-clause-over
spawned-requires-clause-over c = subst (λ z. task_over_code (valid_code z.now) c.args.task.agent) (sym c.reserved.ensures.code) c.requires.over

pub spawned-requires-clause-plan : goal.spawned-requires-clause-plan
spawned-requires-clause-plan c = subst (λ h. (start : ℕ) × IsPlanOf h (agent_of c.args.task) start (plan_view c.args.plan)) (sym c.in_ok-reserved.ensures.same) c.requires.plan

pub go-requires-clause-over : goal.go-requires-clause-over
go-requires-clause-over c = subst (λ z. task_over_code (valid_code z.now) c.args.task.agent) (sym c.reserved.ensures.code) c.requires.over

pub go-requires-clause-plan : goal.go-requires-clause-plan
go-requires-clause-plan c = subst (λ h. (start : ℕ) × IsPlanOf h (agent_of c.args.task) start (plan_view c.args.plan)) (sym c.in_ok-reserved.ensures.same) c.requires.plan

pub go-requires-clause-new : goal.go-requires-clause-new
go-requires-clause-new c = let f = c.args.self.now in let g = c.reserved.new.self in
    moved_on (λ h u p w m. AreNew h (plan_view c.args.plan) u p w m) (has f) (has g) f.held g.held c.in_ok-reserved.ensures.same c.in_ok-reserved.ensures.counts c.requires.new

pub go-requires-clause-known : goal.go-requires-clause-known
go-requires-clause-known c = subst (λ h. KnowsTask h c.args.task.number) (sym c.in_ok-reserved.ensures.same) c.requires.known

pub returns-clause-event : goal.returns-clause-event
returns-clause-event c = let f = c.args.self.now in let g = c.reserved.new.self in
    moved (λ h u p w m. IfOk c.go.result (λ e. event_view e ≡ event_of h.bank h.registry c.args.task.number u p w m (plan_view c.args.plan))) (has f) (has g) f.held g.held c.in_ok-reserved.ensures.same c.in_ok-reserved.ensures.counts c.go.ensures.event

pub returns-clause-applies : goal.returns-clause-applies
returns-clause-applies c = let f = c.args.self.now in let g = c.reserved.new.self in let code = valid_code f.code.now in
    moved (λ h u p w m. OnOk c.go.result (AppliedWith code (plan_view c.args.plan) c.args.task.number (agent_of c.args.task) (has c.go.new.self) h u p w m)) (has f) (has g) f.held g.held c.in_ok-reserved.ensures.same c.in_ok-reserved.ensures.counts
    (subst (λ z. OnOk c.go.result (AppliedWith (valid_code z.now) (plan_view c.args.plan) c.args.task.number (agent_of c.args.task) (has c.go.new.self) (has g) g.held.new_task g.held.new_port g.held.new_wait g.held.moment)) c.reserved.ensures.code c.go.ensures.applies)
