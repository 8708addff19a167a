use Rattle.std.proofs.Common.{◌≡◌, sym, subst, true, false}
use Rattle.std.specs.Prelude.{IfOk}
use Rattle.ca_term.specs.Event.{event_view}
use Rattle.ca_states.specs.ValidCode.{valid_code}
use Rattle.ca_commit.specs.Plans.{plan_view}
use Rattle.ca_commit.specs.Tasks.{agent_of}
use Rattle.ca_tasks.specs.Tasks.{task_over_code}
use Rattle.ca_follow.specs.Follower.{IsMadeFor, IsPlanOf, LeadsBehind, RefusesBehind, has}
use Rattle.ca_follow.proofs.Operates.{leads_before, refuses_before}
use Rattle.ca_follow.proofs.Planned.{decided_event, refuse_only}
use Rattle.ca_follow.proofs.Readied.{if_ok_by}
use Rattle.ca_follow.proofs.follower.Follower.operate.Goals as goal

pub make-requires : goal.make-requires
make-requires c = let p = c.in_ok-plan.ensures in let x = c.in_ok-plan.plan in let b = c.requires.behind in let code = c.settled_plan.ensures.code in record {
  follower = p.follower;
  over = subst (λ z. task_over_code (valid_code z.now) c.args.task.agent) (sym code) c.requires.over;
  plan = subst (λ n. IsPlanOf (has c.settled_plan.new.self) (agent_of c.args.task) n (plan_view x)) c.start_of.ensures p.plan;
  event = decided_event (plan_view x) p.decided (refuse_only x c.in_default.not-Refused);
  copies = p.copies;
  mine = c.requires.mine;
  behind = (b.0, b.1, subst (λ z. IsMadeFor b.0 (valid_code z.now)) (sym code) b.2, p.behind b.0 b.1 b.3);
}

pub returns-in-Refused-clause-allowed : goal.returns-in-Refused-clause-allowed
returns-in-Refused-clause-allowed c same = let e = event_view c.args.event.now in let h = has c.args.self.now in let g = has c.settled_plan.new.self in let t = c.args.task.number in let a = agent_of c.args.task in
    leads_before (valid_code c.args.self.now.code.now) e h g (has c.fault.new.self) t a c.in_ok-plan.ensures.behind (subst (λ z. LeadsBehind (valid_code z.now) e g t a (has c.fault.new.self)) c.settled_plan.ensures.code (c.fault.ensures.allowed same))

pub returns-in-Refused-clause-refused : goal.returns-in-Refused-clause-refused
returns-in-Refused-clause-refused c other = let e = event_view c.args.event.now in let h = has c.args.self.now in let g = has c.settled_plan.new.self in let t = c.args.task.number in let a = agent_of c.args.task in
    refuses_before (valid_code c.args.self.now.code.now) e h g t a c.in_ok-plan.ensures.behind (subst (λ z. RefusesBehind (valid_code z.now) e g t a) c.settled_plan.ensures.code (c.fault.ensures.refused other))

pub returns-in_default-clause-allowed : goal.returns-in_default-clause-allowed
returns-in_default-clause-allowed c = let e = event_view c.args.event.now in let h = has c.args.self.now in let g = has c.settled_plan.new.self in let t = c.args.task.number in let a = agent_of c.args.task in
    if_ok_by c.make.result (λ b k same. leads_before (valid_code c.args.self.now.code.now) e h g (has c.make.new.self) t a c.in_ok-plan.ensures.behind (k same))
    (subst (λ z. IfOk c.make.result (λ b. b ≡ true → LeadsBehind (valid_code z.now) e g t a (has c.make.new.self))) c.settled_plan.ensures.code c.make.ensures.allowed)

pub returns-in_default-clause-refused : goal.returns-in_default-clause-refused
returns-in_default-clause-refused c = let e = event_view c.args.event.now in let h = has c.args.self.now in let g = has c.settled_plan.new.self in let t = c.args.task.number in let a = agent_of c.args.task in
    if_ok_by c.make.result (λ b k other. refuses_before (valid_code c.args.self.now.code.now) e h g t a c.in_ok-plan.ensures.behind (k other))
    (subst (λ z. IfOk c.make.result (λ b. b ≡ false → RefusesBehind (valid_code z.now) e g t a)) c.settled_plan.ensures.code c.make.ensures.refused)
