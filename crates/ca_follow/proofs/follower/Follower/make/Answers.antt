use Rattle.std.proofs.Common.{◌≡◌, refl, sym, ◌∙◌, subst, true, false}
use Rattle.ca_term.specs.Event.{event_view}
use Rattle.ca_states.specs.ValidCode.{valid_code}
use Rattle.ca_commit.specs.Applying.{event_of}
use Rattle.ca_commit.specs.Plans.{plan_view}
use Rattle.ca_commit.specs.Tasks.{agent_of}
use Rattle.ca_tasks.specs.Tasks.{task_over_code}
use Rattle.ca_follow.specs.Events.{AreNew, event_start}
use Rattle.ca_follow.specs.Follower.{AppliedFor, IsPlanOf, KnowsTask, has}
use Rattle.ca_follow.proofs.Operates.{knows_behind, leads_behind, refuses_old, refuses_other}
use Rattle.ca_follow.proofs.Planned.{plan_apart}
use Rattle.ca_follow.proofs.follower.Follower.make.Goals as goal

pub applied-requires-clause-over : goal.applied-requires-clause-over
applied-requires-clause-over c = subst (λ z. task_over_code (valid_code z.now) c.args.task.agent) (sym c.take_numbers.ensures.code) c.requires.over

pub applied-requires-clause-plan : goal.applied-requires-clause-plan
applied-requires-clause-plan c = (event_start (event_view c.args.event.now), subst (λ h. IsPlanOf h (agent_of c.args.task) (event_start (event_view c.args.event.now)) (plan_view c.args.plan)) (sym c.take_numbers.ensures.same) c.requires.plan)

pub applied-requires-clause-new : goal.applied-requires-clause-new
applied-requires-clause-new c = c.if-not-are_new.ensures.0 refl

pub applied-requires-clause-apart : goal.applied-requires-clause-apart
applied-requires-clause-apart c = plan_apart (has c.args.self.now) (agent_of c.args.task) (event_start (event_view c.args.event.now)) (valid_code c.args.self.now.code.now) c.args.task.number (plan_view c.args.plan) c.requires.behind c.requires.plan

pub applied-requires-clause-known : goal.applied-requires-clause-known
applied-requires-clause-known c = subst (λ h. KnowsTask h c.args.task.number) (sym c.take_numbers.ensures.same) (knows_behind (valid_code c.args.self.now.code.now) (has c.args.self.now) c.args.task.number (agent_of c.args.task) c.requires.behind)

pub returns-then-not-are_new-clause-refused : goal.returns-then-not-are_new-clause-refused
returns-then-not-are_new-clause-refused c none = let f = c.args.self.now in let d = c.take_numbers.new.self.held in let q = plan_view c.args.plan in
    refuses_old (valid_code f.code.now) (event_view c.args.event.now) (has f) c.args.task.number (agent_of c.args.task) q c.requires.follower.all c.requires.plan c.requires.event d.new_task d.new_port d.new_wait d.moment c.requires.mine c.take_numbers.ensures.numbers
    (λ new. let z : false ≡ true = c.if-not-are_new.ensures.1 (subst (λ h. AreNew h q d.new_task d.new_port d.new_wait d.moment) (sym c.take_numbers.ensures.same) new) in absurd cc)

pub returns-clause-allowed : goal.returns-clause-allowed
returns-clause-allowed c same = let f = c.args.self.now in let g = c.take_numbers.new.self in let d = g.held in let q = plan_view c.args.plan in let t = c.args.task.number in let a = agent_of c.args.task in let n = c.take_numbers.ensures in let h2 = has c.applied.new.self in
    leads_behind (valid_code f.code.now) (event_view c.args.event.now) (has f) t a q c.requires.follower.all c.requires.plan c.requires.event h2 d
    (subst (λ h. AreNew h q d.new_task d.new_port d.new_wait d.moment) n.same (c.if-not-are_new.ensures.0 refl))
    (subst (λ h. AppliedFor (valid_code f.code.now) q t d a h h2) n.same (subst (λ z. AppliedFor (valid_code z.now) q t d a (has g) h2) n.code c.in_ok-made.ensures.applies))
    (sym (subst (λ h. event_view c.in_ok-made.made ≡ event_of h.bank h.registry t d.new_task d.new_port d.new_wait d.moment q) n.same c.in_ok-made.ensures.event) ∙ c.agrees.ensures.0 same)

pub returns-clause-refused : goal.returns-clause-refused
returns-clause-refused c other = let f = c.args.self.now in let d = c.take_numbers.new.self.held in let q = plan_view c.args.plan in let t = c.args.task.number in let n = c.take_numbers.ensures in
    refuses_other (valid_code f.code.now) (event_view c.args.event.now) (has f) t (agent_of c.args.task) q c.requires.follower.all c.requires.plan c.requires.event d.new_task d.new_port d.new_wait d.moment c.requires.mine n.numbers
    (λ is. let z : true ≡ false = sym (c.agrees.ensures.1 (subst (λ h. event_view c.in_ok-made.made ≡ event_of h.bank h.registry t d.new_task d.new_port d.new_wait d.moment q) n.same c.in_ok-made.ensures.event ∙ is)) ∙ other in absurd cc)
