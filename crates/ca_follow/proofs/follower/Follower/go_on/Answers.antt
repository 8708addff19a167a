use Rattle.std.proofs.Common.{◌≡◌, Option, None, refl, option_map, subst, rules}
use Rattle.std.specs.Prelude.{IfSome}
use Rattle.ca_term.specs.Event.{event_view}
use Rattle.ca_states.specs.ValidCode.{valid_code}
use Rattle.ca_commit.specs.Tasks.{agent_of}
use Rattle.ca_commit.specs.declared.task.Task.{Task}
use Rattle.ca_tasks.specs.declared.task.AnyTask.{AnyTask}
use Rattle.ca_follow.specs.Follower.{has, running_in}
use Rattle.ca_follow.specs.declared.follower.Follower.{Follower}
use Rattle.ca_follow.proofs.Goings.{follower_taken, leads_from, paused_behind, refuses_from, refuses_none}
use Rattle.ca_follow.proofs.Readied.{if_ok_by}
use Rattle.ca_follow.proofs.follower.Follower.go_on.Goals as goal

pub returns-in_default-clause-refused : goal.returns-in_default-clause-refused
returns-in_default-clause-refused c other = let none : running_in c.args.self.now.tasks c.args.number ≡ None = search rules in
    refuses_none (valid_code c.args.self.now.code.now) (event_view c.args.event.now) (has c.args.self.now) c.args.number none c.requires.event

pub operate-requires-clause-follower : goal.operate-requires-clause-follower
operate-requires-clause-follower c = follower_taken c.args.self.now c.take.new.self c.args.number c.requires.follower c.in_ok-task.ensures.running

pub end-requires-clause-follower : goal.end-requires-clause-follower
end-requires-clause-follower c = follower_taken c.args.self.now c.take.new.self c.args.number c.requires.follower c.in_ok-task.ensures.running

pub fault-requires-clause-follower : goal.fault-requires-clause-follower
fault-requires-clause-follower c = follower_taken c.args.self.now c.take.new.self c.args.number c.requires.follower c.in_ok-task.ensures.running

pub operate-requires-clause-behind : goal.operate-requires-clause-behind
operate-requires-clause-behind c = let f = c.args.self.now in let first : Task AnyTask = c.in-Some.task in let later : Task AnyTask = record first { agent = c.advance.new.self } in let g : Follower = record f { tasks = c.take.new.self } in let k = c.in_ok-task.ensures in let st = c.requires.stands in
    (st.0, st.1, st.2, (paused_behind f c.take.new.self c.args.number first later (subst (λ (o : Option (Task AnyTask)). IfSome o (λ x. x.number ≡ c.args.number)) c.in-Some.is k.number) (subst (λ (o : Option (Task AnyTask)). option_map agent_of o ≡ running_in f.tasks c.args.number) c.in-Some.is k.task) k.running k.known refl refl refl c.in_ok-advance.ensures.advances) st.0 st.1 st.2 st.3)

pub returns-in-AtOp-clause-allowed : goal.returns-in-AtOp-clause-allowed
returns-in-AtOp-clause-allowed c = let f = c.args.self.now in let first : Task AnyTask = c.in-Some.task in let later : Task AnyTask = record first { agent = c.advance.new.self } in let g : Follower = record f { tasks = c.take.new.self } in let k = c.in_ok-task.ensures in
    if_ok_by c.operate.result (λ b leads same. leads_from (valid_code f.code.now) (event_view c.args.event.now) (has f) (has g) later.number (agent_of later) (paused_behind f c.take.new.self c.args.number first later (subst (λ (o : Option (Task AnyTask)). IfSome o (λ x. x.number ≡ c.args.number)) c.in-Some.is k.number) (subst (λ (o : Option (Task AnyTask)). option_map agent_of o ≡ running_in f.tasks c.args.number) c.in-Some.is k.task) k.running k.known refl refl refl c.in_ok-advance.ensures.advances) (has c.operate.new.self) (leads same)) c.operate.ensures.allowed

pub returns-in-AtOp-clause-refused : goal.returns-in-AtOp-clause-refused
returns-in-AtOp-clause-refused c = let f = c.args.self.now in let first : Task AnyTask = c.in-Some.task in let later : Task AnyTask = record first { agent = c.advance.new.self } in let g : Follower = record f { tasks = c.take.new.self } in let k = c.in_ok-task.ensures in
    if_ok_by c.operate.result (λ b refuses other. refuses_from (valid_code f.code.now) (event_view c.args.event.now) (has f) (has g) later.number (agent_of later) (paused_behind f c.take.new.self c.args.number first later (subst (λ (o : Option (Task AnyTask)). IfSome o (λ x. x.number ≡ c.args.number)) c.in-Some.is k.number) (subst (λ (o : Option (Task AnyTask)). option_map agent_of o ≡ running_in f.tasks c.args.number) c.in-Some.is k.task) k.running k.known refl refl refl c.in_ok-advance.ensures.advances) (refuses other)) c.operate.ensures.refused

pub returns-in-Ended-clause-allowed : goal.returns-in-Ended-clause-allowed
returns-in-Ended-clause-allowed c same = let f = c.args.self.now in let first : Task AnyTask = c.in-Some.task in let later : Task AnyTask = record first { agent = c.advance.new.self } in let g : Follower = record f { tasks = c.take.new.self } in let k = c.in_ok-task.ensures in
    leads_from (valid_code f.code.now) (event_view c.args.event.now) (has f) (has g) later.number (agent_of later) (paused_behind f c.take.new.self c.args.number first later (subst (λ (o : Option (Task AnyTask)). IfSome o (λ x. x.number ≡ c.args.number)) c.in-Some.is k.number) (subst (λ (o : Option (Task AnyTask)). option_map agent_of o ≡ running_in f.tasks c.args.number) c.in-Some.is k.task) k.running k.known refl refl refl c.in_ok-advance.ensures.advances) (has c.end.new.self) (c.end.ensures.allowed same)

pub returns-in-Ended-clause-refused : goal.returns-in-Ended-clause-refused
returns-in-Ended-clause-refused c other = let f = c.args.self.now in let first : Task AnyTask = c.in-Some.task in let later : Task AnyTask = record first { agent = c.advance.new.self } in let g : Follower = record f { tasks = c.take.new.self } in let k = c.in_ok-task.ensures in
    refuses_from (valid_code f.code.now) (event_view c.args.event.now) (has f) (has g) later.number (agent_of later) (paused_behind f c.take.new.self c.args.number first later (subst (λ (o : Option (Task AnyTask)). IfSome o (λ x. x.number ≡ c.args.number)) c.in-Some.is k.number) (subst (λ (o : Option (Task AnyTask)). option_map agent_of o ≡ running_in f.tasks c.args.number) c.in-Some.is k.task) k.running k.known refl refl refl c.in_ok-advance.ensures.advances) (c.end.ensures.refused other)

pub returns-in-Faulted-clause-allowed : goal.returns-in-Faulted-clause-allowed
returns-in-Faulted-clause-allowed c same = let f = c.args.self.now in let first : Task AnyTask = c.in-Some.task in let later : Task AnyTask = record first { agent = c.advance.new.self } in let g : Follower = record f { tasks = c.take.new.self } in let k = c.in_ok-task.ensures in
    leads_from (valid_code f.code.now) (event_view c.args.event.now) (has f) (has g) later.number (agent_of later) (paused_behind f c.take.new.self c.args.number first later (subst (λ (o : Option (Task AnyTask)). IfSome o (λ x. x.number ≡ c.args.number)) c.in-Some.is k.number) (subst (λ (o : Option (Task AnyTask)). option_map agent_of o ≡ running_in f.tasks c.args.number) c.in-Some.is k.task) k.running k.known refl refl refl c.in_ok-advance.ensures.advances) (has c.fault.new.self) (c.fault.ensures.allowed same)

pub returns-in-Faulted-clause-refused : goal.returns-in-Faulted-clause-refused
returns-in-Faulted-clause-refused c other = let f = c.args.self.now in let first : Task AnyTask = c.in-Some.task in let later : Task AnyTask = record first { agent = c.advance.new.self } in let g : Follower = record f { tasks = c.take.new.self } in let k = c.in_ok-task.ensures in
    refuses_from (valid_code f.code.now) (event_view c.args.event.now) (has f) (has g) later.number (agent_of later) (paused_behind f c.take.new.self c.args.number first later (subst (λ (o : Option (Task AnyTask)). IfSome o (λ x. x.number ≡ c.args.number)) c.in-Some.is k.number) (subst (λ (o : Option (Task AnyTask)). option_map agent_of o ≡ running_in f.tasks c.args.number) c.in-Some.is k.task) k.running k.known refl refl refl c.in_ok-advance.ensures.advances) (c.fault.ensures.refused other)
