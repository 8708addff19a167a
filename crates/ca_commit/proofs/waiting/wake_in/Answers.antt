use Rattle.std.proofs.Common.{ap, ◌∙◌, Some}
use Rattle.ca_commit.specs.Tasks.{tasks_in}
use Rattle.ca_commit.proofs.Woken.{woke_owner}
use Rattle.ca_commit.proofs.waiting.wake_in.Goals as goal

pub returns-in-Some : goal.returns-in-Some
returns-in-Some g c = woke_owner g.A.Agent.gives c.args.parked c.in-Some-Owner.task c.args.value c.in-Some.value c.go_on.result (Some (tasks_in c.args.ready.now)) (Some (tasks_in c.push.new.self)) (c.in-Some-Owner.is ∙ ap Some c.in-Some-Owner.field-0-is) c.in-Some.is c.go_on.ensures.number c.go_on.ensures.result c.go_on.ensures.alts c.go_on.ensures.gives (ap Some c.push.ensures.tasks)
