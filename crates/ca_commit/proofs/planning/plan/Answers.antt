use Rattle.std.proofs.Common.{ap}
use Rattle.ca_value.specs.Seq.{list}
use Rattle.ca_value.specs.View.{view, trees}
use Rattle.ca_term.specs.Operation.{closing, making, op_view, posting, printing, putting, registering, seed_view, spawning, taking, what_view}
use Rattle.ca_commit.specs.Finding.{glance}
use Rattle.ca_commit.specs.Plans.{plan_view}
use Rattle.ca_commit.specs.Showing.{seen, waits_held}
use Rattle.ca_commit.proofs.BranchLaws.{plan_at, plans_at}
use Rattle.ca_commit.proofs.planning.plan.Goals as goal

pub returns-in-Take-clause-plan : goal.returns-in-Take-clause-plan
returns-in-Take-clause-plan g c = plans_at (seen c.args.held.now.banks c.args.held.now.shards) (op_view c.args.want.now.op) (taking (view c.in-Take.channel)) c.args.start c.plan_take.result (ap op_view c.in-Take.is) (c.plan_take.ensures.plan c.args.start)

pub returns-in-Put-clause-plan : goal.returns-in-Put-clause-plan
returns-in-Put-clause-plan g c = plans_at (seen c.args.held.now.banks c.args.held.now.shards) (op_view c.args.want.now.op) (putting (view c.in-Put.channel) (view c.in-Put.value)) c.args.start c.plan_put.result (ap op_view c.in-Put.is) (c.plan_put.ensures.plan c.args.start)

pub returns-in-Post-clause-plan : goal.returns-in-Post-clause-plan
returns-in-Post-clause-plan g c = plans_at (seen c.args.held.now.banks c.args.held.now.shards) (op_view c.args.want.now.op) (posting (view c.in-Post.channel) (view c.in-Post.value)) c.args.start c.plan_put-in-Post.result (ap op_view c.in-Post.is) (c.plan_put-in-Post.ensures.plan c.args.start)

pub returns-in-Make-clause-plan : goal.returns-in-Make-clause-plan
returns-in-Make-clause-plan g c = plans_at (seen c.args.held.now.banks c.args.held.now.shards) (op_view c.args.want.now.op) (making (what_view c.in-Make.what)) c.args.start c.plan_make.result (ap op_view c.in-Make.is) (c.plan_make.ensures.plan (glance (waits_held c.args.held.now.shards)) c.args.start)

pub returns-in-Spawn-clause-plan : goal.returns-in-Spawn-clause-plan
returns-in-Spawn-clause-plan g c = plan_at (seen c.args.held.now.banks c.args.held.now.shards) (op_view c.args.want.now.op) (spawning (seed_view c.in-Spawn.seed)) c.args.start (plan_view c.plan_spawn.result) (ap op_view c.in-Spawn.is) (c.plan_spawn.ensures.plan (glance (waits_held c.args.held.now.shards)) c.args.start)

pub returns-in-Close-clause-plan : goal.returns-in-Close-clause-plan
returns-in-Close-clause-plan g c = plan_at (seen c.args.held.now.banks c.args.held.now.shards) (op_view c.args.want.now.op) (closing (view c.in-Close.channel)) c.args.start (plan_view c.plan_close.result) (ap op_view c.in-Close.is) (c.plan_close.ensures.plan (glance (waits_held c.args.held.now.shards)) c.args.start)

pub returns-in-Register-clause-plan : goal.returns-in-Register-clause-plan
returns-in-Register-clause-plan g c = plans_at (seen c.args.held.now.banks c.args.held.now.shards) (op_view c.args.want.now.op) (registering c.in-Register.name (trees (list c.in-Register.args))) c.args.start c.plan_register.result (ap op_view c.in-Register.is) (c.plan_register.ensures.plan (glance (waits_held c.args.held.now.shards)) c.args.start)

pub returns-in-Print-clause-plan : goal.returns-in-Print-clause-plan
returns-in-Print-clause-plan g c = plans_at (seen c.args.held.now.banks c.args.held.now.shards) (op_view c.args.want.now.op) (printing (list c.in-Print.line)) c.args.start c.plan_print.result (ap op_view c.in-Print.is) (c.plan_print.ensures.plan (seen c.args.held.now.banks c.args.held.now.shards) c.args.start)
