use Rattle.ca_term.specs.Operation.{want_view}
use Rattle.ca_commit.specs.Plans.{plan_view}
use Rattle.ca_commit.specs.Tasks.{agent_of}
use Rattle.ca_follow.specs.Follower.{has}
use Rattle.ca_follow.proofs.Planned.{none_started, spawn_only, starts_none}
use Rattle.ca_follow.proofs.follower.Follower.spawned.Goals.{in_default-via-in-Spawn+in_default, in_default-via-in_default}
use Rattle.ca_follow.proofs.follower.Follower.spawned.Goals as goal

pub returns-in_default-clause-there : goal.returns-in_default-clause-there
returns-in_default-clause-there c = elim c.in_default.branch [
  | in_default-via-in-Spawn+in_default w ↦ none_started (has c.args.self.now) (agent_of c.args.task.now) (plan_view c.args.plan.now) (want_view c.want.result.now) c.requires.plan c.want.ensures (spawn_only c.want.result.now.op w.in_default.not-Spawn-1)
  | in_default-via-in_default w ↦ starts_none c.args.plan.now w.in_default.not-Spawn-0
]
