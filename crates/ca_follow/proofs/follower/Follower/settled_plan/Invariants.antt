use Rattle.std.proofs.Common.{◌≡◌}
use Rattle.ca_commit.specs.Plans.{HasCopies, plan_view}
use Rattle.ca_commit.specs.Showing.{channels_held}
use Rattle.ca_commit.specs.Tasks.{agent_of}
use Rattle.ca_tasks.specs.Tasks.{place}
use Rattle.ca_follow.specs.Follower.{IsFollower, IsPlanOf, KeepsBehind, has}
use Rattle.ca_follow.proofs.Planned.{branches_at}
use Rattle.ca_follow.specs.Pruning.{queued_in}
use Rattle.ca_follow.proofs.follower.Follower.settled_plan.Given as goal

abbrev pub invariant-loop-planned : goal.invariant-loop-planned
invariant-loop-planned l = record {
  follower : IsFollower l.self;
  code : l.self.code ≡ l.fn.self.code;
  tasks : l.self.tasks ≡ l.fn.self.tasks;
  waits : l.self.waits ≡ l.fn.self.waits;
  keeps : KeepsBehind (has l.fn.self) (has l.self) l.task.number (agent_of l.task);
  plan : IsPlanOf (has l.self) (agent_of l.task) l.start (plan_view l.planned);
  copies : HasCopies l.planned;
}

abbrev pub decreases-loop-planned : goal.decreases-loop-planned
decreases-loop-planned l = queued_in (branches_at (place l.task.agent)) (channels_held l.self.held.banks)
