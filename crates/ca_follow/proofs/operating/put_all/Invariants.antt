use Rattle.std.proofs.Common.{◌≡◌, ℕ, length}
use Rattle.ca_commit.specs.Tasks.{tasks_in}
use Rattle.ca_follow.specs.Applies.{knows_all, with_all}
use Rattle.ca_follow.specs.Follower.{is_known_task, running_in}
use Rattle.ca_follow.proofs.operating.put_all.Given as goal

abbrev pub invariant-loop-task : goal.invariant-loop-task
invariant-loop-task l = record {
  running : (t : ℕ) → with_all (tasks_in l.ready) (running_in l.tasks) t ≡ with_all (tasks_in l.fn.ready) (running_in l.fn.tasks) t;
  known : (t : ℕ) → knows_all (tasks_in l.ready) (is_known_task l.tasks) t ≡ knows_all (tasks_in l.fn.ready) (is_known_task l.fn.tasks) t;
}

abbrev pub decreases-loop-task : goal.decreases-loop-task
decreases-loop-task l = length (tasks_in l.ready)
