use Rattle.std.proofs.Common.{◌≡◌, [], sym, ap, ◌∙◌, rules}
use Rattle.std.specs.Map.{update}
use Rattle.std.proofs.Common.{Some, eqb}
use Rattle.ca_commit.specs.Tasks.{agent_of, tasks_in}
use Rattle.ca_commit.proofs.Laid.{same_map}
use Rattle.ca_follow.specs.Applies.{and_number, knows_all, with_all}
use Rattle.ca_follow.specs.Follower.{is_known_task, running_in}
use Rattle.ca_follow.proofs.operating.put_all.Goals as goal

pub loop-task-preserved : goal.loop-task-preserved
loop-task-preserved c = let x = c.in-Some.task in let rest = tasks_in c.pop.new.self in let old = c.loop-task.tasks in record {
  running = λ t. ap (λ f. with_all rest f t) (same_map (running_in c.put.new.self) (update eqb (running_in old) x.number (Some (agent_of x))) c.in_ok-put.ensures.running)
      ∙ ap (λ l. with_all l (running_in old) t) (sym c.in-Some.ensures.some) ∙ c.loop-task.invariant.running t;
  known = λ t. ap (λ f. knows_all rest f t) (same_map (is_known_task c.put.new.self) (and_number (is_known_task old) x.number) c.in_ok-put.ensures.known)
      ∙ ap (λ l. knows_all l (is_known_task old) t) (sym c.in-Some.ensures.some) ∙ c.loop-task.invariant.known t;
}

pub returns-clause-running : goal.returns-clause-running
returns-clause-running c = let none : tasks_in c.loop-task.ready ≡ [] = search rules in λ t. ap (λ l. with_all l (running_in c.loop-task.tasks) t) (sym none) ∙ c.loop-task.invariant.running t

pub returns-clause-known : goal.returns-clause-known
returns-clause-known c = let none : tasks_in c.loop-task.ready ≡ [] = search rules in λ t. ap (λ l. knows_all l (is_known_task c.loop-task.tasks) t) (sym none) ∙ c.loop-task.invariant.known t
