use Rattle.std.proofs.Common.{◌∙◌, Option, Some, ap, eqb, option_map, sym}
use Rattle.std.specs.Map.{update}
use Rattle.ca_commit.specs.Tasks.{agent_of, task_view}
use Rattle.ca_commit.specs.declared.task.Task.{Task}
use Rattle.ca_commit.proofs.Laid.{same_map}
use Rattle.ca_tasks.specs.declared.task.AnyTask.{AnyTask}
use Rattle.ca_follow.specs.Applies.{and_number, knows_all, knows_own, with_all, with_own}
use Rattle.ca_follow.specs.Follower.{is_known_task, running_in}
use Rattle.ca_follow.proofs.Readied.{ok_by}
use Rattle.ca_follow.proofs.operating.take_running.Goals as goal

pub returns-in_ok-put-in-Some-clause-running : goal.returns-in_ok-put-in-Some-clause-running
returns-in_ok-put-in-Some-clause-running c = let x = c.in-Some.task in let old = c.args.tasks.now in
    ok_by c.take_all.result (λ k q is t. k q is t ∙ ap (λ f. with_all q f t) (same_map (running_in c.put.new.self) (update eqb (running_in old) x.number (Some (agent_of x))) c.in_ok-put-in-Some.ensures.running)
    ∙ ap (λ (o : Option (Task AnyTask)). with_all q (with_own (option_map task_view o) (running_in old)) t) (sym c.in-Some.is)) c.take_all.ensures.running

pub returns-in_ok-put-in-Some-clause-known : goal.returns-in_ok-put-in-Some-clause-known
returns-in_ok-put-in-Some-clause-known c = let x = c.in-Some.task in let old = c.args.tasks.now in
    ok_by c.take_all.result (λ k q is t. k q is t ∙ ap (λ f. knows_all q f t) (same_map (is_known_task c.put.new.self) (and_number (is_known_task old) x.number) c.in_ok-put-in-Some.ensures.known)
    ∙ ap (λ (o : Option (Task AnyTask)). knows_all q (knows_own (option_map task_view o) (is_known_task old)) t) (sym c.in-Some.is)) c.take_all.ensures.known
