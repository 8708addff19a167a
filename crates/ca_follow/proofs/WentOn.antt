-- The event of a plan was made: the follower is one still, and the plan is applied.
use Rattle.std.proofs.Common.{◌≡◌, ℕ, List, [], subst, Option, Some, option_map}
use Rattle.std.specs.Prelude.{IfSome, IsSome, nat_eq}
use Rattle.indexmap.specs.IndexSet.{contains}
use Rattle.ca_states.specs.ValidCode.{valid_code}
use Rattle.ca_commit.specs.Agents.{TaskAgent}
use Rattle.ca_commit.specs.Applying.{ReadyBy, RunsBy, channels_by, registries_by, times_by, waits_by}
use Rattle.ca_commit.specs.Contents.{nobody, owner}
use Rattle.ca_commit.specs.NewPort.{times_in}
use Rattle.ca_commit.specs.Parking.{waiting_as}
use Rattle.ca_commit.specs.Planning.{Planned}
use Rattle.ca_commit.specs.Showing.{channels_held, registries_held, waits_held}
use Rattle.ca_commit.specs.Tasks.{agent_of, task_view}
use Rattle.ca_commit.specs.Waking.{ready_in}
use Rattle.ca_commit.specs.declared.held.Held.{Held}
use Rattle.ca_commit.specs.declared.task.Task.{Task}
use Rattle.ca_tasks.specs.Tasks.{gives, task_over_code, place, starts}
use Rattle.ca_tasks.specs.declared.task.AnyTask.{AnyTask}
use Rattle.ca_follow.specs.Applies.{knows_all, knows_own, used_by, with_all, with_own}
use Rattle.ca_follow.specs.Follower.{AppliedFor, IsFollower, IsPlanOf, IsSpawnedTask, KnowsTask, has, is_known_task, running_in, without_alts}
use Rattle.ca_follow.specs.declared.follower.Follower.{Follower}
use Rattle.ca_follow.proofs.GoneOn.{GoneOn, goes_by, runs_own, woken_by}
use Rattle.ca_follow.proofs.Operates.{applied_for, follower_after}
use Rattle.ca_follow.proofs.Readied.{plain_is, some_ready}

-- what `apply` promises of the parts that it leaves, and what taking who can go on does to the tasks
pub record Went (f f2 : Follower) (d : Held AnyTask) (task : Task AnyTask) (q : Planned) (running spawned : Option (Task AnyTask)) : Type 0 where
  pub channels : (i : ℕ) → channels_held f2.held.banks i ≡ channels_by f.held.new_port f.held.new_wait q (channels_held f.held.banks) i
  pub registries : (i : ℕ) → registries_held f2.held.banks i ≡ registries_by f.held.new_port q (registries_held f.held.banks) i
  pub waits : (i : ℕ) → waits_held f2.held.shards i ≡ waits_by f.held.new_wait (owner task.number (waiting_as place (agent_of task))) nobody q (waits_held f.held.shards) i
  pub ready : ReadyBy place gives f.held d spawned q
  pub times : times_in f2.held.timers ≡ times_by f.held.new_port f.held.moment q (times_in f.held.timers)
  pub runs : RunsBy gives f.held task q running
  pub taken : (l : List (ℕ × TaskAgent AnyTask)) → ready_in d.ready ≡ Some l → (t : ℕ) → running_in f2.tasks t ≡ with_all l (with_own (option_map task_view running) (running_in f.tasks)) t
  pub known : (l : List (ℕ × TaskAgent AnyTask)) → ready_in d.ready ≡ Some l → (t : ℕ) → is_known_task f2.tasks t ≡ knows_all l (knows_own (option_map task_view running) (is_known_task f.tasks)) t
  pub empty : IsSome d.ready → ready_in f2.held.ready ≡ Some []
  pub used : (w : ℕ) → contains nat_eq f2.waits w ≡ used_by f.held.new_wait q (λ v. contains nat_eq f.waits v) w

module _ (f f2 : Follower) (d : Held AnyTask) (task : Task AnyTask) (q : Planned) (running spawned : Option (Task AnyTask)) (is : IsFollower f) (none : task.alts ≡ 0) (k : Went f f2 d task q running spawned)
    (new : IfSome spawned (λ t. IsSpawnedTask (valid_code f.code.now) (agent_of task) f.held.new_task t)) where
  gone : GoneOn place gives starts q task.number f.held.new_task f.held.new_port f.held.new_wait f.held.moment (without_alts (agent_of task)) (has f) (has f2) (option_map task_view spawned)
  gone = let w = woken_by place gives f.held d spawned q is.ready k.ready in
      subst (λ (a : TaskAgent AnyTask). GoneOn place gives starts q task.number f.held.new_task f.held.new_port f.held.new_wait f.held.moment a (has f) (has f2) (option_map task_view spawned)) (plain_is (agent_of task) none) (record {
        bank = k.channels;
        registry = k.registries;
        shard = k.waits;
        times = k.times;
        own = option_map task_view running;
        is_own = runs_own place gives f.held task q running k.runs;
        runs = goes_by place gives starts f.held task q running (has f) k.runs;
        woken = w.0;
        wakes = w.2;
        running = k.taken w.0 w.1;
        known = k.known w.0 w.1;
        used = k.used;
      })

  pub went_applied : KnowsTask (has f) task.number → AppliedFor (valid_code f.code.now) q task.number f.held (agent_of task) (has f) (has f2)
  went_applied knows = applied_for (valid_code f.code.now) q task.number f.held (agent_of task) (has f) (has f2) spawned gone new knows

  pub went_follower : task_over_code (valid_code f.code.now) task.agent → (start : ℕ) × IsPlanOf (has f) (agent_of task) start q → f2.code ≡ f.code → IsFollower f2
  went_follower ov plan code = let w = woken_by place gives f.held d spawned q is.ready k.ready in
      follower_after f f2 q task.number f.held.new_task f.held.new_port f.held.new_wait f.held.moment plan.0 (agent_of task) spawned is ov plan.1 gone new (k.empty (some_ready d.ready w.0 w.1)) code
