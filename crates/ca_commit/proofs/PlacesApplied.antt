-- An event that is made where the parts lie is the one that `plan` and `apply` make over all that is held.
use Rattle.std.proofs.Common.{◌≡◌, ℕ, List, Option, None, Some, Bool, true, false, cond, refl, sym, ap, ◌∙◌, subst, eqb, eqb-true, option_map}
use Rattle.std.proofs.lemmas.Bool.{eqb-false}
use Rattle.std.specs.Map.{update}
use Rattle.ca_value.specs.Tree.{Tree, bool}
use Rattle.ca_term.specs.Program.{ProgramView}
use Rattle.ca_term.specs.Operation.{SeedView}
use Rattle.ca_meaning.specs.Body.{At}
use Rattle.ca_meaning.specs.ChannelSteps.{other_side}
use Rattle.ca_meaning.specs.Wait.{brought, port_of, side_of, told}
use Rattle.ca_bank.specs.Bank.{kept_at}
use Rattle.ca_bank.specs.Kept.{enqueued, pruned}
use Rattle.ca_commit.specs.Agents.{TaskAgent}
use Rattle.ca_commit.specs.Contents.{Kept, Parked, Parts, home, nobody, owner, whole}
use Rattle.ca_commit.specs.Deciding.{seen_in}
use Rattle.ca_commit.specs.Listing.{changed_at}
use Rattle.ca_commit.specs.Moves.{Becomes}
use Rattle.ca_commit.specs.Parking.{waiting_as}
use Rattle.ca_commit.specs.PlacesApplied.{DoneApplies, IsPlanned, MeetApplies, ParkApplies, PostApplies, StandsIn}
use Rattle.ca_commit.specs.Planning.{Planned, planned}
use Rattle.ca_commit.specs.Replies.{GoesOn, done_answer, done_change, reply_by}
use Rattle.ca_commit.specs.Showing.{waits_of}
use Rattle.ca_commit.specs.Standing.{branch_no, is_alts_at, op_at}
use Rattle.ca_commit.specs.Tasks.{agent_of, tasks_in}
use Rattle.ca_commit.specs.Waking.{WakesBy, passing}
use Rattle.ca_commit.specs.declared.task.Task.{Task}
use Rattle.ca_commit.proofs.PlainPlans.{shows_at}

-- one part of several changes at n, and no other part
pub turned : {X : Type 0} (m m2 : ℕ → Option (ℕ → Option X)) (n : ℕ) (x y : ℕ → Option X) (f : Option X → Option X) → Becomes m m2 (home n) x y → ((q : ℕ) → y q ≡ update eqb x n (f (x n)) q) → (i : ℕ) → m2 i ≡ changed_at n f m i
turned {X} m m2 n x y f b e i = by (eqb (home n) i) refl where
  by : (c : Bool) → eqb (home n) i ≡ c → m2 i ≡ cond c (option_map (λ (g : ℕ → Option X). update eqb g n (f (g n))) (m i)) (m i)
  by true h = let k = eqb-true (home n) i h in ap m2 (sym k) ∙ b.is ∙ ap Some (λ j q. e q j) ∙ sym (ap (option_map (λ (g : ℕ → Option X). update eqb g n (f (g n)))) (ap m (sym k) ∙ b.was))
  by false h = b.others i (λ g. eqb-false (home n) i h (sym g))

module _ {A : Type 0} (place : A → At) (advances : ProgramView → A → A → Type 0) (gives : A → Tree → A → Type 0) (starts : ProgramView → SeedView → A → Type 0) where
  -- the operation is the one at which the task stands
  op_is : (w n p v : ℕ) (task : Task A) (old new : Parts (TaskAgent A)) (s : StandsIn place advances w n p v task old new) → s.op ≡ op_at (place task.agent)
  op_is w n p v task old new s = sym (ap op_at (ap (λ (a : TaskAgent A). place a.agent) (sym s.task_is) ∙ s.stood.stood))

  is_planned : (w n p v start : ℕ) (task : Task A) (old new : Parts (TaskAgent A)) (q : Planned) (s : StandsIn place advances w n p v task old new) → IsPlanned place advances old task start q → planned (seen_in old) s.op start ≡ q
  is_planned w n p v start task old new q s e = ap (λ o. planned (seen_in old) o start) (op_is w n p v task old new s) ∙ e

  pub done_applies : DoneApplies place advances gives starts
  done_applies old new w n p v u m start k task task2 bank bank2 s counts lane plan becomes shards readys done =
      let b = branch_no (place task.agent) k in
      let alts = is_alts_at (place task.agent) in
      record {
        op = s.op;
        at = s.at;
        start = start;
        is_plan = is_planned w n p v start task old new _ s plan;
        is_event = tt;
        placed = s.placed;
        stands = s.stood;
        task_is = λ kind r e. absurd cc;
        port_is = s.port_is;
        wait_is = s.wait_is;
        counts = counts;
        has_parts = tt;
        runs_on = (
          agent_of task2,
          lane ∙ ap (λ (t : ℕ). Some (t, agent_of task2)) done.1.0,
          subst (λ (o : Option Kept). GoesOn gives alts s.stood.agent1 (reply_by alts (port_of b) (done_answer o b)) (agent_of task2)) (sym (shows_at old.bank (port_of b) (kept_at bank) becomes.was))
              (subst (λ (a : TaskAgent A). GoesOn gives alts a (reply_by alts (port_of b) (done_answer (kept_at bank (port_of b)) b)) (agent_of task2)) (sym s.task_is) done.1.1),
        );
        banks = turned old.bank new.bank (port_of b) (kept_at bank) (kept_at bank2) (option_map (done_change b)) becomes done.0.0;
        registries = s.registries;
        shards = shards;
        readys = readys;
        timers = s.timers;
      }

  pub meet_applies : MeetApplies place advances gives starts
  meet_applies old new w n p v u m start k wait o task task2 bank bank2 shard shard2 ready ready2 s counts lane plan banked sharded readied turns sets wakes answers =
      let b = branch_no (place task.agent) k in
      let alts = is_alts_at (place task.agent) in
      let shown = shows_at old.bank (port_of b) (kept_at bank) banked.was in
      record {
        op = s.op;
        at = s.at;
        start = start;
        is_plan = is_planned w n p v start task old new _ s plan;
        is_event = tt;
        placed = s.placed;
        stands = s.stood;
        task_is = λ kind r e. absurd cc;
        port_is = s.port_is;
        wait_is = s.wait_is;
        counts = counts;
        has_parts = (tasks_in ready, readied.was);
        runs_on = (
          agent_of task2,
          lane ∙ ap (λ (t : ℕ). Some (t, agent_of task2)) answers.0,
          subst (λ (z : Option Kept). GoesOn gives alts s.stood.agent1 (reply_by alts (port_of b) (told (side_of b) (passing z b))) (agent_of task2)) (sym shown)
              (subst (λ (a : TaskAgent A). GoesOn gives alts a (reply_by alts (port_of b) (told (side_of b) (passing (kept_at bank (port_of b)) b))) (agent_of task2)) (sym s.task_is) answers.1),
        );
        banks = turned old.bank new.bank (port_of b) (kept_at bank) (kept_at bank2) (option_map (pruned (other_side (side_of b)) 0)) banked turns.0;
        registries = s.registries;
        shards = turned old.shard new.shard wait (waits_of shard) (waits_of shard2) (λ z. None) sharded sets.0;
        readys = (
          subst (λ (z : Option (List (ℕ × TaskAgent A))). WakesBy place gives (whole old.shard wait) (port_of b) (told (other_side (side_of b)) (passing (whole old.bank (port_of b)) b)) z (new.ready w)) (sym readied.was)
              (subst (λ (z : Option (List (ℕ × TaskAgent A))). WakesBy place gives (whole old.shard wait) (port_of b) (told (other_side (side_of b)) (passing (whole old.bank (port_of b)) b)) (Some (tasks_in ready)) z) (sym readied.is)
              (subst (λ (z : Option Kept). WakesBy place gives (whole old.shard wait) (port_of b) (told (other_side (side_of b)) (passing z b)) (Some (tasks_in ready)) (Some (tasks_in ready2))) (sym shown)
              (subst (λ (z : Option (Parked (TaskAgent A))). WakesBy place gives z (port_of b) (told (other_side (side_of b)) (passing (kept_at bank (port_of b)) b)) (Some (tasks_in ready)) (Some (tasks_in ready2))) (sym (shows_at old.shard wait (waits_of shard) sharded.was)) wakes))),
          readied.others,
        );
        timers = s.timers;
      }

  pub park_applies : ParkApplies place advances gives starts
  park_applies old new w n p v u m start task bank bank2 shard shard2 s counts lane plan banked sharded readys turns sets =
      let b = branch_no (place task.agent) 0 in
      record {
        op = s.op;
        at = s.at;
        start = start;
        is_plan = is_planned w n p v start task old new _ s plan;
        is_event = tt;
        placed = s.placed;
        stands = s.stood;
        task_is = λ kind r e. absurd cc;
        port_is = s.port_is;
        wait_is = s.wait_is;
        counts = counts;
        has_parts = (waits_of shard, sharded.was);
        runs_on = lane;
        banks = turned old.bank new.bank (port_of b) (kept_at bank) (kept_at bank2) (option_map (enqueued (side_of b) (record { wait = v; branch = 0; value = brought b }))) banked turns.0;
        registries = s.registries;
        shards = λ i. turned old.shard new.shard v (waits_of shard) (waits_of shard2) (λ z. Some (owner task.number (waiting_as place (agent_of task)))) sharded sets.0 i ∙ ap (λ (a : TaskAgent A). changed_at v (λ z. Some (owner task.number (waiting_as place a))) old.shard i) (sym s.task_is);
        readys = readys;
        timers = s.timers;
      }

  pub post_applies : PostApplies place advances gives starts
  post_applies old new w n p v u m start task task2 bank bank2 shard shard2 s counts lane plan banked sharded readys turns sets goes =
      let b = branch_no (place task.agent) 0 in
      record {
        op = s.op;
        at = s.at;
        start = start;
        is_plan = is_planned w n p v start task old new _ s plan;
        is_event = tt;
        placed = s.placed;
        stands = s.stood;
        task_is = λ kind r e. absurd cc;
        port_is = s.port_is;
        wait_is = s.wait_is;
        counts = counts;
        has_parts = (waits_of shard, sharded.was);
        runs_on = (agent_of task2, lane ∙ ap (λ (t : ℕ). Some (t, agent_of task2)) goes.0, subst (λ (a : TaskAgent A). GoesOn gives false a (bool true) (agent_of task2)) (sym s.task_is) goes.1);
        banks = turned old.bank new.bank (port_of b) (kept_at bank) (kept_at bank2) (option_map (enqueued (side_of b) (record { wait = v; branch = 0; value = brought b }))) banked turns.0;
        registries = s.registries;
        shards = turned old.shard new.shard v (waits_of shard) (waits_of shard2) (λ z. Some nobody) sharded sets.0;
        readys = readys;
        timers = s.timers;
      }
