-- A task that goes on to its next pause: it is taken out, and what is had without it stands for the same states.
use Rattle.std.proofs.Common.{◌≡◌, ℕ, refl, sym, ap, ◌∙◌, subst, Bool, true, false, cond, Option, Some, None, option_map, eqb}
use Rattle.std.specs.Map.{update}
use Rattle.std.proofs.lemmas.Map.{update_here}
use Rattle.ca_value.specs.declared.value.PortId.{PortId}
use Rattle.ca_term.specs.Event.{EventView, port_number}
use Rattle.ca_term.specs.Program.{ProgramView}
use Rattle.ca_meaning.specs.State.{State}
use Rattle.ca_states.specs.Code.{CodeView}
use Rattle.ca_states.specs.ValidCode.{valid_code}
use Rattle.ca_lower.specs.Lowered.{Lowered}
use Rattle.ca_commit.specs.Agents.{TaskAgent, advances_of}
use Rattle.ca_commit.specs.Tasks.{agent_of}
use Rattle.ca_commit.specs.declared.task.Task.{Task}
use Rattle.ca_commit.proofs.Joining.{twice}
use Rattle.ca_commit.proofs.Laid.{same_map}
use Rattle.ca_tasks.specs.TaskLaws.{task_advanced}
use Rattle.ca_tasks.specs.Tasks.{advances, task_over_code, place, stands}
use Rattle.ca_tasks.specs.declared.task.AnyTask.{AnyTask}
use Rattle.ca_follow.specs.Events.{task_of}
use Rattle.ca_follow.specs.Follower.{IsBehind, IsFollower, IsMadeFor, Leads, LeadsBehind, Refuses, RefusesBehind, FollowerStands, has, is_known_task, running_in, with_task}
use Rattle.ca_follow.specs.Follows.{Follows, IsAt}
use Rattle.ca_follow.specs.Has.{Has}
use Rattle.ca_follow.specs.declared.follower.Follower.{Follower}
use Rattle.ca_follow.specs.declared.tasks.Tasks.{Tasks}
use Rattle.ca_follow.proofs.Going.{advanced_follows}
use Rattle.ca_follow.proofs.Leading.{same_has}
use Rattle.ca_follow.proofs.OnlyEnds.{only_running}
use Rattle.ca_follow.proofs.Tracked.{none_there}

-- the follower without a task that was taken out is one
pub follower_taken : (f : Follower) (tasks : Tasks) (number : ℕ) → IsFollower f → ((t : ℕ) → running_in tasks t ≡ update eqb (running_in f.tasks) number None t) → IsFollower (record f { tasks = tasks })
follower_taken f tasks number is taken = record {
  all = record {
    banks = is.all.banks;
    registries = is.all.registries;
    shards = is.all.shards;
    bank_placed = is.all.bank_placed;
    registry_placed = is.all.registry_placed;
    shard_placed = is.all.shard_placed;
  };
  timers = is.timers;
  ready = is.ready;
  over_code = record { running = λ t a e. by t a (eqb number t) (sym (taken t) ∙ e); waiting = is.over_code.waiting };
  paused = is.paused;
} where
  by : (t : ℕ) (a : TaskAgent AnyTask) (b : Bool) → cond b None (running_in f.tasks t) ≡ Some a → task_over_code (valid_code f.code.now) a.agent
  by t a true e = absurd (let z : None ≡ Some a = e in cc)
  by t a false e = is.over_code.running t a e

module _ (h g : Has AnyTask) (t : ℕ) (a0 a : TaskAgent AnyTask) (rest : (running : ℕ → Option (TaskAgent AnyTask)) → record g { running = running } ≡ record h { running = running }) (taken : (v : ℕ) → g.running v ≡ update eqb h.running t None v) where
  -- what it has beside the task, and the task
  put_back : record h { running = update eqb h.running t (Some a) } ≡ with_task t a g
  put_back = ap (λ (f : ℕ → Option (TaskAgent AnyTask)). record h { running = f }) (sym (twice h.running t None (Some a)) ∙ ap (λ (f : ℕ → Option (TaskAgent AnyTask)). update eqb f t (Some a)) (sym (same_map g.running (update eqb h.running t None) taken)))
      ∙ sym (rest (update eqb g.running t (Some a)))

  pub goes_behind : (program : ProgramView) (s : State) → FollowerStands program h s → h.running t ≡ Some a0 → advances_of advances program a0 a → IsBehind program g t a s
  goes_behind program s st is adv =
      let k = advanced_follows place stands program advances task_advanced h s t a0 a st.follows is adv in record {
        out = taken t ∙ update_here h.running t None;
        stands = record { follows = subst (λ (z : Has AnyTask). Follows place stands program z s) put_back k.0; values = st.values };
        here = subst (λ (z : Has AnyTask). IsAt place stands program z s t a) put_back k.1;
      }

module _ (code : CodeView) (e : EventView) (h g : Has AnyTask) (t : ℕ) (a : TaskAgent AnyTask) (goes : (program : ProgramView) (s : State) → IsMadeFor program code → FollowerStands program h s → IsBehind program g t a s) where
  -- so what leads on from there leads on
  pub leads_from : (h2 : Has AnyTask) → LeadsBehind code e g t a h2 → Leads code e h h2
  leads_from h2 leads program s lowered st = leads program s lowered (goes program s lowered st)

  pub refuses_from : RefusesBehind code e g t a → Refuses code e h
  refuses_from refuses program s s2 lowered st step = refuses program s s2 lowered (goes program s lowered st) step

-- no task that can't go on has an event
pub refuses_none : (code : CodeView) (e : EventView) (h : Has AnyTask) (t : ℕ) → h.running t ≡ None → task_of e ≡ Some t → Refuses code e h
refuses_none code e h t none mine program s s2 lowered st step = let k = only_running place stands program h s s2 e t st.follows step mine in none_there (h.running t) k.0 none k.1

-- the task that was taken out of a follower and went on is behind
pub paused_behind : (old : Follower) (tasks : Tasks) (number : ℕ) (first later : Task AnyTask) → first.number ≡ number → Some (agent_of first) ≡ running_in old.tasks number → ((t : ℕ) → running_in tasks t ≡ update eqb (running_in old.tasks) number None t)
    → ((t : ℕ) → is_known_task tasks t ≡ is_known_task old.tasks t) → later.number ≡ first.number → later.result ≡ first.result → later.alts ≡ first.alts
    → ((program : ProgramView) → Lowered program (valid_code old.code.now) → advances program first.agent later.agent)
    → (program : ProgramView) (s : State) → IsMadeFor program (valid_code old.code.now) → FollowerStands program (has old) s → IsBehind program (has (record old { tasks = tasks })) later.number (agent_of later) s
paused_behind old tasks number first later same is taken known counted result alts adv program s lowered st =
    subst (λ (n : ℕ). IsBehind program (has (record old { tasks = tasks })) n (agent_of later) s) (sym (counted ∙ same))
    (goes_behind (has old) (has (record old { tasks = tasks })) number (agent_of first) (agent_of later)
    (λ running. same_has (record (has (record old { tasks = tasks })) { running = running }) (record (has old) { running = running }) (λ i. refl) (λ i. refl) (λ i. refl) refl (λ v. refl) known (λ v. refl))
    taken program s st (sym is) (ap (λ (o : Option PortId). option_map port_number o) result, alts, adv program lowered.lowered))
