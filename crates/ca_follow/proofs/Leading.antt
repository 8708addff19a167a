-- Where the event that a follower makes is the journal's, that one leads on; where it isn't, the journal's leads nowhere.
use Rattle.std.proofs.Common.{⊎_elim, ◌≡◌, ℕ, ◌<◌, ◌≤◌, List, [], refl, sym, ap, ◌∙◌, subst, Option, Some, None, option_map, eqb}
use Rattle.std.specs.Prelude.{◌≢◌}
use Rattle.std.specs.Map.{update}
use Rattle.ca_value.specs.IsValue.{any}
use Rattle.ca_value.specs.Tree.{Tree}
use Rattle.ca_value.specs.declared.value.PortId.{PortId}
use Rattle.ca_term.specs.Event.{EventView, made, spawned, done, met, parked, posted, settled, defaulted, closed, registered, printed, ticked, over as is_end, port_number}
use Rattle.ca_term.specs.Program.{IsProgram, ProgramView}
use Rattle.ca_term.specs.declared.event.Ending.TheVariants.{Ended, Faulted}
use Rattle.ca_term.specs.declared.event.Side.{Side}
use Rattle.ca_term.specs.declared.fault.Fault.{Fault}
use Rattle.ca_term.specs.declared.place.Place.{Place}
use Rattle.ca_meaning.specs.Body.{ended, faulted}
use Rattle.ca_meaning.specs.RunValues.{Holds}
use Rattle.ca_meaning.specs.State.{State, due}
use Rattle.ca_meaning.specs.Steps.{Step}
use Rattle.ca_meaning.specs.TaskSteps.{moments}
use Rattle.ca_meaning.proofs.ValueRuns.{step_holds}
use Rattle.ca_meaning.proofs.ValuesWritten.{any_program, written_of}
use Rattle.ca_states.specs.Code.{CodeView}
use Rattle.ca_commit.specs.Agents.{TaskAgent}
use Rattle.ca_commit.specs.Contents.{whole}
use Rattle.ca_commit.specs.Deciding.{PlanTells}
use Rattle.ca_commit.specs.Finding.{glance, settle_at}
use Rattle.ca_commit.specs.NewPort.{Times}
use Rattle.ca_commit.specs.Planning.{Planned}
use Rattle.ca_commit.specs.Settling.{value_settled}
use Rattle.ca_commit.specs.Ticking.{closed_all, closed_result, ticked_at}
use Rattle.ca_commit.proofs.Joining.{twice}
use Rattle.ca_commit.proofs.Laid.{none_put}
use Rattle.ca_commit.proofs.PlanTold.{plan_tells}
use Rattle.ca_tasks.specs.TaskLaws.{task_answered}
use Rattle.ca_tasks.specs.Tasks.{gives, place, stands}
use Rattle.ca_tasks.specs.declared.task.AnyTask.{AnyTask}
use Rattle.ca_follow.specs.Events.{task_of}
use Rattle.ca_follow.specs.Follower.{IsPlanRefused, IsSettleOf, IsTickOf, Leads, LeadsBehind, MayFault, Refuses, RefusesBehind, FollowerStands, with_task}
use Rattle.ca_follow.specs.Follows.{Follows}
use Rattle.ca_follow.specs.Has.{Has, IsAll, parts_had}
use Rattle.ca_follow.specs.Settles.{SettlesTo}
use Rattle.ca_follow.proofs.Ends.{ended_follows, faulted_follows, refused_follows, ticked_follows}
use Rattle.ca_follow.specs.Ending.{IsTaskFault, TicksOnly}
use Rattle.ca_follow.specs.Settles.{ServesOnly}
use Rattle.ca_follow.proofs.OnlyEnds.{only_ended, only_faulted, only_refused}
use Rattle.ca_follow.proofs.OnlySettled.{only_settled, only_ticked}
use Rattle.ca_follow.proofs.Served.{settled_follows}

-- what is had is what it shows
pub same_has : {A : Type 0} (h g : Has A) → ((i : ℕ) → h.bank i ≡ g.bank i) → ((i : ℕ) → h.registry i ≡ g.registry i) → ((i : ℕ) → h.shard i ≡ g.shard i) → h.times ≡ g.times
    → ((v : ℕ) → h.running v ≡ g.running v) → ((v : ℕ) → h.known v ≡ g.known v) → ((v : ℕ) → h.used v ≡ g.used v) → h ≡ g
same_has h g bank registry shard times running known used = λ i. record {
  bank = λ n. bank n i;
  registry = λ n. registry n i;
  shard = λ n. shard n i;
  times = times i;
  running = λ v. running v i;
  known = λ v. known v i;
  used = λ v. used v i;
}

-- a port is its number
pub one_port : (r q : Option PortId) → option_map port_number r ≡ option_map port_number q → r ≡ q
one_port None None e = refl
one_port None (Some q) e = absurd cc
one_port (Some r) None e = absurd cc
one_port (Some r) (Some q) e = let n : r.n ≡ q.n = cc in let f : ℕ → Option PortId = λ k. Some (record { n = k }) in ap f n

-- a step that is followed is one between states whose values are values
led : (program : ProgramView) (s : State) (e : EventView) (h2 : Has AnyTask) → IsProgram program → Holds any s → (s2 : State) × Step program s e s2 × Follows place stands program h2 s2 → (s2 : State) × Step program s e s2 × FollowerStands program h2 s2
led program s e h2 checked values x =
    (x.0, x.1, record { follows = x.2; values = (step_holds any program (written_of any program checked (any_program program)) s x.0 e x.1 values).0 })

-- the event and what is had may be told otherwise
leads_as : (program : ProgramView) (s : State) (e e2 : EventView) (h h2 : Has AnyTask) → e ≡ e2 → h ≡ h2 → (s2 : State) × Step program s e s2 × Follows place stands program h s2 → (s2 : State) × Step program s e2 s2 × Follows place stands program h2 s2
leads_as program s e e2 h h2 same_event same x =
    (x.0, subst (λ (z : EventView). Step program s z x.0) same_event x.1, subst (λ (z : Has AnyTask). Follows place stands program z x.0) same x.2)

-- all is held, whoever can go on
pub all_with : (h : Has AnyTask) (t : ℕ) (a : TaskAgent AnyTask) → IsAll h → IsAll (with_task t a h)
all_with h t a all = record {
  banks = all.banks;
  registries = all.registries;
  shards = all.shards;
  bank_placed = all.bank_placed;
  registry_placed = all.registry_placed;
  shard_placed = all.shard_placed;
}

module _ (code : CodeView) (e : EventView) (h : Has AnyTask) (t : ℕ) (a : TaskAgent AnyTask) where
  -- a task that was taken out and is over is there no more
  gone : h.running t ≡ None → update eqb (update eqb h.running t (Some a)) t None ≡ h.running
  gone out = twice h.running t (Some a) None ∙ none_put h.running t out

  pub end_leads : (v : Tree) → place a.agent ≡ ended v → is_end t Ended ≡ e → LeadsBehind code e h t a h
  end_leads v at is program s lowered b = led program s e h lowered.checked b.stands.values
      (leads_as program s (is_end t Ended) e (record h { running = update eqb (update eqb h.running t (Some a)) t None }) h is (ap (λ (f : ℕ → Option (TaskAgent AnyTask)). record h { running = f }) (gone b.out))
      (ended_follows place stands program (with_task t a h) s t a v b.stands.follows b.here at))

  pub end_refuses : (v : Tree) → place a.agent ≡ ended v → task_of e ≡ Some t → (is_end t Ended ≡ e → ⊥) → RefusesBehind code e h t a
  end_refuses v at mine isnt program s s2 lowered b step = isnt (sym (only_ended place stands program (with_task t a h) s s2 e t a v b.here at step mine))

  module _ (f : Fault) (at : Place) (r : Option PortId) (all : IsAll h) (may : MayFault h a f at) (port : option_map port_number r ≡ a.result) where
    pub fault_leads : (h2 : Has AnyTask) → is_end t (Faulted f at r) ≡ e → record h { bank = closed_result a.result h.bank } ≡ h2 → LeadsBehind code e h t a h2
    fault_leads h2 is new program s lowered b = led program s e h2 lowered.checked b.stands.values
        (leads_as program s (is_end t (Faulted f at r)) e (record h { running = update eqb (update eqb h.running t (Some a)) t None; bank = closed_result a.result h.bank }) h2 is
        (ap (λ (g : ℕ → Option (TaskAgent AnyTask)). record h { running = g; bank = closed_result a.result h.bank }) (gone b.out) ∙ new)
        (⊎_elim stood refused may)) where
          stood : place a.agent ≡ faulted f at → (s2 : State) × Step program s (is_end t (Faulted f at r)) s2 × Follows place stands program (record h { running = update eqb (update eqb h.running t (Some a)) t None; bank = closed_result a.result h.bank }) s2
          stood x = faulted_follows place stands program (with_task t a h) s t a f at r b.stands.follows (all_with h t a all) b.here port x

          refused : IsPlanRefused h a f at → (s2 : State) × Step program s (is_end t (Faulted f at r)) s2 × Follows place stands program (record h { running = update eqb (update eqb h.running t (Some a)) t None; bank = closed_result a.result h.bank }) s2
          refused x = refused_follows place stands program (with_task t a h) s t a x.0 f at r b.stands.follows (all_with h t a all) b.here port x.2
              (subst (λ (q : Planned). PlanTells (parts_had h) x.0 q) x.3 (plan_tells (parts_had h) x.0 x.1))

    pub fault_refuses : task_of e ≡ Some t → (is_end t (Faulted f at r) ≡ e → ⊥) → RefusesBehind code e h t a
    fault_refuses mine isnt program s s2 lowered b step = by (⊎_elim stood refused may) where
      by : IsTaskFault e t f at a.result → ⊥
      by x = isnt (ap (λ (q : Option PortId). is_end t (Faulted f at q)) (one_port r x.0 (port ∙ sym x.2)) ∙ sym x.1)

      stood : place a.agent ≡ faulted f at → IsTaskFault e t f at a.result
      stood x = only_faulted place stands program (with_task t a h) s s2 e t a f at b.here x step mine

      refused : IsPlanRefused h a f at → IsTaskFault e t f at a.result
      refused x = only_refused place stands program (with_task t a h) s s2 e t x.1 a x.0 at f b.stands.follows (all_with h t a all) b.here x.2 (sym x.3) step mine

module _ (code : CodeView) where
  pub tick_leads : (e : EventView) (h h2 : Has AnyTask) (m : ℕ) (ports : List ℕ) (c : Times) → IsAll h → h.times ≡ Some c → c.now ≤ m → m < moments → due m c.deadlines ≡ ports → ports ≢ []
      → ticked m ports ≡ e → record h { bank = closed_all ports h.bank; times = option_map (ticked_at m) h.times } ≡ h2 → Leads code e h h2
  tick_leads e h h2 m ports c all has late bound is some same new program s lowered st = led program s e h2 lowered.checked st.values
      (leads_as program s (ticked m ports) e (record h { bank = closed_all ports h.bank; times = option_map (ticked_at m) h.times }) h2 same new
      (ticked_follows place stands program h s m ports c st.follows all has late bound is some))

  -- the event is no tick of moment m
  pub tick_refuses : (e : EventView) (h : Has AnyTask) (m : ℕ) → IsTickOf m e → ((ports : List ℕ) → TicksOnly m ports h.times → ticked m ports ≡ e → ⊥) → Refuses code e h
  tick_refuses (made t p what moment) h m is isnt program s s2 lowered st step = is
  tick_refuses (spawned t u kind r) h m is isnt program s s2 lowered st step = is
  tick_refuses (done t k b v) h m is isnt program s s2 lowered st step = is
  tick_refuses (met t k side p v w o) h m is isnt program s s2 lowered st step = is
  tick_refuses (parked t w bs) h m is isnt program s s2 lowered st step = is
  tick_refuses (posted t w p v) h m is isnt program s s2 lowered st step = is
  tick_refuses (settled w k side p v) h m is isnt program s s2 lowered st step = is
  tick_refuses (defaulted t v) h m is isnt program s s2 lowered st step = is
  tick_refuses (closed t p) h m is isnt program s s2 lowered st step = is
  tick_refuses (registered t name args v) h m is isnt program s s2 lowered st step = is
  tick_refuses (printed t line) h m is isnt program s s2 lowered st step = is
  tick_refuses (ticked n ports) h m is isnt program s s2 lowered st step = isnt ports
      (subst (λ (z : ℕ). TicksOnly z ports h.times) is (only_ticked place stands program h s s2 n ports st.follows step)) (ap (λ (z : ℕ). ticked z ports) (sym is))
  tick_refuses (is_end t how) h m is isnt program s s2 lowered st step = is

  -- channel p served a branch, once stale handlers were gone
  pub settle_leads : (e : EventView) (h h1 h2 : Has AnyTask) (p : ℕ) (side : Side) (w o : ℕ) → ((program : ProgramView) (s : State) → FollowerStands program h s → FollowerStands program h1 s) → SettlesTo place gives p side w o h1 h2
      → settled w o side p (value_settled side (whole h1.bank p)) ≡ e → Leads code e h h2
  settle_leads e h h1 h2 p side w o keeps x same program s lowered st = let st1 = keeps program s st in led program s e h2 lowered.checked st1.values
      (leads_as program s (settled w o side p (value_settled side (whole h1.bank p))) e h2 h2 same refl (settled_follows place stands program gives task_answered h1 h2 s p side w o st1.follows x))

  pub settle_refuses : (e : EventView) (h h1 : Has AnyTask) (p : ℕ) → ((program : ProgramView) (s : State) → FollowerStands program h s → FollowerStands program h1 s) → IsAll h1 → IsSettleOf p e
      → ((w k : ℕ) (side : Side) (v : Tree) → ServesOnly w k side v (whole h1.bank p) (settle_at (glance h1.shard) (whole h1.bank p)) → settled w k side p v ≡ e → ⊥) → Refuses code e h
  settle_refuses (made t q what moment) h h1 p keeps all is isnt program s s2 lowered st step = is
  settle_refuses (spawned t u kind r) h h1 p keeps all is isnt program s s2 lowered st step = is
  settle_refuses (done t k b v) h h1 p keeps all is isnt program s s2 lowered st step = is
  settle_refuses (met t k side q v w o) h h1 p keeps all is isnt program s s2 lowered st step = is
  settle_refuses (parked t w bs) h h1 p keeps all is isnt program s s2 lowered st step = is
  settle_refuses (posted t w q v) h h1 p keeps all is isnt program s s2 lowered st step = is
  settle_refuses (settled w k side q v) h h1 p keeps all is isnt program s s2 lowered st step = isnt w k side v
      (subst (λ (z : ℕ). ServesOnly w k side v (whole h1.bank z) (settle_at (glance h1.shard) (whole h1.bank z))) is (only_settled place stands program h1 s s2 w k q side v (keeps program s st).follows all step))
      (ap (λ (z : ℕ). settled w k side z v) (sym is))
  settle_refuses (defaulted t v) h h1 p keeps all is isnt program s s2 lowered st step = is
  settle_refuses (closed t q) h h1 p keeps all is isnt program s s2 lowered st step = is
  settle_refuses (registered t name args v) h h1 p keeps all is isnt program s s2 lowered st step = is
  settle_refuses (printed t line) h h1 p keeps all is isnt program s s2 lowered st step = is
  settle_refuses (ticked n ports) h h1 p keeps all is isnt program s s2 lowered st step = is
  settle_refuses (is_end t how) h h1 p keeps all is isnt program s s2 lowered st step = is
