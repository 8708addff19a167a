-- Where a task's body has a value, faults, or is refused, its end is the only event of it that the meaning allows.
use Rattle.std.proofs.Common.{◌≡◌, ◌⊎◌, inl, inr, ⊎_elim, ℕ, sym, ap, ◌∙◌, subst, Option, Some, None, option_map}
use Rattle.ca_value.specs.Tree.{Tree, port}
use Rattle.ca_value.specs.declared.value.PortId.{PortId}
use Rattle.ca_term.specs.declared.event.Ending.TheVariants.{Ended, Faulted}
use Rattle.ca_term.specs.declared.fault.Fault.{Fault}
use Rattle.ca_term.specs.declared.place.Place.{Place}
use Rattle.ca_term.specs.Event.{EventView, closed, defaulted, done, made, met, over, parked, port_number, posted, printed, registered, settled, spawned, ticked}
use Rattle.ca_term.specs.Operation.{OpView, closing, making, posting, printing, registering, spawning}
use Rattle.ca_term.specs.Program.{ProgramView}
use Rattle.ca_meaning.specs.Body.{At, at_op, ended, faulted}
use Rattle.ca_meaning.specs.Going.{Runs, RunsAtOperation}
use Rattle.ca_meaning.specs.Refusal.{fault_at, refusal}
use Rattle.ca_meaning.specs.State.{State, Task}
use Rattle.ca_meaning.specs.Steps.{Step}
use Rattle.ca_meaning.specs.Task.{TaskBody, body_at}
use Rattle.ca_commit.specs.Agents.{TaskAgent}
use Rattle.ca_commit.specs.Deciding.{PlanTells, seen_in}
use Rattle.ca_commit.specs.Planning.{planned, to_refuse}
use Rattle.ca_commit.specs.Standing.{op_at}
use Rattle.ca_follow.specs.Ending.{IsTaskFault}
use Rattle.ca_follow.specs.Events.{task_of}
use Rattle.ca_follow.specs.Follows.{Follows, IsAt}
use Rattle.ca_follow.specs.Has.{Has, IsAll, parts_had}
use Rattle.ca_commit.proofs.PlanTold.{plan_tells}
use Rattle.ca_follow.proofs.OnlyShown.{follower_shows, place_is, refused_is}

same_fault : (x y : Fault × Place) → Some x ≡ Some y → x ≡ y
same_fault x y e = let same : x ≡ y = cc in same

module _ (s : State) (e : EventView) (t : ℕ) where
  -- the task stands at an operation
  abbrev pub IsStanding : Type 0
  IsStanding = (x : Task) × (op : OpView) × RunsAtOperation s t op x

  -- its body has a value, or a fault
  abbrev pub HasValue : Type 0
  HasValue = (e ≡ over t Ended) × ((x : Task) × (v : Tree) × Runs s.tasks t x × (body_at x.body ≡ ended v))

  abbrev pub HasFault : Type 0
  HasFault = (x : Task) × (f : Fault) × (at : Place) × (r : Option PortId) × Runs s.tasks t x × (fault_at s (body_at x.body) ≡ Some (f, at)) × (x.result ≡ option_map port_number r) × (e ≡ over t (Faulted f at r))

-- an event of a task is that of an operation, or an end
abbrev pub Acts : State → EventView → ℕ → Type 0
Acts s e t = IsStanding s e t ⊎ (HasValue s e t ⊎ HasFault s e t)

stands_there : (s : State) (e : EventView) (u t : ℕ) (x : Task) (op : OpView) → RunsAtOperation s u op x → Some u ≡ Some t → Acts s e t
stands_there s e u t x op st is = inl (subst (λ (n : ℕ). IsStanding s e n) (let same : u ≡ t = cc in same) (x, op, st))

pub acts : (program : ProgramView) (s s2 : State) (e : EventView) (t : ℕ) → Step program s e s2 → task_of e ≡ Some t → Acts s e t
acts program s s2 (made u p what moment) t step is = stands_there s (made u p what moment) u t step.0 (making what) step.2 is
acts program s s2 (spawned u c kind r) t step is = stands_there s (spawned u c kind r) u t step.0 (spawning step.1) step.4 is
acts program s s2 (done u k b v) t step is = stands_there s (done u k b v) u t step.0 step.1 step.4 is
acts program s s2 (met u k side p v w o) t step is = stands_there s (met u k side p v w o) u t step.0 step.1 step.6 is
acts program s s2 (parked u w bs) t step is = stands_there s (parked u w bs) u t step.0 step.1 step.2 is
acts program s s2 (posted u w p v) t step is = stands_there s (posted u w p v) u t step.0 (posting (port p) v) step.2 is
acts program s s2 (settled w k side p v) t step is = absurd cc
acts program s s2 (defaulted u v) t step is = stands_there s (defaulted u v) u t step.0 step.1 step.3 is
acts program s s2 (closed u p) t step is = stands_there s (closed u p) u t step.0 (closing (port p)) step.2 is
acts program s s2 (registered u name args v) t step is = stands_there s (registered u name args v) u t step.0 (registering name args) step.3 is
acts program s s2 (printed u line) t step is = stands_there s (printed u line) u t step.0 (printing line) step.2 is
acts program s s2 (ticked m ports) t step is = absurd cc
acts program s s2 (over u Ended) t step is = let same : u ≡ t = cc in inr (inl (ap (λ n. over n Ended) same, (step.0, step.1, subst (λ (n : ℕ). Runs s.tasks n step.0) same step.2, step.3)))
acts program s s2 (over u (Faulted f at r)) t step is = let same : u ≡ t = cc in inr (inr (step.0, f, at, r, subst (λ (n : ℕ). Runs s.tasks n step.0) same step.1, step.2, step.3, ap (λ n. over n (Faulted f at r)) same))

module _ {A : Type 0} (place : A → At) (stands : ProgramView → A → TaskBody → Type 0) (program : ProgramView) where
  -- where the agent is at a fault, or refused, an event of its task is that fault
  faults_so : (h : Has A) (s : State) (e : EventView) (t : ℕ) (a : TaskAgent A) (f : Fault) (at : Place) → IsAt place stands program h s t a → fault_at s (place a.agent) ≡ Some (f, at) → HasFault s e t → IsTaskFault e t f at a.result
  faults_so h s e t a f at is stood x = let here = place_is place stands program h s t a x.0 is x.4.0 in
      let same = same_fault (x.1, x.2) (f, at) (sym x.5 ∙ sym (ap (fault_at s) here.0) ∙ stood) in
      (x.3, x.7 ∙ ap (λ (z : Fault × Place). over t (Faulted z.0 z.1 x.3)) same, sym x.6 ∙ sym here.1)

  stands_apart : (h : Has A) (s : State) (e : EventView) (t : ℕ) (a : TaskAgent A) → IsAt place stands program h s t a → (x : IsStanding s e t) → place a.agent ≡ at_op (record { op = x.1; place = x.2.2.0 })
  stands_apart h s e t a is x = (place_is place stands program h s t a x.0 is x.2.0).0 ∙ x.2.2.1

  value_apart : (h : Has A) (s : State) (e : EventView) (t : ℕ) (a : TaskAgent A) → IsAt place stands program h s t a → (x : HasValue s e t) → place a.agent ≡ ended x.1.1
  value_apart h s e t a is x = (place_is place stands program h s t a x.1.0 is x.1.2.0).0 ∙ x.1.3

  pub only_refused : (h : Has A) (s s2 : State) (e : EventView) (t start : ℕ) (a : TaskAgent A) (op : OpView) (at : Place) (f : Fault)
      → Follows place stands program h s → IsAll h → IsAt place stands program h s t a → place a.agent ≡ at_op (record { op = op; place = at })
      → to_refuse f ≡ planned (seen_in (parts_had h)) op start → Step program s e s2 → task_of e ≡ Some t → IsTaskFault e t f at a.result
  only_refused h s s2 e t start a op at f follows all is stood plan step task = ⊎_elim standing (λ o. ⊎_elim value (λ x. faults_so h s e t a f at is at_fault x) o) (acts program s s2 e t step task) where
    refused : refusal s op ≡ Some f
    refused = refused_is (parts_had h) s (follower_shows place stands program h s follows) op f (subst (PlanTells (parts_had h) op) (sym plan) (plan_tells (parts_had h) op start))

    at_fault : fault_at s (place a.agent) ≡ Some (f, at)
    at_fault = ap (fault_at s) stood ∙ ap (λ (o : Option Fault). option_map (λ (g : Fault). (g, at)) o) refused

    standing : IsStanding s e t → IsTaskFault e t f at a.result
    standing x = absurd (let k = ap op_at (sym stood ∙ stands_apart h s e t a is x) in let c : Some f ≡ None = sym refused ∙ ap (refusal s) k ∙ x.2.3 in cc)

    value : HasValue s e t → IsTaskFault e t f at a.result
    value x = absurd (let k = sym stood ∙ value_apart h s e t a is x in cc)

  pub only_ended : (h : Has A) (s s2 : State) (e : EventView) (t : ℕ) (a : TaskAgent A) (v : Tree)
      → IsAt place stands program h s t a → place a.agent ≡ ended v → Step program s e s2 → task_of e ≡ Some t → e ≡ over t Ended
  only_ended h s s2 e t a v is stood step task = ⊎_elim standing (λ o. ⊎_elim (λ x. x.0) fault o) (acts program s s2 e t step task) where
    standing : IsStanding s e t → e ≡ over t Ended
    standing x = absurd (let k = sym stood ∙ stands_apart h s e t a is x in cc)

    fault : HasFault s e t → e ≡ over t Ended
    fault x = absurd (let k : ◌≡◌ {A = Option (Fault × Place)} None (Some (x.1, x.2)) = ap (fault_at s) (sym stood ∙ (place_is place stands program h s t a x.0 is x.4.0).0) ∙ x.5 in cc)

  pub only_faulted : (h : Has A) (s s2 : State) (e : EventView) (t : ℕ) (a : TaskAgent A) (f : Fault) (at : Place)
      → IsAt place stands program h s t a → place a.agent ≡ faulted f at → Step program s e s2 → task_of e ≡ Some t → IsTaskFault e t f at a.result
  only_faulted h s s2 e t a f at is stood step task = ⊎_elim standing (λ o. ⊎_elim value (λ x. faults_so h s e t a f at is (ap (fault_at s) stood) x) o) (acts program s s2 e t step task) where
    standing : IsStanding s e t → IsTaskFault e t f at a.result
    standing x = absurd (let k = sym stood ∙ stands_apart h s e t a is x in cc)

    value : HasValue s e t → IsTaskFault e t f at a.result
    value x = absurd (let k = sym stood ∙ value_apart h s e t a is x in cc)

  -- a task that has an event can go on
  pub only_running : (h : Has A) (s s2 : State) (e : EventView) (t : ℕ) → Follows place stands program h s → Step program s e s2 → task_of e ≡ Some t → (a : TaskAgent A) × (h.running t ≡ Some a)
  only_running h s s2 e t follows step task = ⊎_elim (λ x. follows.runs t x.0 (x.2.0, x.2.1)) (λ o. ⊎_elim (λ x. follows.runs t x.1.0 x.1.2) (λ x. follows.runs t x.0 x.4) o) (acts program s s2 e t step task)
