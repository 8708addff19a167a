-- The event that a follower makes of a plan is the only one of its task that the meaning allows.
use Rattle.std.proofs.Common.{◌≡◌, ℕ, refl, sym, ap, ◌∙◌, subst, Option, Some, None, option_map}
use Rattle.ca_value.specs.Tree.{Tree, Trees, port}
use Rattle.ca_term.specs.declared.event.Ending.TheVariants.{Ended, Faulted}
use Rattle.ca_term.specs.declared.fault.Fault.{Fault}
use Rattle.ca_term.specs.declared.head.RegisterName.{RegisterName}
use Rattle.ca_term.specs.declared.place.Place.{Place}
use Rattle.ca_term.specs.Event.{EventView, closed, defaulted, done, made, met, over, parked, posted, printed, registered, settled, spawned, ticked}
use Rattle.ca_term.specs.Operation.{OpView, WhatView, closing, fixed, dropping, making, mix, mult, posting, printing, promise, publication, registering, sliding, spawning, timeout, unbuffered}
use Rattle.ca_term.specs.Program.{ProgramView}
use Rattle.ca_meaning.specs.Body.{At, at_op}
use Rattle.ca_meaning.specs.Going.{RunsAtOperation}
use Rattle.ca_meaning.specs.Operands.{rest_of}
use Rattle.ca_meaning.specs.Refusal.{fault_at, refusal, registering_gives}
use Rattle.ca_meaning.specs.Registry.{Registry, answers}
use Rattle.ca_meaning.specs.State.{State, Task}
use Rattle.ca_meaning.specs.Steps.{Step}
use Rattle.ca_meaning.specs.Task.{TaskBody}
use Rattle.ca_meaning.specs.TaskSteps.{IsMoment, kind_of, result_of}
use Rattle.ca_meaning.specs.Wait.{port_of, side_of}
use Rattle.ca_registry.specs.Registries.{answered}
use Rattle.ca_commit.specs.Agents.{TaskAgent}
use Rattle.ca_commit.specs.Applying.{IsEvent, event_of}
use Rattle.ca_commit.specs.Contents.{Parts, whole}
use Rattle.ca_commit.specs.Deciding.{PlanTells, seen_in}
use Rattle.ca_commit.specs.Entering.{answer_of, registry_of}
use Rattle.ca_commit.specs.NewPort.{moment_for}
use Rattle.ca_commit.specs.Planning.{Planned, fitting, planned, to_register}
use Rattle.ca_commit.specs.Replies.{or_nil}
use Rattle.ca_commit.proofs.PlanTold.{plan_tells}
use Rattle.ca_commit.proofs.Shown.{Shown, shows}
use Rattle.ca_follow.specs.Events.{IsMomentOf, Numbers, event_start, task_of}
use Rattle.ca_follow.specs.Follows.{Follows, IsAt}
use Rattle.ca_follow.specs.Has.{Has, IsAll, parts_had}
use Rattle.ca_follow.proofs.OnlyChosen.{defaulted_only, done_only, met_only, parked_only, posted_only}
use Rattle.ca_follow.proofs.OnlyShown.{event_fits, follower_shows, op_is, part_of_itself, place_is, plan_fits}

-- the moment of a making
moment_is : (now m : ℕ) (what : WhatView) (moment : Option ℕ) → IsMoment now what moment → IsMomentOf moment m → moment_for what m ≡ moment
moment_is now m (timeout n) (Some x) is at = ap Some at
moment_is now m (timeout n) None is at = absurd is
moment_is now m unbuffered moment is at = sym is
moment_is now m (fixed n) moment is at = sym is
moment_is now m (dropping n) moment is at = sym is
moment_is now m (sliding n) moment is at = sym is
moment_is now m promise moment is at = sym is
moment_is now m (mult source) moment is at = sym is
moment_is now m (mix out changes) moment is at = sym is
moment_is now m (publication source) moment is at = sym is

-- the answer of a registry is that of the table
answer_is : {A : Type 0} (h : Parts A) (s : State) → Shown h s → (name : RegisterName) (args : Trees) (v : Tree) (r : Registry) → PlanTells h (registering name args) (to_register name args) → registering_gives s name args ≡ answers v r
    → answer_of (whole h.registry (registry_of args)) name (rest_of args) ≡ v
answer_is h s shown name args v r t e =
    let c : answers t.2.answer t.2.after ≡ answers v r = sym (t.2.by_table s (shows h h s shown (part_of_itself h))) ∙ e in
    let same : t.2.answer ≡ v = cc in
    ap (λ o. answer_of o name (rest_of args)) t.2.there ∙ ap (λ o. or_nil (answered o)) t.2.by_bank ∙ same

module _ {A : Type 0} (place : A → At) (stands : ProgramView → A → TaskBody → Type 0) (program : ProgramView) where
  -- what is known of an event's task: its plan, at the operation at which it stands in the state
  record IsMaking (h : Has A) (s : State) (e : EventView) (t : ℕ) (q : Planned) : Type 0 where
    shown : Shown (parts_had h) s
    agent : TaskAgent A
    op : OpView
    at : Place
    is_at : IsAt place stands program h s t agent
    stood : place agent.agent ≡ at_op (record { op = op; place = at })
    plan : q ≡ planned (seen_in (parts_had h)) op (event_start e)
    event : IsEvent q
    task : task_of e ≡ Some t

  -- so the plan is what the operation comes to
  plan_is : (h : Has A) (s : State) (e : EventView) (u t : ℕ) (q : Planned) (x : Task) (op : OpView) → (k : IsMaking h s e t q) → task_of e ≡ Some u → RunsAtOperation s u op x → q ≡ fitting (seen_in (parts_had h)) op (event_start e)
  plan_is h s e u t q x op k is st =
      let same : u ≡ t = let c : Some u ≡ Some t = sym is ∙ k.task in cc in
      let here = op_is place stands program h s t k.agent k.op op k.at x k.is_at k.stood (subst (λ (n : ℕ). RunsAtOperation s n op x) same st) in
      k.plan ∙ ap (λ o. planned (seen_in (parts_had h)) o (event_start e)) here ∙ plan_fits (parts_had h) s k.shown op (event_start e) st.3

  is_fitting : (h : Has A) (s : State) (e : EventView) (u t : ℕ) (q : Planned) (x : Task) (op : OpView) → (k : IsMaking h s e t q) → task_of e ≡ Some u → RunsAtOperation s u op x → IsEvent (fitting (seen_in (parts_had h)) op (event_start e))
  is_fitting h s e u t q x op k is st = subst IsEvent (plan_is h s e u t q x op k is st) k.event

  same_task : (e : EventView) (v t : ℕ) → task_of e ≡ Some v → task_of e ≡ Some t → t ≡ v
  same_task e v t is task = let c : Some t ≡ Some v = sym task ∙ is in cc

  not_refused : (h : Has A) (s : State) (e : EventView) (t : ℕ) (q : Planned) (k : IsMaking h s e t q) → refusal s k.op ≡ None
  not_refused h s e t q k = event_fits (parts_had h) s k.shown k.op q (subst (PlanTells (parts_had h) k.op) (sym k.plan) (plan_tells (parts_had h) k.op (event_start e))) k.event

  made_only : (h : Has A) (s s2 : State) (e : EventView) (t u p w m : ℕ) (q : Planned) → IsMaking h s e t q → Step program s e s2 → Numbers e u p w m → event_of h.bank h.registry t u p w m q ≡ e
  made_only h s s2 (made v z what moment) t u p w m q k step n =
      let is = plan_is h s (made v z what moment) v t q step.0 (making what) k refl step.2 in
      let task = same_task (made v z what moment) v t refl k.task in
      let at = moment_is s.now m what moment step.5 n.1 in
      ap (event_of h.bank h.registry t u p w m) is ∙ ap (λ y. made y p what (moment_for what m)) task ∙ ap (λ y. made v y what (moment_for what m)) n.0 ∙ ap (made v z what) at
  made_only h s s2 (spawned v c kind r) t u p w m q k step n =
      let is = plan_is h s (spawned v c kind r) v t q step.0 (spawning step.1) k refl step.4 in
      let task = same_task (spawned v c kind r) v t refl k.task in
      ap (event_of h.bank h.registry t u p w m) is ∙ ap (λ y. spawned y u (kind_of step.1) (result_of step.1)) task
      ∙ ap (λ y. spawned v y (kind_of step.1) (result_of step.1)) n ∙ ap (λ y. spawned v c y (result_of step.1)) step.6 ∙ ap (spawned v c kind) step.7
  made_only h s s2 (done v i b a) t u p w m q k step n =
      let is = plan_is h s (done v i b a) v t q step.0 step.1 k refl step.4 in
      let task = same_task (done v i b a) v t refl k.task in
      ap (event_of h.bank h.registry t u p w m) is ∙ done_only (parts_had h) s k.shown t u p w m i step.1 b a step.3 step.5 step.6 (is_fitting h s (done v i b a) v t q step.0 step.1 k refl step.4) ∙ ap (λ y. done y i b a) task
  made_only h s s2 (met v i side z a x o) t u p w m q k step n =
      let is = plan_is h s (met v i side z a x o) v t q step.0 step.1 k refl step.6 in
      let task = same_task (met v i side z a x o) v t refl k.task in
      let b = step.2 in let g = step.3 in
      ap (event_of h.bank h.registry t u p w m) is ∙ met_only (parts_had h) s k.shown t u p w m i step.1 b g a step.7 step.10 (is_fitting h s (met v i side z a x o) v t q step.0 step.1 k refl step.6)
      ∙ ap (λ y. met y i (side_of b) (port_of b) a g.wait g.branch) task
      ∙ ap (λ y. met v i y (port_of b) a g.wait g.branch) step.8 ∙ ap (λ y. met v i side y a g.wait g.branch) step.9
      ∙ ap (λ y. met v i side z a y g.branch) step.11 ∙ ap (λ y. met v i side z a x y) step.12
  made_only h s s2 (parked v x bs) t u p w m q k step n =
      let is = plan_is h s (parked v x bs) v t q step.0 step.1 k refl step.2 in
      let task = same_task (parked v x bs) v t refl k.task in
      ap (event_of h.bank h.registry t u p w m) (is ∙ parked_only (parts_had h) s k.shown step.1 0 bs step.3 step.4 step.5 step.6 (is_fitting h s (parked v x bs) v t q step.0 step.1 k refl step.2))
      ∙ ap (λ y. parked y w bs) task ∙ ap (λ y. parked v y bs) n
  made_only h s s2 (posted v x z a) t u p w m q k step n =
      let is = plan_is h s (posted v x z a) v t q step.0 (posting (port z) a) k refl step.2 in
      let task = same_task (posted v x z a) v t refl k.task in
      ap (event_of h.bank h.registry t u p w m) (is ∙ posted_only (parts_had h) s k.shown z 0 a step.3 (is_fitting h s (posted v x z a) v t q step.0 (posting (port z) a) k refl step.2))
      ∙ ap (λ y. posted y w z a) task ∙ ap (λ y. posted v y z a) n
  made_only h s s2 (settled x i side z a) t u p w m q k step n = absurd (let c : None ≡ Some t = k.task in cc)
  made_only h s s2 (defaulted v a) t u p w m q k step n =
      let is = plan_is h s (defaulted v a) v t q step.0 step.1 k refl step.3 in
      let task = same_task (defaulted v a) v t refl k.task in
      ap (event_of h.bank h.registry t u p w m) (is ∙ defaulted_only (parts_had h) s k.shown step.1 0 a step.4 step.5 (is_fitting h s (defaulted v a) v t q step.0 step.1 k refl step.3)) ∙ ap (λ y. defaulted y a) task
  made_only h s s2 (closed v z) t u p w m q k step n =
      let is = plan_is h s (closed v z) v t q step.0 (closing (port z)) k refl step.2 in
      ap (event_of h.bank h.registry t u p w m) is ∙ ap (λ y. closed y z) (same_task (closed v z) v t refl k.task)
  made_only h s s2 (registered v name args a) t u p w m q k step n =
      let is = plan_is h s (registered v name args a) v t q step.0 (registering name args) k refl step.3 in
      let tells = subst (PlanTells (parts_had h) (registering name args)) (plan_fits (parts_had h) s k.shown (registering name args) 0 step.3.3) (plan_tells (parts_had h) (registering name args) 0) in
      ap (event_of h.bank h.registry t u p w m) is ∙ ap (λ y. registered t name args y) (answer_is (parts_had h) s k.shown name args a step.1 tells step.4) ∙ ap (λ y. registered y name args a) (same_task (registered v name args a) v t refl k.task)
  made_only h s s2 (printed v line) t u p w m q k step n =
      let is = plan_is h s (printed v line) v t q step.0 (printing line) k refl step.2 in
      ap (event_of h.bank h.registry t u p w m) is ∙ ap (λ y. printed y line) (same_task (printed v line) v t refl k.task)
  made_only h s s2 (ticked x ports) t u p w m q k step n = absurd (let c : None ≡ Some t = k.task in cc)
  made_only h s s2 (over v Ended) t u p w m q k step n =
      let task = same_task (over v Ended) v t refl k.task in
      absurd (let c = sym k.stood ∙ (place_is place stands program h s t k.agent step.0 k.is_at (subst (λ (i : ℕ). s.tasks i ≡ Some step.0) (sym task) step.2.0)).0 ∙ step.3 in cc)
  made_only h s s2 (over v (Faulted f at r)) t u p w m q k step n =
      let task = same_task (over v (Faulted f at r)) v t refl k.task in
      let here = sym k.stood ∙ (place_is place stands program h s t k.agent step.0 k.is_at (subst (λ (i : ℕ). s.tasks i ≡ Some step.0) (sym task) step.1.0)).0 in
      absurd (let c : ◌≡◌ {A = Option (Fault × Place)} None (Some (f, at)) = sym (ap (λ (o : Option Fault). option_map (λ (g : Fault). (g, k.at)) o) (not_refused h s (over v (Faulted f at r)) t q k)) ∙ ap (fault_at s) here ∙ step.2 in cc)

  pub only_event : (h : Has A) (s s2 : State) (e : EventView) (t u p w m : ℕ) (a : TaskAgent A) (op : OpView) (at : Place) (q : Planned)
      → Follows place stands program h s → IsAll h → IsAt place stands program h s t a → place a.agent ≡ at_op (record { op = op; place = at })
      → q ≡ planned (seen_in (parts_had h)) op (event_start e) → IsEvent q → Step program s e s2 → task_of e ≡ Some t → Numbers e u p w m
      → event_of h.bank h.registry t u p w m q ≡ e
  only_event h s s2 e t u p w m a op at q follows all is stood plan event step task numbers = made_only h s s2 e t u p w m q (record {
    shown = follower_shows place stands program h s follows;
    agent = a;
    op = op;
    at = at;
    is_at = is;
    stood = stood;
    plan = plan;
    event = event;
    task = task;
  }) step numbers
