-- A new task is a step.
use Rattle.std.proofs.Common.{⊎_elim, ◌≡◌, ℕ, ◌+◌, ◌*◌, List, [], ◌∷◌, ◌++◌, refl, sym, ap, ◌∙◌, subst, arith, Bool, true, false, cond, Option, Some, None, eqb, eqb-true, eq-eqb, ne_eqb, Contains}
use Rattle.std.specs.Map.{update}
use Rattle.std.proofs.lemmas.Map.{update_here, update_apart}
use Rattle.std.proofs.lemmas.List.Elements.{Contains-push, Contains-append_left}
use mathlib.Core.Logic.{dite}
use native.Mathlib.Decide.{ℕ_discrete}
use Rattle.ca_value.specs.Tree.{Tree, nil}
use Rattle.ca_term.specs.declared.event.TaskKind.{TaskKind}
use Rattle.ca_term.specs.Program.{ProgramView}
use Rattle.ca_term.specs.Operation.{SeedView, spawning}
use Rattle.ca_term.specs.Event.{spawned}
use Rattle.ca_meaning.specs.Body.{At}
use Rattle.ca_meaning.specs.Task.{TaskBody}
use Rattle.ca_meaning.specs.Wait.{Wait}
use Rattle.ca_meaning.specs.State.{State, Task, Tasks, runs}
use Rattle.ca_commit.specs.Contents.{LaneView, Parked, Parts, whole}
use Rattle.ca_commit.specs.Seated.{Apart, EachSeated, Seat, Seated, SitsAt, in_lane, in_ready}
use Rattle.ca_commit.specs.Stands.{Stands, port_count, task_count, wait_count}
use Rattle.ca_commit.specs.TaskMoves.{MovesSpawn}
use Rattle.ca_commit.proofs.AgentLaws.{Begins, GoesOn, TakesAnswers}
use Rattle.ca_commit.proofs.Answering.{stands_at}
use Rattle.ca_commit.proofs.Laid.{IsPart, laid_becomes, laid_parts}
use Rattle.ca_commit.proofs.Landing.{lands, timers_as_before, unaltered}
use Rattle.ca_commit.proofs.Numbers.{all_grow, equal_le, from_both, from_new, from_same, from_there, given_next, is_none, not_given, numbered_more, one_more_le, used_same}
use Rattle.ca_commit.proofs.Seats.{as_else, each_end, some_same}
use Rattle.ca_commit.proofs.Steps.{seated_on, went}
use Rattle.ca_commit.proofs.TaskEvents.{Leads}

there_not : {G : Type 0} (o : Option Task) (x : Task) → o ≡ None → o ≡ Some x → G
there_not o x e f = absurd (let z : None ≡ Some x = sym e ∙ f in cc)

module _ {A : Type 0} (place : A → At) (stands : A → Option ℕ → TaskBody → Type 0) where
  each_new : (tasks : Tasks) (seat : ℕ → Seat) (u r r2 : ℕ) (y : Task) → tasks u ≡ None → (q : List (ℕ × A)) → EachSeated stands tasks seat r q → EachSeated stands (update eqb tasks u (Some y)) (λ t. cond (eqb u t) (in_ready r2) (seat t)) r q
  each_new tasks seat u r r2 y none [] a = tt
  each_new tasks seat u r r2 y none (z ∷ q) a = let ne : u ≡ z.0 → ⊥ = λ e. there_not (tasks u) a.1.0 none (ap tasks e ∙ a.1.1.0) in
      (ap (λ c. cond c (in_ready r2) (seat z.0)) (ne_eqb u z.0 ne) ∙ a.0, as_else stands tasks u z.0 z.1 (Some y) ne a.1, each_new tasks seat u r r2 y none q a.2, a.3)

  apart_new : (tasks : Tasks) (seat : ℕ → Seat) (u r : ℕ) → tasks u ≡ None → (q : List (ℕ × A)) → EachSeated stands tasks seat r q → Apart u q
  apart_new tasks seat u r none [] a = tt
  apart_new tasks seat u r none (z ∷ q) a = (λ e. there_not (tasks u) a.1.0 none (ap tasks e ∙ a.1.1.0), apart_new tasks seat u r none q a.2)

  -- a new task stands last in a ready part
  comes : (lane : ℕ → Option (LaneView A)) (ready : ℕ → Option (List (ℕ × A))) (parked : ℕ → Option (Parked A)) (tasks : Tasks) (waits : List Wait) (r u : ℕ) (a : A) (res : Option ℕ) (b : TaskBody) (q : List (ℕ × A)) → Seated place stands lane ready parked tasks waits
      → tasks u ≡ None → ready r ≡ Some q → stands a res b → Seated place stands lane (update eqb ready r (Some (q ++ (u, a) ∷ []))) parked (update eqb tasks u (Some (runs res b))) waits
  comes lane ready parked tasks waits r u a res b q h none rd st = record {
    seat = λ t. cond (eqb u t) (in_ready r) (h.seat t);
    laned = λ v m t c e f. let l = h.laned v m t c e f in let ne : u ≡ t → ⊥ = λ z. there_not (tasks u) l.1.0 none (ap tasks z ∙ l.1.1.0) in (ap (λ c. cond c (in_ready r) (h.seat t)) (ne_eqb u t ne) ∙ l.0, as_else stands tasks u t c (Some new) ne l.1);
    queued = λ i p e. in_it (eqb r i) i p refl e;
    found = λ t x e. dite (ℕ_discrete u t)
        (λ is. subst (λ (t : ℕ). SitsAt stands lane (update eqb ready r (Some q2)) (cond (eqb u t) (in_ready r) (h.seat t)) t) is
        (subst (λ (c : Bool). SitsAt stands lane (update eqb ready r (Some q2)) (cond c (in_ready r) (h.seat u)) u) (sym (eq-eqb u u refl)) (q2, a, update_here ready r (Some q2), Contains-push q (u, a))))
        (λ ne. subst (λ (c : Bool). SitsAt stands lane (update eqb ready r (Some q2)) (cond c (in_ready r) (h.seat t)) t) (sym (ne_eqb u t ne))
        (sits t (h.seat t) (h.found t x (sym (update_apart tasks u (Some new) t (λ z. ne (sym z))) ∙ e.0, e.1))));
    owners = λ v t c e. let o = h.owners v t c e in (o.0, (o.1.0, (update_apart tasks u (Some new) t (λ z. there_not (tasks u) o.1.0 none (ap tasks (sym z) ∙ o.1.1.0)) ∙ o.1.1.0, o.1.1.1), o.1.2, o.1.3));
    nobodies = h.nobodies;
  } where
    new : Task
    new = runs res b

    q2 : List (ℕ × A)
    q2 = q ++ (u, a) ∷ []

    in_it : (c : Bool) (i : ℕ) (p : List (ℕ × A)) → eqb r i ≡ c → cond c (Some q2) (ready i) ≡ Some p → EachSeated stands (update eqb tasks u (Some new)) (λ t. cond (eqb u t) (in_ready r) (h.seat t)) i p
    in_it true i p is e = subst (λ (p : List (ℕ × A)). EachSeated stands (update eqb tasks u (Some new)) (λ t. cond (eqb u t) (in_ready r) (h.seat t)) i p) (some_same q2 p e)
        (subst (λ (i : ℕ). EachSeated stands (update eqb tasks u (Some new)) (λ t. cond (eqb u t) (in_ready r) (h.seat t)) i q2) (eqb-true r i is)
        (each_end stands (update eqb tasks u (Some new)) (λ t. cond (eqb u t) (in_ready r) (h.seat t)) r q (u, a) (each_new tasks h.seat u r r new none q (h.queued r q rd)) (apart_new tasks h.seat u r none q (h.queued r q rd))
        (ap (λ c. cond c (in_ready r) (h.seat u)) (eq-eqb u u refl)) (new, (update_here tasks u (Some new), refl), st)))
    in_it false i p is e = each_new tasks h.seat u i r new none p (h.queued i p e)

    sits : (t : ℕ) (s : Seat) → SitsAt stands lane ready s t → SitsAt stands lane (update eqb ready r (Some q2)) s t
    sits t (in_lane v) e = e
    sits t (in_ready i) e = dite (ℕ_discrete r i)
        (λ is. let same : q ≡ e.0 = some_same q e.0 (sym rd ∙ ap ready is ∙ e.2) in
        (q2, e.1, ap (update eqb ready r (Some q2)) (sym is) ∙ update_here ready r (Some q2), Contains-append_left q ((u, a) ∷ []) (t, e.1) (subst (λ (q : List (ℕ × A)). Contains q (t, e.1)) (sym same) e.3)))
        (λ ne. (e.0, e.1, update_apart ready r (Some q2) i (λ x. ne (sym x)) ∙ e.2, e.3))

no_first : (w k u : ℕ) → u ≡ 1 + w + k → u ≡ 0 → ⊥
no_first w k u e f = omega (arith, e, f)

module _ {A : Type 0} (place : A → At) (stands : ProgramView → A → Option ℕ → TaskBody → Type 0) (program : ProgramView) (n : ℕ)
    (advances : ProgramView → A → A → Type 0) (goes_on_law : GoesOn stands place advances) (gives : A → Tree → A → Type 0) (answers_law : TakesAnswers stands place gives) (starts : ProgramView → SeedView → A → Type 0) (begins_law : Begins stands place starts) where
  pub spawn_steps : (now old new : Parts A) (s : State) (w t u : ℕ) (kind : TaskKind) (result : Option ℕ) → Stands place stands program n now s → IsPart old now → MovesSpawn place advances gives starts w n t u kind result old new → Leads place stands program n (laid_parts now new) s (spawned t u kind result)
  spawn_steps now old new s w t u kind result st part m = let a = m.answers in let op = spawning m.seed in let g = went place stands program n advances goes_on_law gives answers_law now old new s w t op nil st part a in
      let x = g.0 in let y = runs x.result g.4.0 in let tasks : Tasks = update eqb s.tasks t (Some y) in let l = a.stands.lane in let l2 = a.stands.lane2 in let lane2 = update eqb now.lane w (Some l2) in
      let at_lane = part.lanes w l a.stands.lanes.was in let mine = st.lanes w l at_lane in
      let b = begins_law program m.seed m.agent (subst (λ p. starts p m.seed m.agent) mine.0 m.started) in
      let stands_so = subst (λ r. stands program m.agent r b.0) m.result_is b.2 in
      let fresh : s.tasks u ≡ None = is_none (s.tasks u) (λ z e. ⊎_elim (λ f. no_first w (n * l.counts.tasks) u m.next f) (λ f. not_given n task_count now.lane w l u mine.1 at_lane m.next f) (st.numbered.tasks u z e)) in
      let free : tasks u ≡ None = update_apart s.tasks t (Some y) u (λ e. there_not (s.tasks u) x fresh (ap s.tasks e ∙ g.1)) ∙ fresh in
      let here = given_next n task_count now.lane w l l2 u mine.1 m.next (ap task_count m.counts) in
      let s2 : State = record s { tasks = update eqb tasks u (Some (runs result b.0)) } in (
        s2,
        (x, m.seed, tasks, b.0, stands_at place stands program n advances goes_on_law gives answers_law now old new s w t op nil st part a g refl, fresh, m.kind_is, m.result_is, (g.4.0, g.4.1, refl), b.1, refl),
        lands place stands program n now old new s s2 w l l2 (whole now.bank) (whole now.registry) (whole now.shard) (update eqb now.ready w (Some (m.queue ++ (u, m.agent) ∷ []))) now.timers st part a.stands.lanes a.stands.program_stays
            (unaltered now.bank old.bank new.bank part.banks m.banks) (unaltered now.registry old.registry new.registry part.registries m.registries) (unaltered now.shard old.shard new.shard part.shards m.shards)
            (laid_becomes now.ready old.ready new.ready w m.queue (m.queue ++ (u, m.agent) ∷ []) part.readys m.readys) (timers_as_before now old new part m.timers) st.holds st.registered
            (comes place (stands program) lane2 now.ready (whole now.shard) tasks s.waits w u m.agent result b.0 m.queue (seated_on place stands program n advances goes_on_law gives answers_law now old new s w t op nil st part a g) free (part.readys w m.queue m.readys.was) stands_so)
            st.clocked
            (numbered_more n now.lane lane2 s s2 st.numbered
            (all_grow now.lane w l l2 at_lane (one_more_le l.counts.tasks l2.counts.tasks (ap task_count m.counts)) (equal_le l.counts.ports l2.counts.ports (ap port_count m.counts)) (equal_le l.counts.waits l2.counts.waits (ap wait_count m.counts)))
            (from_both n task_count lane2 s.tasks tasks (update eqb tasks u (Some (runs result b.0))) (from_there n task_count lane2 s.tasks t x y g.1) (from_new n task_count lane2 tasks u (Some (runs result b.0)) here))
            (from_same n port_count lane2 s.channels) (from_same n port_count lane2 s.registries) (used_same n lane2 s.used)),
      )
