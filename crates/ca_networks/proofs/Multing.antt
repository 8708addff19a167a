-- A mult and the tasks that it started; one event of it.
use Rattle.std.proofs.Common.{◌≡◌, ◌≢◌, ◌⊎◌, inl, inr, ℕ, suc, List, [], ◌∷◌, ◌++◌, length, refl, sym, ap, ◌∙◌, subst, arith, Bool, true, false, cond, Option, Some, None, eqb, eqb-true, eq-eqb, append_assoc, append-nil}
use Rattle.std.proofs.lemmas.Map.{update_here}
use Rattle.ca_value.specs.Tree.{Tree, Trees, port}
use Rattle.ca_term.specs.declared.place.Place.{Place}
use Rattle.ca_term.specs.declared.event.TaskKind.{TaskKind}
use Rattle.ca_term.specs.declared.head.SystemTask.TheVariants.{Deliver}
use Rattle.ca_term.specs.declared.head.RegisterName.TheVariants.{Taps}
use Rattle.ca_term.specs.Operation.{registering, spawning, system}
use Rattle.ca_term.specs.Program.{ProgramView}
use Rattle.ca_term.specs.Event.{EventView, spawned}
use Rattle.ca_meaning.specs.Asks.{Next, to, needing, closes_due, taps_in, one_of}
use Rattle.ca_meaning.specs.Choice.{branches_of, parks as may_park}
use Rattle.ca_meaning.specs.Going.{IsAtOp, RunsAtOperation}
use Rattle.ca_meaning.specs.MultTable.{MultPorts, MultState, mult_takes, mult_reads, mult_spawns, mult_waits, mult_reads_last, mult_closes, spawns_due, closing_of, mult_next}
use Rattle.ca_meaning.specs.Refusal.{is_the_mult, refusal}
use Rattle.ca_meaning.specs.Registry.{TapView}
use Rattle.ca_meaning.specs.Sound.{Each}
use Rattle.ca_meaning.specs.State.{State, Task, Tasks, runs}
use Rattle.ca_meaning.specs.Steps.{Step}
use Rattle.ca_meaning.specs.System.{a_mult}
use Rattle.ca_meaning.specs.Task.{system_task}
use Rattle.ca_meaning.specs.Wait.{is_among}
use Rattle.ca_meaning.specs.Legal.{Reaches}
use Rattle.ca_meaning.specs.Operands.{is_nil}
use Rattle.ca_meaning.proofs.WaitLaws.{step_told}
use Rattle.ca_meaning.proofs.Tasks.{tasks_of}
use Rattle.ca_meaning.proofs.Single.{same_op}
use Rattle.ca_laws.specs.Deeds.{Deed, did_take, did_put, did_wait, did_end, deed, deeds}
use Rattle.ca_laws.specs.Taken.{put_by, put_in, Begins}
use Rattle.ca_laws.specs.MultRules.{DeliverRule, delivery_of, delivery_to}
use Rattle.ca_laws.proofs.Acts.{wait_of, Replies, got, starts, shuts, enrols}
use Rattle.ca_laws.proofs.Deeding.{and_deed, Traced}
use Rattle.ca_laws.proofs.More.{each_more}
use Rattle.ca_laws.proofs.Delivering.{deliveries_keep_to}
use Rattle.ca_roles.specs.Roles.{acks, public, hidden, Roles}
use Rattle.ca_roles.specs.Typed.{TypedSystem, TypedBody}
use Rattle.ca_networks.specs.MultLaw.{delivery_values}
use Rattle.ca_networks.specs.Networks.{IsSpawned, started_by, tasks_started, AllNew, EachFor}
use Rattle.ca_networks.proofs.Guarded.{Guard}
use Rattle.ca_networks.proofs.Passing.{spawned_event}
use Rattle.ca_roles.proofs.Unused.{not_true}
use Rattle.ca_networks.proofs.Standing.{Standing, Moves, still, waits, ends, answers, moved, deeds_after}
use Rattle.ca_networks.proofs.Tables.{mult_body, mult_op, mult_table}
use Rattle.ca_networks.proofs.Acks.{Answered, answered}
use Rattle.ca_networks.proofs.Lists.{among_first, among_last, length_last, each_among, each_to, each_and, less, less_length, less_among, for_to, for_and, new_last}
use Rattle.ca_networks.proofs.Rounds.{Round, no_round, has_taken, has_read, reads_for, reads_taps, starts_one, round_after, round, round_more, RoundHas, IsRead, MultAt, at_to, round_to, due_at, Reads, reads_at, ReadsNext, AllRead, read_more}
use Rattle.ca_networks.proofs.Delivered.{its_rule, puts_begin, HasAnswered, answers_once, put_after, put_grows, both_puts}
use Rattle.ca_networks.proofs.Starting.{AllStarted}
use Rattle.ca_networks.proofs.Readings.{mult_stays, not_over, taps_fine}

-- task u was started for the tap and the value, among these tasks
abbrev pub For : ProgramView → MultPorts → Place → List ℕ → List EventView → Tree → TapView → ℕ → Type 0
For program x place all journal v tap u = IsSpawned program journal Deliver (delivery_values x tap v) place u × (is_among u all ≡ true) × (tap.channel ≢ x.acks)

-- a task that the mult started: it answered, or its answer is still to come
abbrev pub Member : ProgramView → MultPorts → Place → List EventView → List ℕ → ℕ → Type 0
Member program x place journal pending u = (v : Tree) × (tap : TapView) × IsSpawned program journal Deliver (delivery_values x tap v) place u × (tap.channel ≢ x.acks) × (HasAnswered x.acks (put_in (deeds u journal)) ⊎ (is_among u pending ≡ true))

abbrev pub IsThere : State → ℕ → Type 0
IsThere s u = (y : Task) × (s.tasks u ≡ Some y)

pub record Multing (program : ProgramView) (x : MultPorts) (place : Place) (t : ℕ) (journal : List EventView) (s : State) : Type 0 where
  pub at : Standing (mult_body x place) t s
  pub pending : List ℕ
  pub stands : MultAt (λ v. EachFor (For program x place (tasks_started (deeds t journal)) journal v)) at.now (round x (deeds t journal)) pending
  pub members : Each (Member program x place journal pending) (tasks_started (deeds t journal))
  pub read : AllRead x [] (deeds t journal)
  pub there : Each (IsThere s) (tasks_started (deeds t journal))
  pub all_new : AllNew (tasks_started (deeds t journal))
  pub is_mult : is_the_mult (s.registries x.mult) ≡ true

spawned_later : (program : ProgramView) (journal : List EventView) (values : Trees) (place : Place) (u : ℕ) (e : EventView) → IsSpawned program journal Deliver values place u → IsSpawned program (journal ++ e ∷ []) Deliver values place u
spawned_later program journal values place u e k = record { early = k.early; late = k.late ++ e ∷ []; spawner = k.spawner; result = k.result; told = ap (λ z. z ++ e ∷ []) k.told ∙ append_assoc k.early (spawned k.spawner u TaskKind.Deliver k.result ∷ k.late) (e ∷ []); from = k.from }

not_there : (s : State) (us : List ℕ) (u : ℕ) → s.tasks u ≡ None → Each (IsThere s) us → Each (λ w. eqb w u ≡ false) us
not_there s [] u absent a = tt
not_there s (w ∷ us) u absent a = (not_true (eqb w u) (λ k. let j : None ≡ Some a.0.0 = sym absent ∙ ap s.tasks (sym (eqb-true w u k)) ∙ a.0.1 in cc), not_there s us u absent a.1)

module _ (program : ProgramView) (x : MultPorts) (place : Place) (t : ℕ) (journal : List EventView) (roles : Roles) (s s2 : State) (e : EventView) (traced : Traced journal s) (reaches : Reaches program journal s) (reaches2 : Reaches program (journal ++ e ∷ []) s2) (g : Guard program roles s) (k : Step program s e s2) (begun : AllStarted journal s) (m : Multing program x place t journal s) where
  step : (y : Standing (mult_body x place) t s2) × Moves (mult_op x place) mult_next m.at.task y.task m.at.now y.now (deed t (wait_of m.at.task.mode) e)
  step = moved program (mult_body x place) (mult_op x place) mult_next (mult_table x place program) journal s s2 e traced k t m.at

  after : (o : Option Deed) → deed t (wait_of m.at.task.mode) e ≡ o → deeds t (journal ++ e ∷ []) ≡ and_deed (deeds t journal) o
  after o is = deeds_after program (mult_body x place) (mult_op x place) mult_next (mult_table x place program) journal s s2 e traced k t m.at ∙ ap (and_deed (deeds t journal)) is

  -- its ports, by typing
  typed : TypedSystem program roles (a_mult x place m.at.now)
  typed = subst (TypedBody program t roles) m.at.body_is (g.typed.tasks t m.at.task m.at.there).body

  apart : (p : ℕ) → roles p ≡ Some public → p ≢ x.acks
  apart p of_all i = let a = typed.2 in let j : Some public ≡ Some (hidden a.0 acks) = sym of_all ∙ ap roles i ∙ a.1 in cc

  fors : (all : List ℕ) → ((u : ℕ) → is_among u (tasks_started (deeds t journal)) ≡ true → is_among u all ≡ true) → (v : Tree) (ts : List TapView) (us : List ℕ) → EachFor (For program x place (tasks_started (deeds t journal)) journal v) ts us → EachFor (For program x place all (journal ++ e ∷ []) v) ts us
  fors all more v ts us a = for_to (For program x place (tasks_started (deeds t journal)) journal v) (For program x place all (journal ++ e ∷ []) v) ts us (λ tap u f. (spawned_later program journal (delivery_values x tap v) place u e f.0, more u f.1, f.2)) a

  member : (p : List ℕ) (u : ℕ) → (is_among u m.pending ≡ true → HasAnswered x.acks (put_in (deeds u (journal ++ e ∷ []))) ⊎ (is_among u p ≡ true)) → Member program x place journal m.pending u → Member program x place (journal ++ e ∷ []) p u
  member p u more a = (a.0, a.1, spawned_later program journal (delivery_values x a.1 a.0) place u e a.2, a.3, by a.4) where
    by : HasAnswered x.acks (put_in (deeds u journal)) ⊎ (is_among u m.pending ≡ true) → HasAnswered x.acks (put_in (deeds u (journal ++ e ∷ []))) ⊎ (is_among u p ≡ true)
    by (inl was) = inl (put_grows x.acks u journal e was)
    by (inr i) = more i

  members_to : (p : List ℕ) → ((u : ℕ) → is_among u m.pending ≡ true → HasAnswered x.acks (put_in (deeds u (journal ++ e ∷ []))) ⊎ (is_among u p ≡ true)) → Each (Member program x place (journal ++ e ∷ []) p) (tasks_started (deeds t journal))
  members_to p more = each_to (Member program x place journal m.pending) (Member program x place (journal ++ e ∷ []) p) (tasks_started (deeds t journal)) (λ u a. member p u (more u) a) m.members

  there_still : Each (IsThere s2) (tasks_started (deeds t journal))
  there_still = each_to (IsThere s) (IsThere s2) (tasks_started (deeds t journal)) (λ u a. (let y = step_told program s s2 traced.known.sound u a.0 a.1 e k in (y.0, y.1))) m.there

  -- after a deed
  finish : (n : Next MultState) (c : Deed) (p all : List ℕ) (r : Round) → deed t (wait_of m.at.task.mode) e ≡ Some c → step.0.now ≡ n → tasks_started (deeds t journal) ++ started_by c ≡ all → round_after x c (round x (deeds t journal)) ≡ r
      → MultAt (λ v. EachFor (For program x place all (journal ++ e ∷ []) v)) n r p → Each (Member program x place (journal ++ e ∷ []) p) all → ReadsNext x (deeds t journal) c → Each (IsThere s2) all → AllNew all → Multing program x place t (journal ++ e ∷ []) s2
  finish n c p all r is b alls rs at mem rd th nw =
      let d = after (Some c) is in
      let ra : round x (deeds t (journal ++ e ∷ [])) ≡ r = ap (round x) d ∙ round_more x no_round (deeds t journal) c ∙ rs in
      let sa : tasks_started (deeds t (journal ++ e ∷ [])) ≡ all = ap tasks_started d ∙ each_more started_by (deeds t journal) c ∙ alls in
      record {
        at = step.0;
        pending = p;
        stands = subst (λ i. MultAt (λ v. EachFor (For program x place (tasks_started (deeds t (journal ++ e ∷ []))) (journal ++ e ∷ []) v)) i (round x (deeds t (journal ++ e ∷ []))) p) (sym b)
            (subst (λ z. MultAt (λ v. EachFor (For program x place z (journal ++ e ∷ []) v)) n (round x (deeds t (journal ++ e ∷ []))) p) (sym sa) (subst (λ z. MultAt (λ v. EachFor (For program x place all (journal ++ e ∷ []) v)) n z p) (sym ra) at));
        members = subst (Each (Member program x place (journal ++ e ∷ []) p)) (sym sa) mem;
        read = subst (AllRead x []) (sym d) (read_more x [] (deeds t journal) c m.read rd);
        there = subst (Each (IsThere s2)) (sym sa) th;
        all_new = subst AllNew (sym sa) nw;
        is_mult = mult_stays program s s2 x.mult e k m.is_mult;
      }

  -- with the same tasks and the same ones pending
  simply : (n : Next MultState) (c : Deed) (r : Round) → deed t (wait_of m.at.task.mode) e ≡ Some c → step.0.now ≡ n → started_by c ≡ [] → round_after x c (round x (deeds t journal)) ≡ r
      → MultAt (λ v. EachFor (For program x place (tasks_started (deeds t journal)) (journal ++ e ∷ []) v)) n r m.pending → ReadsNext x (deeds t journal) c → Multing program x place t (journal ++ e ∷ []) s2
  simply n c r is b none rs at rd = finish n c m.pending (tasks_started (deeds t journal)) r is b (ap (λ z. tasks_started (deeds t journal) ++ z) none ∙ append-nil (tasks_started (deeds t journal))) rs at (members_to m.pending (λ u i. inr i)) rd there_still m.all_new

  same_fors : (v : Tree) (ts : List TapView) (us : List ℕ) → EachFor (For program x place (tasks_started (deeds t journal)) journal v) ts us → EachFor (For program x place (tasks_started (deeds t journal)) (journal ++ e ∷ []) v) ts us
  same_fors v ts us a = fors (tasks_started (deeds t journal)) (λ u i. i) v ts us a

  at_is : (n : Next MultState) → m.at.now ≡ n → MultAt (λ v. EachFor (For program x place (tasks_started (deeds t journal)) journal v)) n (round x (deeds t journal)) m.pending
  at_is n mn = subst (λ n. MultAt (λ v. EachFor (For program x place (tasks_started (deeds t journal)) journal v)) n (round x (deeds t journal)) m.pending) mn m.stands

  -- no value whose taps it has to read
  not_reading : (n : Next MultState) → m.at.now ≡ n → (Reads n → ⊥) → (c : Deed) → ReadsNext x (deeds t journal) c
  not_reading n mn ne c v is = absurd (ne (reads_at (λ v. EachFor (For program x place (tasks_started (deeds t journal)) journal v)) n (round x (deeds t journal)) m.pending v (at_is n mn) is))

  no_reads : (z : MultState) → ((v : Tree) → z ≡ mult_reads v → ⊥) → (z ≡ mult_reads_last → ⊥) → Reads (to z) → ⊥
  no_reads z f g (inl h) = f h.0 (let q : to z ≡ to (mult_reads h.0) = h.1 in cc)
  no_reads z f g (inr h) = g (let q : to z ≡ to mult_reads_last = h in cc)

  -- an answer that is taken is of a task that was pending
  taken_answer : (j : ℕ) (a : Tree) → deed t (wait_of m.at.task.mode) e ≡ Some (did_take j x.acks a) → (u : ℕ) × (is_among u m.pending ≡ true) × HasAnswered x.acks (put_in (deeds u (journal ++ e ∷ [])))
  taken_answer j a is = (u, pended mem.4, has) where
    ans : Answered program roles journal s s2 traced g x.acks typed.2.0 typed.2.1 e a
    ans = answered program roles journal s s2 traced g x.acks typed.2.0 typed.2.1 t (wait_of m.at.task.mode) e j a k is

    u : ℕ
    u = ans.0

    mine : is_among u (tasks_started (deeds t journal)) ≡ true
    mine =
        let d = ans.6 in
        let i = begun u ans.1 d.0 d.1 d.2 ans.4 d.3 in
        let same : i.0 ≡ t = g.one_mult i.0 t i.3.task m.at.task i.1 x i.2 place i.3.now m.at.now i.3.there m.at.there i.3.body_is m.at.body_is (i.4 ∙ d.4) in
        subst (λ z. is_among u (tasks_started (deeds z journal)) ≡ true) same i.5

    mem : Member program x place journal m.pending u
    mem = each_among (Member program x place journal m.pending) (tasks_started (deeds t journal)) u m.members mine

    put_now : put_in (deeds u (journal ++ e ∷ [])) ≡ put_in (deeds u journal) ++ (x.acks, a) ∷ []
    put_now = put_after u journal e (Some (did_put ans.2 x.acks a ans.3)) (ap (λ o. deed u o e) (traced.told.waits u ans.1 ans.4) ∙ ans.5) ∙ each_more put_by (deeds u journal) (did_put ans.2 x.acks a ans.3)

    has : HasAnswered x.acks (put_in (deeds u (journal ++ e ∷ [])))
    has = (put_in (deeds u journal), [], a, put_now)

    pended : HasAnswered x.acks (put_in (deeds u journal)) ⊎ (is_among u m.pending ≡ true) → is_among u m.pending ≡ true
    pended (inr q) = q
    pended (inl q) =
        let rule = its_rule program (journal ++ e ∷ []) s2 Deliver (λ values place. DeliverRule (delivery_of values)) (delivery_values x mem.1 mem.0) place u (deliveries_keep_to program (journal ++ e ∷ []) s2 reaches2) (spawned_later program journal (delivery_values x mem.1 mem.0) place u e mem.2) in
        let b = puts_begin (delivery_to x mem.1 mem.0) u (journal ++ e ∷ []) s2 rule in
        answers_once (delivery_to x mem.1 mem.0) (put_in (deeds u journal)) a mem.3 (subst (λ z. Begins z (both_puts (delivery_to x mem.1 mem.0))) put_now b) q

  abbrev Goes : MultState → Type 0
  Goes z = m.at.now ≡ to z → (c : Deed) (a : Tree) → deed t (wait_of m.at.task.mode) e ≡ Some c → Replies (mult_op x place z) c a → step.0.now ≡ mult_next a z → Multing program x place t (journal ++ e ∷ []) s2

  takes_goes : Goes mult_takes
  takes_goes mn c a is (got ce) went = simply (mult_next a mult_takes) c (has_taken a) is went (ap started_by ce) (ap (λ d. round_after x d (round x (deeds t journal))) ce ∙ ap (λ z. cond z (has_taken a) (round x (deeds t journal))) (eq-eqb x.source x.source refl)) (next (is_nil a)) (not_reading (to mult_takes) mn (no_reads mult_takes (λ v q. cc) (λ q. cc)) c) where
    next : (z : Bool) → MultAt (λ v. EachFor (For program x place (tasks_started (deeds t journal)) (journal ++ e ∷ []) v)) (cond z (to mult_reads_last) (to (mult_reads a))) (has_taken a) m.pending
    next true = (a, refl)
    next false = ((at_is (to mult_takes) mn).0, refl)

  not_taken : (v : Tree) (o : Option (List TapView)) → IsRead (reads_for v o)
  not_taken v None w q = cc
  not_taken v (Some ts) w q = cc

  reads_goes : (v : Tree) → Goes (mult_reads v)
  reads_goes v mn c a is (enrols ce) went = simply (mult_next a (mult_reads v)) c (reads_for v (taps_in a)) is went (ap started_by ce) (ap (λ d. round_after x d (round x (deeds t journal))) ce ∙ ap (reads_taps a) k1.1) (next (taps_in a)) (λ w q. (a, ce)) where
    k1 : (m.pending ≡ []) × (round x (deeds t journal) ≡ has_taken v)
    k1 = at_is (to (mult_reads v)) mn

    next : (o : Option (List TapView)) → MultAt (λ v. EachFor (For program x place (tasks_started (deeds t journal)) (journal ++ e ∷ []) v)) (needing o (λ ts. spawns_due v ts 0)) (reads_for v o) m.pending
    next None = not_taken v None
    next (Some []) = (k1.0, ([], refl, tt))
    next (Some (tap ∷ taps)) = (ap length k1.0, tap ∷ taps, [], [], refl, refl, tt)

  spawns_goes : (v : Tree) (tap : TapView) (taps : List TapView) (j : ℕ) → Goes (mult_spawns v tap taps j)
  spawns_goes v tap taps j mn c a is (starts u ce an) went = finish (mult_next a (mult_spawns v tap taps j)) c p all (has_read v k1.1 (k1.3 ++ u ∷ [])) is went (ap (λ d. tasks_started (deeds t journal) ++ started_by d) ce) (ap (λ d. round_after x d (round x (deeds t journal))) ce ∙ ap (starts_one u) k1.4) (next taps k1.5)
      (each_and (Member program x place (journal ++ e ∷ []) p) (tasks_started (deeds t journal)) u (members_to p (λ w i. inr (among_first w m.pending (u ∷ []) i))) (v, tap, new, apart_tap, inr (among_last u m.pending)))
      (not_reading (to (mult_spawns v tap taps j)) mn (no_reads (mult_spawns v tap taps j) (λ v q. cc) (λ q. cc)) c) (each_and (IsThere s2) (tasks_started (deeds t journal)) u there_still its_there) (new_last (tasks_started (deeds t journal)) u (not_there s (tasks_started (deeds t journal)) u absent m.there) m.all_new) where
        values : Trees
        values = delivery_values x tap v

        p : List ℕ
        p = m.pending ++ u ∷ []

        all : List ℕ
        all = tasks_started (deeds t journal) ++ u ∷ []

        k1 : MultAt (λ v. EachFor (For program x place (tasks_started (deeds t journal)) journal v)) (to (mult_spawns v tap taps j)) (round x (deeds t journal)) m.pending
        k1 = at_is (to (mult_spawns v tap taps j)) mn

        -- the event is its Spawn
        event : e ≡ spawned t u TaskKind.Deliver None
        event = spawned_event t (wait_of m.at.task.mode) e u TaskKind.Deliver None (is ∙ ap (λ z. Some z) ce)

        k2 : Step program s (spawned t u TaskKind.Deliver None) s2
        k2 = subst (λ i. Step program s i s2) event k

        absent : s.tasks u ≡ None
        absent = k2.5

        its_there : IsThere s2 u
        its_there = (runs None k2.3, ap (λ (z : Tasks). z u) (tasks_of k2.10) ∙ update_here k2.2 u (Some (runs None k2.3)))

        apart_tap : tap.channel ≢ x.acks
        apart_tap = apart tap.channel (let q : TypedSystem program roles (a_mult x place (to (mult_spawns v tap taps j))) = subst (λ n. TypedSystem program roles (a_mult x place n)) mn typed in q.3.1)

        same : k2.0 ≡ m.at.task
        same = let q : Some k2.0 ≡ Some m.at.task = sym k2.4.0 ∙ m.at.there in cc

        stands : RunsAtOperation s t (spawning (system Deliver values place)) m.at.task
        stands =
            let at : IsAtOp (system_task (a_mult x place (to (mult_spawns v tap taps j)))) (spawning (system Deliver values place)) = (place, refl) in
            let here : IsAtOp m.at.task.body (spawning (system Deliver values place)) = subst (λ b. IsAtOp b (spawning (system Deliver values place))) (sym (m.at.body_is ∙ ap (λ n. system_task (a_mult x place n)) mn)) at in
            let op : spawning k2.1 ≡ spawning (system Deliver values place) = same_op k2.0.body m.at.task.body (spawning k2.1) (spawning (system Deliver values place)) (ap (λ (z : Task). z.body) same) k2.4.2 here in
            (m.at.there, ap (λ (z : Task). z.mode) (sym same) ∙ k2.4.1, here, ap (refusal s) (sym op) ∙ k2.4.3)

        new : IsSpawned program (journal ++ e ∷ []) Deliver values place u
        new = record { early = journal; late = []; spawner = t; result = None; told = ap (λ z. journal ++ z ∷ []) event; from = record { before = s; reaches = reaches; spawner = m.at.task; stands = stands } }

        long : length p ≡ suc j
        long = length_last m.pending u ∙ ap suc k1.0

        fs : EachFor (For program x place all (journal ++ e ∷ []) v) (k1.2 ++ tap ∷ []) (k1.3 ++ u ∷ [])
        fs = for_and (For program x place all (journal ++ e ∷ []) v) k1.2 k1.3 tap u (fors all (λ w i. among_first w (tasks_started (deeds t journal)) (u ∷ []) i) v k1.2 k1.3 k1.6) (new, among_last u (tasks_started (deeds t journal)), apart_tap)

        next : (left : List TapView) → k1.1 ≡ k1.2 ++ tap ∷ left → MultAt (λ v. EachFor (For program x place all (journal ++ e ∷ []) v)) (spawns_due v left (suc j)) (has_read v k1.1 (k1.3 ++ u ∷ [])) p
        next [] q = (long, (k1.2 ++ tap ∷ [], q ∙ sym (append-nil (k1.2 ++ tap ∷ [])), fs))
        next (tap2 ∷ left) q = (long, k1.1, k1.2 ++ tap ∷ [], k1.3 ++ u ∷ [], refl, q ∙ sym (append_assoc k1.2 (tap ∷ []) (tap2 ∷ left)), fs)

  waits_goes : (j : ℕ) → Goes (mult_waits j)
  waits_goes j mn c a is (got ce) went = finish (mult_next a (mult_waits j)) c (less ack.0 m.pending) (tasks_started (deeds t journal)) (round x (deeds t journal)) is went (ap (λ d. tasks_started (deeds t journal) ++ started_by d) ce ∙ append-nil (tasks_started (deeds t journal)))
      (ap (λ d. round_after x d (round x (deeds t journal))) ce ∙ ap (λ z. cond z (has_taken a) (round x (deeds t journal))) not_source)
      (due_at (λ v. EachFor (For program x place (tasks_started (deeds t journal)) (journal ++ e ∷ []) v)) (round x (deeds t journal)) (less ack.0 m.pending) j shorter
      (round_to (λ v. EachFor (For program x place (tasks_started (deeds t journal)) journal v)) (λ v. EachFor (For program x place (tasks_started (deeds t journal)) (journal ++ e ∷ []) v)) same_fors (round x (deeds t journal)) [] k1.1))
      (members_to (less ack.0 m.pending) (λ w i. or_done w (less_among ack.0 m.pending w i))) (not_reading (to (mult_waits j)) mn (no_reads (mult_waits j) (λ v q. cc) (λ q. cc)) c) there_still m.all_new where
        k1 : (length m.pending ≡ suc j) × RoundHas (λ v. EachFor (For program x place (tasks_started (deeds t journal)) journal v)) (round x (deeds t journal)) []
        k1 = at_is (to (mult_waits j)) mn

        ack : (u : ℕ) × (is_among u m.pending ≡ true) × HasAnswered x.acks (put_in (deeds u (journal ++ e ∷ [])))
        ack = taken_answer 0 a (is ∙ ap (λ z. Some z) ce)

        not_source : eqb x.acks x.source ≡ false
        not_source = not_true (eqb x.acks x.source) (λ q. apart x.source typed.1 (sym (eqb-true x.acks x.source q)))

        shorter : length (less ack.0 m.pending) ≡ j
        shorter = let q : suc (length (less ack.0 m.pending)) ≡ suc j = sym (less_length ack.0 m.pending ack.1) ∙ k1.0 in let f : length (less ack.0 m.pending) ≡ j = omega (arith, q) in f

        or_done : (w : ℕ) → (w ≡ ack.0) ⊎ (is_among w (less ack.0 m.pending) ≡ true) → HasAnswered x.acks (put_in (deeds w (journal ++ e ∷ []))) ⊎ (is_among w (less ack.0 m.pending) ≡ true)
        or_done w (inl q) = inl (subst (λ z. HasAnswered x.acks (put_in (deeds z (journal ++ e ∷ [])))) (sym q) ack.2)
        or_done w (inr q) = inr q

  closing_at : (r : Round) → IsRead r → (cs : List ℕ) → MultAt (λ v. EachFor (For program x place (tasks_started (deeds t journal)) (journal ++ e ∷ []) v)) (closes_due mult_closes cs) r m.pending
  closing_at r h [] = h
  closing_at r h (c ∷ cs) = h

  last_goes : Goes mult_reads_last
  last_goes mn c a is (enrols ce) went = simply (mult_next a mult_reads_last) c (reads_for k1.0 (taps_in a)) is went (ap started_by ce) (ap (λ d. round_after x d (round x (deeds t journal))) ce ∙ ap (reads_taps a) k1.1) (next (taps_in a)) (λ w q. (a, ce)) where
    k1 : (v : Tree) × (round x (deeds t journal) ≡ has_taken v)
    k1 = at_is (to mult_reads_last) mn

    next : (o : Option (List TapView)) → MultAt (λ v. EachFor (For program x place (tasks_started (deeds t journal)) (journal ++ e ∷ []) v)) (needing o (λ ts. closes_due mult_closes (closing_of ts))) (reads_for k1.0 o) m.pending
    next None = not_taken k1.0 None
    next (Some ts) = closing_at (reads_for k1.0 (Some ts)) (not_taken k1.0 (Some ts)) (closing_of ts)

  closes_goes : (q : ℕ) (qs : List ℕ) → Goes (mult_closes q qs)
  closes_goes q qs mn c a is (shuts ce an) went = simply (mult_next a (mult_closes q qs)) c (round x (deeds t journal)) is went (ap started_by ce) (ap (λ d. round_after x d (round x (deeds t journal))) ce) (closing_at (round x (deeds t journal)) (at_is (to (mult_closes q qs)) mn) qs) (not_reading (to (mult_closes q qs)) mn (no_reads (mult_closes q qs) (λ v q. cc) (λ q. cc)) c)

  goes_on : (z : MultState) → Goes z
  goes_on mult_takes = takes_goes
  goes_on (mult_reads v) = reads_goes v
  goes_on (mult_spawns v tap taps j) = spawns_goes v tap taps j
  goes_on (mult_waits j) = waits_goes j
  goes_on mult_reads_last = last_goes
  goes_on (mult_closes q qs) = closes_goes q qs

  -- where it reads its taps it neither waits nor ends
  reading_at : Reads m.at.now → IsAtOp m.at.task.body (registering Taps (one_of (port x.mult)))
  reading_at (inl h) = subst (λ b. IsAtOp b (registering Taps (one_of (port x.mult)))) (sym (m.at.body_is ∙ ap (λ n. system_task (a_mult x place n)) h.1)) (place, refl)
  reading_at (inr h) = subst (λ b. IsAtOp b (registering Taps (one_of (port x.mult)))) (sym (m.at.body_is ∙ ap (λ n. system_task (a_mult x place n)) h)) (place, refl)

  reads_now : (v : Tree) → round x (deeds t journal) ≡ has_taken v → Reads m.at.now
  reads_now v is = reads_at (λ v. EachFor (For program x place (tasks_started (deeds t journal)) journal v)) m.at.now (round x (deeds t journal)) m.pending v m.stands is

  parked_away : (z : MultState) → m.at.now ≡ to z → may_park (mult_op x place z) ≡ true → Reads m.at.now → ⊥
  parked_away z nz may (inl h) = let q : to z ≡ to (mult_reads h.0) = sym nz ∙ h.1 in let i : z ≡ mult_reads h.0 = cc in let f : false ≡ true = ap (λ y. may_park (mult_op x place y)) (sym i) ∙ may in cc
  parked_away z nz may (inr h) = let q : to z ≡ to mult_reads_last = sym nz ∙ h in let i : z ≡ mult_reads_last = cc in let f : false ≡ true = ap (λ y. may_park (mult_op x place y)) (sym i) ∙ may in cc

  unchanged : MultAt (λ v. EachFor (For program x place (tasks_started (deeds t journal)) (journal ++ e ∷ []) v)) m.at.now (round x (deeds t journal)) m.pending
  unchanged = at_to (λ v. EachFor (For program x place (tasks_started (deeds t journal)) journal v)) (λ v. EachFor (For program x place (tasks_started (deeds t journal)) (journal ++ e ∷ []) v)) same_fors m.at.now (round x (deeds t journal)) m.pending m.stands

  pub mult_step : Multing program x place t (journal ++ e ∷ []) s2
  mult_step = by step.1 where
    by : Moves (mult_op x place) mult_next m.at.task step.0.task m.at.now step.0.now (deed t (wait_of m.at.task.mode) e) → Multing program x place t (journal ++ e ∷ []) s2
    by (still is mn md) =
        let d : deeds t (journal ++ e ∷ []) ≡ deeds t journal = after None is ∙ append-nil (deeds t journal) in
        record {
          at = step.0;
          pending = m.pending;
          stands = subst (λ z. MultAt (λ v. EachFor (For program x place (tasks_started z) (journal ++ e ∷ []) v)) step.0.now (round x z) m.pending) (sym d) (subst (λ n. MultAt (λ v. EachFor (For program x place (tasks_started (deeds t journal)) (journal ++ e ∷ []) v)) n (round x (deeds t journal)) m.pending) (sym mn) unchanged);
          members = subst (λ z. Each (Member program x place (journal ++ e ∷ []) m.pending) (tasks_started z)) (sym d) (members_to m.pending (λ u i. inr i));
          read = subst (AllRead x []) (sym d) m.read;
          there = subst (λ z. Each (IsThere s2) (tasks_started z)) (sym d) there_still;
          all_new = subst (λ z. AllNew (tasks_started z)) (sym d) m.all_new;
          is_mult = mult_stays program s s2 x.mult e k m.is_mult;
        }
    by (waits z i nz is may r mn md) = simply m.at.now (did_wait i (branches_of (mult_op x place z))) (round x (deeds t journal)) is mn refl refl unchanged (λ v q. absurd (parked_away z nz may (reads_now v q)))
    by (ends how is r mn md) = simply m.at.now (did_end how) (round x (deeds t journal)) is mn refl refl unchanged (λ v q. not_over program s s2 t m.at.task (wait_of m.at.task.mode) (registering Taps (one_of (port x.mult))) m.at.there (reading_at (reads_now v q)) (taps_fine s x.mult m.is_mult) e k how is)
    by (answers z c a nz is ans mn md) = goes_on z nz c a is ans mn
