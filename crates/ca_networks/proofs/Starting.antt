-- Each delivery was started by a mult of the same channel of answers.
use Rattle.std.proofs.Common.{◌≡◌, ◌⊎◌, inl, inr, ℕ, List, [], ◌∷◌, ◌++◌, refl, sym, ap, ◌∙◌, subst, Bool, true, false, cond, Option, Some, None, eqb, eq-eqb, append-nil}
use Rattle.std.proofs.lemmas.Map.{update_here}
use Rattle.ca_value.specs.Tree.{Trees, port, none, item}
use Rattle.ca_term.specs.declared.place.Place.{Place}
use Rattle.ca_term.specs.declared.event.TaskKind.{TaskKind}
use Rattle.ca_term.specs.declared.head.SystemTask.TheVariants.{Deliver}
use Rattle.ca_term.specs.Operation.{spawning, system}
use Rattle.ca_term.specs.Program.{ProgramView}
use Rattle.ca_term.specs.Event.{EventView, spawned}
use Rattle.ca_meaning.specs.Asks.{Next, to}
use Rattle.ca_meaning.specs.MultTable.{MultPorts, Delivery, DeliverState, deliver_puts, mult_next}
use Rattle.ca_meaning.specs.System.{a_delivery}
use Rattle.ca_meaning.specs.Wait.{is_among}
use Rattle.ca_meaning.specs.Task.{TaskBody, script, system_task, body_fill, BodyRest, new_task}
use Rattle.ca_meaning.specs.State.{State, Task, Tasks, runs, Opening}
use Rattle.ca_meaning.specs.Going.{IsAtOp, RunsAtOperation}
use Rattle.ca_meaning.specs.Steps.{Step}
use Rattle.ca_meaning.specs.Body.{new_body}
use Rattle.ca_meaning.proofs.Tasks.{tasks_of}
use Rattle.ca_laws.specs.Deeds.{Deed, did_spawn, deed, deeds, wait_in}
use Rattle.ca_laws.proofs.Acts.{wait_of, Acts, idles, parks, stops, goes}
use Rattle.ca_laws.proofs.Acted.{acts}
use Rattle.ca_laws.proofs.Deeding.{and_deed, deeds_more, comes}
use Rattle.ca_laws.proofs.More.{each_more}
use Rattle.ca_networks.specs.Networks.{started_by, tasks_started}
use Rattle.ca_networks.proofs.Walking.{Keeps}
use Rattle.ca_networks.proofs.Standing.{Standing, moved}
use Rattle.ca_networks.proofs.Tables.{mult_body, mult_op, mult_table}
use Rattle.ca_networks.proofs.Lists.{among_first, among_last}
use Rattle.ca_networks.proofs.Spawners.{spawner, was_delivery, delivery_seed}

-- a mult with this channel of answers started task u
abbrev IsStarted : List EventView → State → ℕ → ℕ → Type 0
IsStarted journal s acks u = (t : ℕ) × (x : MultPorts) × (place : Place) × Standing (mult_body x place) t s × (x.acks ≡ acks) × (is_among u (tasks_started (deeds t journal)) ≡ true)

abbrev pub AllStarted : List EventView → State → Type 0
AllStarted journal s = (u : ℕ) (y : Task) (d : Delivery) (l : Place) (n : Next DeliverState) → s.tasks u ≡ Some y → y.body ≡ system_task (a_delivery d l n) → IsStarted journal s d.acks u

pub started_more : (u t : ℕ) (journal : List EventView) (e : EventView) → is_among u (tasks_started (deeds t journal)) ≡ true → is_among u (tasks_started (deeds t (journal ++ e ∷ []))) ≡ true
started_more u t journal e k = subst (λ z. is_among u (tasks_started z) ≡ true) (sym (deeds_more t None journal e)) (by (deed t (wait_in t journal) e)) where
  by : (o : Option Deed) → is_among u (tasks_started (and_deed (deeds t journal) o)) ≡ true
  by None = subst (λ z. is_among u (tasks_started z) ≡ true) (sym (append-nil (deeds t journal))) k
  by (Some c) = subst (λ z. is_among u z ≡ true) (sym (each_more started_by (deeds t journal) c)) (among_first u (tasks_started (deeds t journal)) (started_by c) k)

pub none_started : (program : ProgramView) (opening : State) → Opening program opening → AllStarted [] opening
none_started program opening o u y d l n at is = by (eqb 0 u) (ap (λ (z : State). z.tasks u) (sym o.2) ∙ at) where
  main : (b : TaskBody) → BodyRest program (script (new_body program.main)) b → (x : _) × (b ≡ script x)
  main b r = (r.0, r.2)

  by : (b : Bool) → cond b (Some (runs None o.0)) None ≡ Some y → IsStarted [] opening d.acks u
  by true e =
      let same : runs None o.0 ≡ y = cc in
      let m = main o.0 o.1 in
      absurd (let k : script m.0 ≡ system_task (a_delivery d l n) = sym m.1 ∙ ap (λ (z : Task). z.body) same ∙ is in cc)
  by false e = absurd (let k : None ≡ Some y = e in cc)

pub starting_keeps : (program : ProgramView) (last : State) → Keeps program last (λ journal roles s. AllStarted journal s)
starting_keeps program last journal rest roles more s mid e traced g k turn g2 steps all u y d l n at is = by (s.tasks u) refl where
  stays : IsStarted journal s d.acks u → IsStarted (journal ++ e ∷ []) mid d.acks u
  stays m = (m.0, m.1, m.2, (moved program (mult_body m.1 m.2) (mult_op m.1 m.2) mult_next (mult_table m.1 m.2 program) journal s mid e traced k m.0 m.3).0, m.4, started_more u m.0 journal e m.5)

  -- it was a delivery
  was : (z : Task) → s.tasks u ≡ Some z → IsStarted (journal ++ e ∷ []) mid d.acks u
  was z there = old seen.2 where
    seen : (y : Task) × (mid.tasks u ≡ Some y) × Acts program z y (deed u (wait_of z.mode) e)
    seen = acts program s mid u z there traced.stood traced.known.sound.waited e k

    body : seen.0.body ≡ system_task (a_delivery d l n)
    body = ap (λ (q : Task). q.body) (let f : Some seen.0 ≡ Some y = sym seen.1 ∙ at in let h : seen.0 ≡ y = cc in h) ∙ is

    old : Acts program z seen.0 (deed u (wait_of z.mode) e) → IsStarted (journal ++ e ∷ []) mid d.acks u
    old (idles i ye) = stays (all u z d l n there (ap (λ (q : Task). q.body) (sym ye) ∙ body))
    old (parks op w i may here m ye) = stays (all u z d l n there (ap (λ (q : Task). q.body) (sym ye) ∙ body))
    old (stops how i m v ye) = stays (all u z d l n there (ap (λ (q : Task). q.body) (sym ye) ∙ body))
    old (goes op c v b2 i here ans r ye) =
        let before = was_delivery program v z.body d l n (subst (BodyRest program (body_fill v z.body)) (sym (ap (λ (q : Task). q.body) ye) ∙ body) r) in
        stays (all u z d l before.0 there before.1)

  -- it is new
  new : s.tasks u ≡ None → (v : ℕ) (kind : TaskKind) (result : Option ℕ) → e ≡ spawned v u kind result → IsStarted (journal ++ e ∷ []) mid d.acks u
  new absent v kind result ev = by_task p.0.body refl where
    p : Step program s (spawned v u kind result) mid
    p = subst (λ i. Step program s i mid) ev k

    here : p.3 ≡ system_task (a_delivery d l n)
    here =
        let f : mid.tasks u ≡ Some (runs result p.3) = ap (λ (q : Tasks). q u) (tasks_of p.10) ∙ update_here p.2 u (Some (runs result p.3)) in
        let h : Some (runs result p.3) ≡ Some y = sym f ∙ at in
        let same : runs result p.3 ≡ y = cc in
        ap (λ (q : Task). q.body) same ∙ is

    rest_of : BodyRest program (new_task program p.1) (system_task (a_delivery d l n))
    rest_of = subst (BodyRest program (new_task program p.1)) here p.9

    seed : (values : Trees) × (q : Place) × (p.1 ≡ system Deliver values q)
    seed = delivery_seed program p.1 d l n rest_of

    by_task : (b : TaskBody) → p.0.body ≡ b → IsStarted (journal ++ e ∷ []) mid d.acks u
    by_task (script b) i = absurd (g.starts_none v p.0 b seed.0 seed.1 i (subst (λ z. RunsAtOperation s v (spawning z) p.0) seed.2 p.4))
    by_task (system_task b) i =
        let m = spawner b p.1 (subst (λ z. IsAtOp z (spawning p.1)) i p.4.2) in
        let its : Delivery = record { mult = m.0.mult; channel = m.4; value = m.3; acks = m.0.acks } in
        let fresh : BodyRest program (new_task program (system Deliver (item (port m.0.mult) (item (port m.4) (item m.3 (item (port m.0.acks) none)))) m.1)) (system_task (a_delivery d l n)) = subst (λ z. BodyRest program (new_task program z) (system_task (a_delivery d l n))) m.6 rest_of in
        let same : system_task (a_delivery d l n) ≡ system_task (a_delivery (record { mult = m.0.mult; channel = m.4; value = m.3; acks = m.0.acks }) m.1 (to deliver_puts)) = fresh.2 ∙ ap system_task fresh.1 in
        let ports : d ≡ record { mult = m.0.mult; channel = m.4; value = m.3; acks = m.0.acks } = cc in
        let stands : Standing (mult_body m.0 m.1) v s = record { now = m.2; task = p.0; there = p.4.0; body_is = i ∙ ap system_task m.5 } in
        let does : deed v (wait_in v journal) e ≡ Some (did_spawn u kind result) = ap (deed v (wait_in v journal)) ev ∙ ap (λ b. cond b (Some (did_spawn u kind result)) None) (eq-eqb v v refl) in (
          v,
          m.0,
          m.1,
          (moved program (mult_body m.0 m.1) (mult_op m.0 m.1) mult_next (mult_table m.0 m.1 program) journal s mid e traced k v stands).0,
          sym (ap (λ (q : Delivery). q.acks) ports),
          subst (λ z. is_among u (tasks_started z) ≡ true) (sym (deeds_more v None journal e ∙ ap (and_deed (deeds v journal)) does)) (subst (λ z. is_among u z ≡ true) (sym (each_more started_by (deeds v journal) (did_spawn u kind result))) (among_last u (tasks_started (deeds v journal)))),
        )

  by : (o : Option Task) → s.tasks u ≡ o → IsStarted (journal ++ e ∷ []) mid d.acks u
  by (Some z) there = was z there
  by None absent = at_comes (comes program s mid u absent e k) where
    at_comes : (mid.tasks u ≡ None) ⊎ ((v : ℕ) × (kind : TaskKind) × (result : Option ℕ) × (b : TaskBody) × (e ≡ spawned v u kind result) × (mid.tasks u ≡ Some (runs result b))) → IsStarted (journal ++ e ∷ []) mid d.acks u
    at_comes (inl gone) = absurd (let f : None ≡ Some y = sym gone ∙ at in cc)
    at_comes (inr z) = new absent z.0 z.1 z.2 z.4
