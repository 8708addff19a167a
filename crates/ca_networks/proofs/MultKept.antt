-- Every guarded run keeps the mult law.
use Rattle.std.proofs.Common.{◌≡◌, ◌≢◌, ◌⊎◌, inl, inr, ℕ, List, [], ◌∷◌, ◌++◌, refl, sym, ap, ◌∙◌, subst, true, false, cond, Option, Some, None, eq-eqb, append_assoc, append-nil}
use Rattle.std.proofs.lemmas.Grind.{flat_map-append}
use Rattle.ca_value.specs.Tree.{Tree, Trees, port, item}
use Rattle.ca_term.specs.declared.place.Place.{Place}
use Rattle.ca_term.specs.declared.head.RegisterName.TheVariants.{Taps}
use Rattle.ca_term.specs.declared.event.TaskKind.{TaskKind}
use Rattle.ca_term.specs.declared.head.SystemTask.TheVariants.{Mult, Deliver}
use Rattle.ca_term.specs.Operation.{taking, registering, spawning, closing, system}
use Rattle.ca_term.specs.Program.{ProgramView}
use Rattle.ca_term.specs.Event.{EventView, spawned}
use Rattle.ca_meaning.specs.Asks.{Next, to, taps_in, one_of, two_of}
use Rattle.ca_meaning.specs.Going.{IsAtOp}
use Rattle.ca_meaning.specs.MultTable.{MultPorts, MultState, mult_takes, mult_reads, mult_spawns, mult_waits, mult_reads_last, mult_closes}
use Rattle.ca_meaning.specs.Operands.{port_of_value}
use Rattle.ca_meaning.specs.Registry.{TapView}
use Rattle.ca_meaning.specs.Sound.{Each}
use Rattle.ca_meaning.specs.State.{State, Task, running}
use Rattle.ca_meaning.specs.Steps.{Step}
use Rattle.ca_meaning.specs.System.{a_mult}
use Rattle.ca_meaning.specs.Task.{system_task}
use Rattle.ca_meaning.specs.Wait.{is_among}
use Rattle.ca_meaning.specs.Legal.{Reaches}
use Rattle.ca_laws.specs.Deeds.{Deed, did_take, did_register, deeds}
use Rattle.ca_laws.specs.Taken.{put_in, Begins}
use Rattle.ca_laws.specs.MultRules.{DeliverRule, mult_ports, delivery_of, delivery_to}
use Rattle.ca_laws.specs.Rules.{SpawnsFrom}
use Rattle.ca_laws.proofs.Delivering.{deliveries_keep_to}
use Rattle.ca_roles.specs.Roles.{acks, public, hidden, Roles, no_roles}
use Rattle.ca_roles.specs.Typed.{TypedSystem, TypedBody}
use Rattle.ca_networks.specs.Networks.{started_by, tasks_started, taken_from, AllNew, EachFor}
use Rattle.ca_networks.specs.MultLaw.{delivery_values, HasDelivered, HasDeliveredAll, KeepsMult, MultLaw}
use Rattle.ca_networks.proofs.Guarded.{Guard, Guarded, IsGuarded}
use Rattle.ca_networks.proofs.Walking.{Keeps, Cut, first_cut, last_part, last_guard, steps_join, guard_after}
use Rattle.ca_networks.proofs.Standing.{Standing}
use Rattle.ca_networks.proofs.Spawning.{fresh_standing, fresh_deeds, not_refused}
use Rattle.ca_networks.proofs.Tables.{mult_body, mult_op, mult_table}
use Rattle.ca_networks.proofs.Lists.{each_among, for_to, new_behind}
use Rattle.ca_networks.proofs.Rounds.{Round, no_round, has_taken, has_read, reads_for, round_after, round_from, round, round_join, round_since, failed_since, Fors, RoundHas, MultAt, AllRead, read_here}
use Rattle.ca_networks.proofs.Delivered.{its_rule, puts_begin, HasAnswered, both_done, both_puts}
use Rattle.ca_networks.proofs.Starting.{AllStarted, none_started, starting_keeps}
use Rattle.ca_networks.proofs.Readings.{mult_stays, mult_there}
use Rattle.ca_networks.proofs.Multing.{For, Member, IsThere, Multing, mult_step}

-- one event more
reaches_more : (program : ProgramView) (journal : List EventView) (s s2 : State) (e : EventView) → Reaches program journal s → Step program s e s2 → Reaches program (journal ++ e ∷ []) s2
reaches_more program journal s s2 e r k = record { opening = r.opening; opens = r.opens; steps = steps_join program journal (e ∷ []) r.opening s s2 r.steps (s2, k, refl) }

abbrev WithMult : ProgramView → MultPorts → Place → ℕ → List EventView → Roles → State → Type 0
WithMult program x place t journal roles s = Reaches program journal s × AllStarted journal s × Multing program x place t journal s

mult_keeps : (program : ProgramView) (x : MultPorts) (place : Place) (t : ℕ) (last : State) → Keeps program last (WithMult program x place t)
mult_keeps program x place t last journal rest roles more s mid e traced g k turn g2 steps p =
    let r = reaches_more program journal s mid e p.0 k in
    (r, starting_keeps program last journal rest roles more s mid e traced g k turn g2 steps p.1, mult_step program x place t journal roles s mid e traced p.0 r g k p.1 p.2)

-- at its source a mult waits for nobody
at_source : {G : Type 0} (program : ProgramView) (x : MultPorts) (place : Place) (F : Fors) (n : Next MultState) (r : Round) (p : List ℕ) → x.source ≢ x.acks → IsAtOp (system_task (a_mult x place n)) (taking (port x.source)) → MultAt F n r p → ((p ≡ []) → RoundHas F r [] → G) → G
at_source {G} program x place F n r p ne at k f = by z.0 z.1 z.2 where
  z : (z : MultState) × (n ≡ to z) × (taking (port x.source) ≡ mult_op x place z)
  z = (mult_table x place program).only n (taking (port x.source)) at

  by : (z : MultState) → n ≡ to z → taking (port x.source) ≡ mult_op x place z → G
  by mult_takes nz o = let h : MultAt F (to mult_takes) r p = subst (λ i. MultAt F i r p) nz k in f h.0 h.1
  by (mult_waits i) nz o = absurd (ne (let q : taking (port x.source) ≡ taking (port x.acks) = o in let h : port x.source ≡ port x.acks = cc in ap port_of_value h))
  by (mult_reads v) nz o = absurd (let q : taking (port x.source) ≡ registering Taps (one_of (port x.mult)) = o in cc)
  by (mult_spawns v tap taps i) nz o = absurd (let q : taking (port x.source) ≡ spawning (system Deliver (item (port x.mult) (item (port tap.channel) (two_of v (port x.acks)))) place) = o in cc)
  by mult_reads_last nz o = absurd (let q : taking (port x.source) ≡ registering Taps (one_of (port x.mult)) = o in cc)
  by (mult_closes c cs) nz o = absurd (let q : taking (port x.source) ≡ closing (port c) = o in cc)

module _ (program : ProgramView) (x : MultPorts) (place : Place) (t : ℕ) (journal : List EventView) (roles : Roles) (s : State) (reaches : Reaches program journal s) (g : Guard program roles s) (m : Multing program x place t journal s) where
  apart : x.source ≢ x.acks
  apart i =
      let h : TypedSystem program roles (a_mult x place m.at.now) = subst (TypedBody program t roles) m.at.body_is (g.typed.tasks t m.at.task m.at.there).body in
      let a = h.2 in
      let j : Some public ≡ Some (hidden a.0 acks) = sym h.1 ∙ ap roles i ∙ a.1 in
      cc

  -- after a take from its source
  taken_round : (before : List Deed) (k : ℕ) (v : Tree) → round x (before ++ did_take k x.source v ∷ []) ≡ has_taken v
  taken_round before k v = round_join x no_round before (did_take k x.source v ∷ []) ∙ ap (λ b. cond b (has_taken v) (round x before)) (eq-eqb x.source x.source refl)

  reads : (before after : List Deed) (k : ℕ) (v : Tree) (d : Deed) → deeds t journal ≡ before ++ did_take k x.source v ∷ d ∷ after → (a : Tree) × (d ≡ did_register Taps (one_of (port x.mult)) a)
  reads before after k v d is = read_here x [] (before ++ did_take k x.source v ∷ []) after d (subst (AllRead x []) (is ∙ sym (append_assoc before (did_take k x.source v ∷ []) (d ∷ after))) m.read) v (taken_round before k v)

  -- a task of a tap has delivered, where no answer is to come
  delivered : m.pending ≡ [] → (v : Tree) (tap : TapView) (u : ℕ) → For program x place (tasks_started (deeds t journal)) journal v tap u → HasDelivered program x place v journal tap u
  delivered none v tap u f = (f.0, both_done (delivery_to x tap v) (put_in (deeds u journal)) f.2 begins (has (each_among (Member program x place journal m.pending) (tasks_started (deeds t journal)) u m.members f.1).4)) where
    begins : Begins (put_in (deeds u journal)) (both_puts (delivery_to x tap v))
    begins = puts_begin (delivery_to x tap v) u journal s (its_rule program journal s Deliver (λ values place. DeliverRule (delivery_of values)) (delivery_values x tap v) place u (deliveries_keep_to program journal s reaches) f.0)

    has : HasAnswered x.acks (put_in (deeds u journal)) ⊎ (is_among u m.pending ≡ true) → HasAnswered x.acks (put_in (deeds u journal))
    has (inl q) = q
    has (inr i) = absurd (let q : false ≡ true = ap (is_among u) (sym none) ∙ i in cc)

  delivers : (before since : List Deed) (k : ℕ) (v : Tree) (y : Task) → deeds t journal ≡ before ++ did_take k x.source v ∷ since → taken_from x.source since ≡ [] → s.tasks t ≡ Some y → IsAtOp y.body (taking (port x.source)) → HasDeliveredAll program x place v journal since
  delivers before since k v y is none there at = at_source program x place (λ v. EachFor (For program x place (tasks_started (deeds t journal)) journal v)) m.at.now (round x (deeds t journal)) m.pending apart here m.stands (λ p h. by since is none p h) where
    here : IsAtOp (system_task (a_mult x place m.at.now)) (taking (port x.source))
    here = subst (λ b. IsAtOp b (taking (port x.source))) (ap (λ (z : Task). z.body) (let q : Some y ≡ Some m.at.task = sym there ∙ m.at.there in let i : y ≡ m.at.task = cc in i) ∙ m.at.body_is) at

    -- the round by what it did since
    round_is : (since : List Deed) → deeds t journal ≡ before ++ did_take k x.source v ∷ since → round x (deeds t journal) ≡ round_from x (has_taken v) since
    round_is since is = ap (round x) (is ∙ sym (append_assoc before (did_take k x.source v ∷ []) since)) ∙ round_join x no_round (before ++ did_take k x.source v ∷ []) since ∙ ap (λ r. round_from x r since) (taken_round before k v)

    by : (since : List Deed) → deeds t journal ≡ before ++ did_take k x.source v ∷ since → taken_from x.source since ≡ [] → m.pending ≡ [] → RoundHas (λ v. EachFor (For program x place (tasks_started (deeds t journal)) journal v)) (round x (deeds t journal)) [] → HasDeliveredAll program x place v journal since
    by [] is none p h = absurd (subst (λ r. RoundHas (λ v. EachFor (For program x place (tasks_started (deeds t journal)) journal v)) r []) (round_is [] is) h)
    by (d ∷ rest) is none p h = found (taps_in a.0) refl where
      a : (a : Tree) × (d ≡ did_register Taps (one_of (port x.mult)) a)
      a = reads before rest k v d is

      none_rest : taken_from x.source rest ≡ []
      none_rest = subst (λ z. taken_from x.source (z ∷ rest) ≡ []) a.1 none

      round_read : round x (deeds t journal) ≡ round_from x (reads_for v (taps_in a.0)) rest
      round_read = round_is (d ∷ rest) is ∙ ap (λ z. round_from x (round_after x z (has_taken v)) rest) a.1

      found : (o : Option (List TapView)) → taps_in a.0 ≡ o → HasDeliveredAll program x place v journal (d ∷ rest)
      found None o = absurd (subst (λ r. RoundHas (λ v. EachFor (For program x place (tasks_started (deeds t journal)) journal v)) r []) (round_read ∙ ap (λ z. round_from x (reads_for v z) rest) o ∙ failed_since x rest none_rest) h)
      found (Some taps) o =
          let r : round x (deeds t journal) ≡ has_read v taps (tasks_started rest) = round_read ∙ ap (λ z. round_from x (reads_for v z) rest) o ∙ round_since x v taps [] rest none_rest in
          let q : RoundHas (λ v. EachFor (For program x place (tasks_started (deeds t journal)) journal v)) (has_read v taps (tasks_started rest)) [] = subst (λ z. RoundHas (λ v. EachFor (For program x place (tasks_started (deeds t journal)) journal v)) z []) r h in
          (d, rest, taps, refl, (a.0, a.1, o), subst (λ z. EachFor (HasDelivered program x place v journal) z (tasks_started rest)) (sym (q.1 ∙ append-nil q.0)) (for_to (For program x place (tasks_started (deeds t journal)) journal v) (HasDelivered program x place v journal) q.0 (tasks_started rest) (λ tap u f. delivered p v tap u f) q.2), new) where
            new : AllNew (tasks_started rest)
            new = new_behind (tasks_started (before ++ did_take k x.source v ∷ d ∷ [])) (tasks_started rest) (subst AllNew (ap tasks_started (is ∙ sym (append_assoc before (did_take k x.source v ∷ d ∷ []) rest)) ∙ flat_map-append started_by (before ++ did_take k x.source v ∷ d ∷ []) rest) m.all_new)

  pub mult_law_of : KeepsMult program x place t journal s
  mult_law_of = record { reads = reads; delivers = delivers }

-- at its Spawn
module _ (program : ProgramView) (values : Trees) (place : Place) (t u : ℕ) (result : Option ℕ) (early late : List EventView) (more : Roles) (last : State) (from : SpawnsFrom program early u (system Mult values place)) (cut : Cut program early (spawned u t TaskKind.Mult result) late more last) where
  mult_now : (y : Standing (mult_body (mult_ports values) place) t cut.state2) × (y.now ≡ to mult_takes) × (y.task.mode ≡ running)
  mult_now = fresh_standing program early cut.state cut.state2 u t Mult result values place from cut.reaches cut.step (mult_body (mult_ports values) place) (to mult_takes) (λ c r. r)

  none : deeds t (early ++ spawned u t TaskKind.Mult result ∷ []) ≡ []
  none = fresh_deeds program early cut.state cut.state2 u t Mult result values place from cut.reaches cut.step cut.traced

  pub mult_begins : Multing program (mult_ports values) place t (early ++ spawned u t TaskKind.Mult result ∷ []) cut.state2
  mult_begins = record {
    at = mult_now.0;
    pending = [];
    stands = subst (λ n. MultAt (λ v. EachFor (For program (mult_ports values) place (tasks_started (deeds t (early ++ spawned u t TaskKind.Mult result ∷ []))) (early ++ spawned u t TaskKind.Mult result ∷ []) v)) n (round (mult_ports values) (deeds t (early ++ spawned u t TaskKind.Mult result ∷ []))) []) (sym mult_now.1)
        (subst (λ z. MultAt (λ v. EachFor (For program (mult_ports values) place (tasks_started z) (early ++ spawned u t TaskKind.Mult result ∷ []) v)) (to mult_takes) (round (mult_ports values) z) []) (sym none) (refl, tt));
    members = subst (λ z. Each (Member program (mult_ports values) place (early ++ spawned u t TaskKind.Mult result ∷ []) []) (tasks_started z)) (sym none) tt;
    read = subst (AllRead (mult_ports values) []) (sym none) tt;
    there = subst (λ z. Each (IsThere cut.state2) (tasks_started z)) (sym none) tt;
    all_new = subst (λ z. AllNew (tasks_started z)) (sym none) tt;
    is_mult = mult_stays program cut.state cut.state2 (mult_ports values).mult (spawned u t TaskKind.Mult result) cut.step (mult_there cut.state values place (not_refused program early cut.state cut.state2 u t Mult result values place from cut.reaches cut.step));
  }

pub mult_law : (program : ProgramView) (journal : List EventView) (last : State) → IsGuarded program journal last → MultLaw program journal last
mult_law program journal last guarded values place t is =
    let x = mult_ports values in
    let e = spawned is.spawner t TaskKind.Mult is.result in
    let g : Guarded program no_roles guarded.opening (is.early ++ e ∷ is.late) guarded.roles last = subst (λ j. Guarded program no_roles guarded.opening j guarded.roles last) is.told guarded.guarded in
    let cut = first_cut program is.early is.late e guarded.roles guarded.opening last guarded.opens g in
    let begun = cut.1 (λ j r s. AllStarted j s) (starting_keeps program cut.0.state) (none_started program guarded.opening guarded.opens) in
    let first : WithMult program x place t (is.early ++ e ∷ []) cut.0.next cut.0.state2 = (
      reaches_more program is.early cut.0.state cut.0.state2 e cut.0.reaches cut.0.step,
      starting_keeps program cut.0.state2 is.early [] cut.0.roles cut.0.next cut.0.state cut.0.state2 e cut.0.traced cut.0.guard cut.0.step cut.0.turn (guard_after program is.early e is.late guarded.roles last cut.0) refl begun,
      mult_begins program values place t is.spawner is.result is.early is.late guarded.roles last is.from cut.0,
    ) in
    let end : WithMult program x place t journal guarded.roles last = subst (λ j. WithMult program x place t j guarded.roles last) (sym is.told) (last_part program is.early is.late e guarded.roles last cut.0 (WithMult program x place t) (mult_keeps program x place t last) first) in
    mult_law_of program x place t journal guarded.roles last end.0 (last_guard program journal no_roles guarded.roles guarded.opening last guarded.guarded) end.2
