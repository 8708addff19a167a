-- The tick of a follower's own clock is the only one that the states have for which it stands.
use Rattle.std.proofs.Common.{◌≡◌, ℕ, ◌<◌, List, [], refl, sym, ap, ◌∙◌, subst, Option, Some, None, option_map, false, true}
use Rattle.std.specs.Prelude.{◌≢◌, IsSome}
use Rattle.ca_term.specs.Event.{EventView, ticked}
use Rattle.ca_timers.specs.Timers.{TimersView}
use Rattle.ca_meaning.specs.State.{due}
use Rattle.ca_meaning.specs.TaskSteps.{moments}
use Rattle.ca_states.specs.Code.{CodeView}
use Rattle.ca_commit.specs.Making.{KeepsOthers}
use Rattle.ca_commit.specs.NewPort.{Times, times_in, times_of}
use Rattle.ca_commit.specs.Running.{Placed}
use Rattle.ca_commit.specs.Showing.{channels_held, registries_held, waits_held}
use Rattle.ca_commit.specs.Ticking.{closed_all, due_in, ticked_at}
use Rattle.ca_commit.specs.Waking.{ready_in}
use Rattle.ca_commit.specs.declared.held.Held.{Held}
use Rattle.ca_commit.proofs.Seats.{some_same}
use Rattle.ca_tasks.specs.declared.task.AnyTask.{AnyTask}
use Rattle.ca_follow.specs.Events.{IsNotBefore}
use Rattle.ca_follow.specs.Follower.{IsFollower, IsTickOf, Leads, Refuses, has}
use Rattle.ca_follow.specs.Has.{AreAll, Has, IsAll}
use Rattle.ca_follow.specs.declared.follower.Follower.{Follower}
use Rattle.ca_follow.proofs.AllHeld.{held_closed, held_same}
use Rattle.ca_follow.proofs.Leading.{same_has, tick_leads, tick_refuses}
use Rattle.ca_follow.proofs.Operates.{follower_by}
use Rattle.ca_follow.specs.Ending.{TicksOnly}

-- the ports of such a tick are those that are due
due_is : (o : Option Times) (timers : Option TimersView) (m : ℕ) (ports : List ℕ) → o ≡ times_in timers → TicksOnly m ports o → ports ≡ due_in timers m
due_is o None m ports is x = absurd (let z : Some x.0 ≡ None = sym x.1 ∙ is in cc)
due_is o (Some t) m ports is x = sym x.4 ∙ ap (λ (z : Times). due m z.deadlines) (some_same x.0 (times_of t) (sym x.1 ∙ is))

-- timers are there where what they show is
pub timers_still : (old new : Option TimersView) (f : Times → Times) → times_in new ≡ option_map f (times_in old) → IsSome old → IsSome new
timers_still None new f e is = absurd (let z : false ≡ true = is in cc)
timers_still (Some o) (Some n) f e is = refl
timers_still (Some o) None f e is = absurd (let z : None ≡ Some (f (times_of o)) = e in cc)

-- what a follower has after a tick, and that it is one still
module _ (f : Follower) (d d2 : Held AnyTask) (m : ℕ) (banks : d.banks ≡ f.held.banks) (others : KeepsOthers f.held d) (channels : (i : ℕ) → channels_held d2.banks i ≡ closed_all (due_in d.timers m) (channels_held d.banks) i)
    (registries : (i : ℕ) → registries_held d2.banks i ≡ registries_held d.banks i) (shards : d2.shards ≡ d.shards) (times : times_in d2.timers ≡ option_map (ticked_at m) (times_in d.timers)) where
  closed_now : (i : ℕ) → channels_held d2.banks i ≡ closed_all (due_in d.timers m) (channels_held f.held.banks) i
  closed_now i = channels i ∙ ap (λ z. closed_all (due_in d.timers m) (channels_held z) i) banks

  same_registries : (i : ℕ) → registries_held d2.banks i ≡ registries_held f.held.banks i
  same_registries i = registries i ∙ ap (λ z. registries_held z i) banks

  pub ticked_has : record (has f) { bank = closed_all (due_in d.timers m) (has f).bank; times = option_map (ticked_at m) (has f).times } ≡ has (record f { held = d2 })
  ticked_has = same_has (record (has f) { bank = closed_all (due_in d.timers m) (has f).bank; times = option_map (ticked_at m) (has f).times }) (has (record f { held = d2 })) (λ i. sym (closed_now i)) (λ i. sym (same_registries i))
      (λ i. sym (ap (λ z. waits_held z i) (shards ∙ others.0))) (sym (times ∙ ap (λ z. option_map (ticked_at m) (times_in z)) others.1)) (λ v. refl) (λ v. refl) (λ v. refl)

  pub ticked_follower : d2.ready ≡ d.ready → IsFollower f → IsFollower (record f { held = d2 })
  ticked_follower ready is = let b = held_same (closed_all (due_in d.timers m) (has f).bank) (has (record f { held = d2 })).bank closed_now (held_closed (due_in d.timers m) (has f).bank (is.all.banks, is.all.bank_placed)) in
      let k = held_same (has f).registry (has (record f { held = d2 })).registry same_registries (is.all.registries, is.all.registry_placed) in
      follower_by f (record f { held = d2 }) is (record {
        banks = b.0;
        registries = k.0;
        shards = subst (λ z. AreAll (waits_held z)) (sym (shards ∙ others.0)) is.all.shards;
        bank_placed = b.1;
        registry_placed = k.1;
        shard_placed = subst (λ z. Placed (waits_held z)) (sym (shards ∙ others.0)) is.all.shard_placed;
      })
      (timers_still d.timers d2.timers (ticked_at m) times (subst (λ z. IsSome z) (sym others.1) is.timers)) (ap ready_in (ready ∙ others.2) ∙ is.ready) refl (λ i. ap (λ z. waits_held z i) (shards ∙ others.0)) refl

module _ (code : CodeView) (e : EventView) (h : Has AnyTask) (m : ℕ) where
  pub ticks_on : (g : Has AnyTask) (timers : Option TimersView) → h.times ≡ times_in timers → IsAll h → IsSome timers → IsNotBefore h.times m → m < moments → due_in timers m ≢ [] → ticked m (due_in timers m) ≡ e
      → record h { bank = closed_all (due_in timers m) h.bank; times = option_map (ticked_at m) h.times } ≡ g → Leads code e h g
  ticks_on g None is all there late bound some same new = absurd (let z : false ≡ true = there in cc)
  ticks_on g (Some t) is all there late bound some same new = tick_leads code e h g m (due m t.deadlines) (times_of t) all is (subst (λ (o : Option Times). IsNotBefore o m) is late) bound refl some same new

  pub ticks_off : (timers : Option TimersView) → h.times ≡ times_in timers → IsTickOf m e → (IsNotBefore h.times m → m < moments → due_in timers m ≢ [] → ticked m (due_in timers m) ≡ e → ⊥) → Refuses code e h
  ticks_off timers is tick off = tick_refuses code e h m tick (λ ports x same. let d = due_is h.times timers m ports is x in
      off (subst (λ (o : Option Times). IsNotBefore o m) (sym x.1) x.2) x.3 (λ none. x.5 (d ∙ none)) (ap (λ (z : List ℕ). ticked m z) (sym d) ∙ same))
