-- A channel that settled in what a follower holds settled in what it has, and it stays a follower.
use Rattle.std.proofs.Common.{◌≡◌, ℕ, suc, ◌<◌, List, [], refl, sym, ap, ◌∙◌, subst, true, Option, Some, None, option_map, arith}
use Rattle.std.specs.Prelude.{IsSome, is_some}
use Rattle.ca_value.specs.Tree.{Tree}
use Rattle.ca_value.specs.declared.value.PortId.{PortId}
use Rattle.ca_term.specs.Event.{EventView, event_view, settled}
use Rattle.ca_term.specs.Program.{ProgramView}
use Rattle.ca_term.specs.declared.event.Event.{Event}
use Rattle.ca_term.specs.declared.event.Side.{Side}
use Rattle.ca_term.specs.declared.event.WaitId.{WaitId}
use Rattle.ca_meaning.specs.State.{State}
use Rattle.ca_meaning.specs.Wait.{told}
use Rattle.ca_states.specs.Code.{CodeView}
use Rattle.ca_states.specs.ValidCode.{valid_code}
use Rattle.ca_commit.specs.Agents.{TaskAgent}
use Rattle.ca_commit.specs.Contents.{Kept, Parked, owner, whole}
use Rattle.ca_commit.specs.Deciding.{IsStale}
use Rattle.ca_commit.specs.Finding.{Serving, glance, rests, rests_on_stale, rests_on_unheld, serves, settle_at}
use Rattle.ca_commit.specs.Listing.{changed_at}
use Rattle.ca_commit.specs.NewPort.{times_in}
use Rattle.ca_commit.specs.Settling.{IsSettled, Settles, served_in, settle_change, value_settled}
use Rattle.ca_commit.specs.Showing.{channels_held, registries_held, waits_held}
use Rattle.ca_commit.specs.Waking.{KeepsNumbers, WakesBy, ready_in}
use Rattle.ca_commit.specs.declared.held.Held.{Held}
use Rattle.ca_commit.specs.declared.settling.SettleNext.{SettleNext}
use Rattle.ca_commit.specs.declared.settling.SettleNext.TheVariants as S
use Rattle.ca_commit.proofs.Stales.{settle_stale}
use Rattle.ca_tasks.specs.TaskLaws.{task_stays}
use Rattle.ca_tasks.specs.Tasks.{gives, task_over_code, place, stands, starts}
use Rattle.ca_tasks.specs.declared.task.AnyTask.{AnyTask}
use Rattle.ca_follow.specs.Applies.{knows_all, with_all}
use Rattle.ca_follow.specs.Follower.{IsDecidedNext, IsFollower, IsOverCode, IsPrune, IsSettleOf, Leads, Refuses, SettledBy, FollowerStands, has, is_known_task, running_in}
use Rattle.ca_follow.specs.Follows.{Follows}
use Rattle.ca_follow.specs.Has.{Has, IsAll, parts_had}
use Rattle.ca_follow.specs.Pruning.{queued_at}
use Rattle.ca_follow.specs.Settles.{ServesOnly, SettlesTo}
use Rattle.ca_follow.specs.declared.follower.Follower.{Follower}
use Rattle.ca_follow.proofs.AllHeld.{AreHeld, held_changed, held_same}
use Rattle.ca_follow.proofs.GoneOn.{wakes_some, woken_known}
use Rattle.ca_follow.proofs.Leading.{same_has, settle_leads, settle_refuses}
use Rattle.ca_follow.proofs.NeverLooks.{settle_never_looks}
use Rattle.ca_follow.proofs.Operates.{follower_by}
use Rattle.ca_follow.proofs.Readied.{some_ready}
use Rattle.ca_follow.proofs.StillOver.{OwnersOver, all_are, owners_left, owners_over, paused_by, woken_over}

-- what is reserved for a channel changes nothing, and then it settles
pub once : (f : Follower) (d d2 : Held AnyTask) (p : ℕ) (next : SettleNext) → IsFollower f → ((i : ℕ) → channels_held d.banks i ≡ channels_held f.held.banks i) → ((i : ℕ) → registries_held d.banks i ≡ registries_held f.held.banks i)
    → d.shards ≡ f.held.shards → ready_in d.ready ≡ ready_in f.held.ready → KeepsNumbers f.held d → Settles place gives d d2 p (served_in d p) next → SettledBy f (record f { held = d2 }) p next
once f d d2 p next is channels registries shards ready numbers settles = record {
  between = record f { held = d };
  follower = follower_by f (record f { held = d }) is (subst IsAll (sym same) is.all) (subst (λ z. IsSome z) (sym numbers.0) is.timers) (ready ∙ is.ready) refl (λ i. ap (λ z. waits_held z i) shards) refl;
  stands = λ program s st. subst (λ z. FollowerStands program z s) (sym same) st;
  settles = settles;
  tasks = refl;
  waits = refl;
  code = refl;
} where
  same : has (record f { held = d }) ≡ has f
  same = same_has (has (record f { held = d })) (has f) channels registries (λ i. ap (λ z. waits_held z i) shards) (ap times_in numbers.0) (λ v. refl) (λ v. refl) (λ v. refl)

-- where a stale handler has to go first nothing was done
pub once_same : (d d2 : Held AnyTask) (p : ℕ) (z : Serving) (next : SettleNext) → Settles place gives d d2 p z next → IsPrune next → d2 ≡ d
once_same d d2 p z S.None k is = absurd is
once_same d d2 p z (S.Settled e) k is = absurd is
once_same d d2 p z (S.Look w) k is = absurd is
once_same d d2 p rests (S.Prune q s i) k is = absurd k
once_same d d2 p (rests_on_stale side) (S.Prune q s i) k is = k.3
once_same d d2 p (rests_on_unheld w) (S.Prune q s i) k is = absurd k
once_same d d2 p (serves side w o) (S.Prune q s i) k is = absurd k

-- who waited is known
known_owner : (program : ProgramView) (h : Has AnyTask) (s : State) → Follows place stands program h s → (w u : ℕ) (a : TaskAgent AnyTask) → whole h.shard w ≡ Some (owner u a) → h.known u ≡ true
known_owner program h s f w u a e = sym (f.known u) ∙ ap (λ o. is_some o) (f.owners w u a e).1.1.0

-- those that were ready in `mid` can go on in `new`, and nothing else is otherwise
pub record Takes (mid new : Follower) : Type 0 where
  pub ready : IsSome mid.held.ready → ready_in new.held.ready ≡ Some []
  pub running : (q : List (ℕ × TaskAgent AnyTask)) → ready_in mid.held.ready ≡ Some q → (t : ℕ) → running_in new.tasks t ≡ with_all q (running_in mid.tasks) t
  pub known : (q : List (ℕ × TaskAgent AnyTask)) → ready_in mid.held.ready ≡ Some q → (t : ℕ) → is_known_task new.tasks t ≡ knows_all q (is_known_task mid.tasks) t
  pub banks : new.held.banks ≡ mid.held.banks
  pub shards : new.held.shards ≡ mid.held.shards
  pub timers : new.held.timers ≡ mid.held.timers
  pub waits : new.waits ≡ mid.waits
  pub code : new.code ≡ mid.code

-- what the channel served, and who woke
pub record Served (old mid new : Follower) (p : ℕ) (e : Event) (x : SettledBy old mid p (S.Settled e)) : Type 0 where
  pub side : Side
  pub wait : ℕ
  pub branch : ℕ
  pub event : event_view e ≡ settled wait branch side p (value_settled side (whole (has x.between).bank p))
  pub to : SettlesTo place gives p side wait branch (has x.between) (has new)
  pub follower : IsFollower new

module _ (old mid new : Follower) (p : ℕ) (e : Event) (x : SettledBy old mid p (S.Settled e)) (takes : Takes mid new) (program : ProgramView) (s : State) (stood : FollowerStands program (has old) s) where
  served_as : (side : Side) (w o : ℕ) → served_in x.between.held p ≡ serves side w o → IsSettled place gives x.between.held mid.held p side w o e → Served old mid new p e x
  served_as side w o serving is = record {
    side = side;
    wait = w;
    branch = o;
    event = is.event;
    to = record {
      serves_it = serving;
      bank = λ i. ap (λ z. channels_held z i) takes.banks ∙ is.channels i;
      registry = λ i. ap (λ z. registries_held z i) takes.banks ∙ is.registries i;
      shard = shards;
      times = ap times_in (takes.timers ∙ is.numbers.0);
      woken = woken;
      wakes = wakes;
      running = λ v. takes.running woken ready v ∙ ap (λ z. with_all woken (running_in z) v) x.tasks;
      known = λ v. takes.known woken ready v ∙ ap (λ z. knows_all woken (is_known_task z) v) x.tasks ∙ woken_known place gives starts there p passed (has x.between).known woken (λ u a at. known_owner program (has x.between) s (x.stands program s stood).follows w u a at) wakes v;
      used = λ v. ap (λ z. (has (record new { waits = z })).used v) (takes.waits ∙ x.waits);
    };
    follower = record {
      all = record { banks = banks.0; registries = registries.0; shards = seats.0; bank_placed = banks.1; registry_placed = registries.1; shard_placed = seats.1 };
      timers = subst (λ z. IsSome z) (sym (takes.timers ∙ is.numbers.0)) x.follower.timers;
      ready = takes.ready (some_ready mid.held.ready woken ready);
      over_code = subst (λ z. IsOverCode (valid_code z.now) (has new)) (sym (takes.code ∙ x.code)) (record {
        running = λ t a at. all_are (λ (y : TaskAgent AnyTask). task_over_code now y.agent) woken (has x.between).running (woken_over place gives starts (task_over_code now) (task_stays now) there p passed woken (λ y e. own w y e) wakes) x.follower.over_code.running t a
            (sym (takes.running woken ready t ∙ ap (λ z. with_all woken (running_in z) t) x.tasks) ∙ at);
        waiting = λ v u a at. (left v (owner u a) at).0;
      });
      paused = paused_by place gives starts (task_over_code now) (task_stays now) (has new).shard left;
    };
  } where
    change : Option Kept → Option Kept
    change = option_map (settle_change side (value_settled side (whole (has x.between).bank p)))

    there : Option (Parked (TaskAgent AnyTask))
    there = whole (has x.between).shard w

    passed : Tree
    passed = told side (value_settled side (whole (has x.between).bank p))

    found : (woken : List (ℕ × TaskAgent AnyTask)) × (ready_in mid.held.ready ≡ Some woken) × WakesBy place gives there p passed (Some []) (Some woken)
    found = wakes_some place gives there p passed (ready_in mid.held.ready) (subst (λ z. WakesBy place gives there p passed z (ready_in mid.held.ready)) x.follower.ready is.wakes)

    woken : List (ℕ × TaskAgent AnyTask)
    woken = found.0

    ready : ready_in mid.held.ready ≡ Some woken
    ready = found.1

    wakes : WakesBy place gives there p passed (Some []) (Some woken)
    wakes = found.2

    shards : (i : ℕ) → (has new).shard i ≡ changed_at w (λ z. None) (has x.between).shard i
    shards i = ap (λ z. waits_held z i) takes.shards ∙ is.waits i

    all : IsAll (has x.between)
    all = x.follower.all

    banks : AreHeld (has new).bank
    banks = held_same (changed_at p change (has x.between).bank) (has new).bank (λ i. ap (λ z. channels_held z i) takes.banks ∙ is.channels i) (held_changed p change (has x.between).bank (all.banks, all.bank_placed))

    registries : AreHeld (has new).registry
    registries = held_same (has x.between).registry (has new).registry (λ i. ap (λ z. registries_held z i) takes.banks ∙ is.registries i) (all.registries, all.registry_placed)

    seats : AreHeld (has new).shard
    seats = held_same (changed_at w (λ z. None) (has x.between).shard) (has new).shard shards (held_changed w (λ z. None) (has x.between).shard (all.shards, all.shard_placed))

    now : CodeView
    now = valid_code x.between.code.now

    own : OwnersOver place gives starts (task_over_code now) (task_stays now) (has x.between).shard
    own = owners_over place gives starts (task_over_code now) (task_stays now) (has x.between).shard x.follower.over_code.waiting x.follower.paused

    left : OwnersOver place gives starts (task_over_code now) (task_stays now) (has new).shard
    left = owners_left place gives starts (task_over_code now) (task_stays now) w (has x.between).shard (has new).shard shards own

  pub served : Served old mid new p e x
  served = by (served_in x.between.held p) refl x.settles where
    by : (z : Serving) → served_in x.between.held p ≡ z → Settles place gives x.between.held mid.held p z (S.Settled e) → Served old mid new p e x
    by rests is k = absurd k
    by (rests_on_stale side) is k = absurd k
    by (rests_on_unheld w) is k = absurd k
    by (serves side w o) is k = served_as side w o is k

module _ (code : CodeView) (e : EventView) (old mid new : Follower) (p : ℕ) where
  -- it is the journal's event, and leads on
  pub served_leads : (made : Event) (x : SettledBy old mid p (S.Settled made)) → Served old mid new p made x → event_view made ≡ e → Leads code e (has old) (has new)
  served_leads made x v is = settle_leads code e (has old) (has x.between) (has new) p v.side v.wait v.branch x.stands v.to (sym v.event ∙ is)

  -- or the channel does nothing else
  pub served_refuses : (made : Event) (x : SettledBy old mid p (S.Settled made)) → Served old mid new p made x → IsSettleOf p e → (event_view made ≡ e → ⊥) → Refuses code e (has old)
  served_refuses made x v is isnt = settle_refuses code e (has old) (has x.between) p x.stands x.follower.all is (λ w k side value only same. isnt (v.event ∙ by w k side value (subst (λ (z : Serving). ServesOnly w k side value (whole (has x.between).bank p) z) v.to.serves_it only) ∙ same)) where
    by : (w k : ℕ) (side : Side) (value : Tree) → ServesOnly w k side value (whole (has x.between).bank p) (serves v.side v.wait v.branch)
        → settled v.wait v.branch v.side p (value_settled v.side (whole (has x.between).bank p)) ≡ settled w k side p value
    by w k side value only = let a : v.side ≡ side = only.0 in let b : v.wait ≡ w = only.1 in let c : v.branch ≡ k = only.2 in let d : value_settled v.side (whole (has x.between).bank p) ≡ value = ap (λ (y : Side). value_settled y (whole (has x.between).bank p)) a ∙ only.3 in cc

  rests_only : (held new_held : Held AnyTask) (z : Serving) (w k : ℕ) (side : Side) (value : Tree) (o : Option Kept) → Settles place gives held new_held p z S.None → ServesOnly w k side value o z → ⊥
  rests_only held new_held rests w k side value o is only = only
  rests_only held new_held (rests_on_stale d) w k side value o is only = is
  rests_only held new_held (rests_on_unheld v) w k side value o is only = is
  rests_only held new_held (serves d v b) w k side value o is only = is

  -- where it rests it does nothing
  pub rests_refuses : (next : SettleNext) → SettledBy old mid p next → IsDecidedNext next → ((made : Event) → next ≡ S.Settled made → ⊥) → IsSettleOf p e → Refuses code e (has old)
  rests_refuses S.None x decided other is = settle_refuses code e (has old) (has x.between) p x.stands x.follower.all is
      (λ w k side value only same. rests_only x.between.held mid.held (served_in x.between.held p) w k side value (whole (has x.between).bank p) x.settles only)
  rests_refuses (S.Settled made) x decided other is = absurd (other made refl)
  rests_refuses (S.Look w) x decided other is = absurd decided
  rests_refuses (S.Prune q side i) x decided other is = absurd decided

-- a follower is what it holds, with the rest
same_follower : (f g : Follower) → f.code ≡ g.code → f.held ≡ g.held → f.tasks ≡ g.tasks → f.waits ≡ g.waits → f ≡ g
same_follower f g code held tasks waits = λ i. record { code = code i; held = held i; tasks = tasks i; waits = waits i }

-- a stale handler stands in the way, and nothing was done
pub record StaleThere (old mid : Follower) (p : ℕ) (side : Side) (place : ℕ) : Type 0 where
  pub follower : IsFollower mid
  pub stands : (program : ProgramView) (s : State) → FollowerStands program (has old) s → FollowerStands program (has mid) s
  pub rests_so : settle_at (glance (has mid).shard) (whole (has mid).bank p) ≡ rests_on_stale side
  pub in_front : place ≡ 0
  pub stale : IsStale (parts_had (has mid)) p side place

module _ (old mid : Follower) (p : ℕ) where
  pub stale_there : (q : PortId) (side : Side) (i : ℕ) (x : SettledBy old mid p (S.Prune q side i)) → StaleThere old mid p side i
  stale_there q side i x = by (served_in x.between.held p) refl x.settles where
    told_so : (d : Side) → served_in x.between.held p ≡ rests_on_stale d → side ≡ d → i ≡ 0 → mid.held ≡ x.between.held → StaleThere old mid p side i
    told_so d is same front held =
        let f : x.between ≡ mid = same_follower x.between mid (sym x.code) (sym held) (sym x.tasks) (sym x.waits) in
        let so : settle_at (glance (has mid).shard) (whole (has mid).bank p) ≡ rests_on_stale side = subst (λ (z : Follower). served_in z.held p ≡ rests_on_stale side) f (is ∙ ap rests_on_stale (sym same)) in record {
          follower = subst (λ (z : Follower). IsFollower z) f x.follower;
          stands = λ program s st. subst (λ (z : Follower). FollowerStands program (has z) s) f (x.stands program s st);
          rests_so = so;
          in_front = front;
          stale = subst (λ (n : ℕ). IsStale (parts_had (has mid)) p side n) (sym front) (settle_stale (parts_had (has mid)) p side so);
        }

    by : (z : Serving) → served_in x.between.held p ≡ z → Settles place gives x.between.held mid.held p z (S.Prune q side i) → StaleThere old mid p side i
    by rests is k = absurd k
    by (rests_on_stale d) is k = told_so d is k.1 k.2 k.3
    by (rests_on_unheld w) is k = absurd k
    by (serves d w o) is k = absurd k

  -- all shards are held, so none is asked for
  pub never_asks : (w : WaitId) → SettledBy old mid p (S.Look w) → ⊥
  never_asks w x = by (served_in x.between.held p) refl x.settles where
    by : (z : Serving) → served_in x.between.held p ≡ z → Settles place gives x.between.held mid.held p z (S.Look w) → ⊥
    by rests is k = k
    by (rests_on_stale d) is k = k
    by (rests_on_unheld v) is k = settle_never_looks (has x.between) p v x.follower.all.shards is
    by (serves d v o) is k = k

  -- so without a stale handler it is decided
  pub decided_next : (next : SettleNext) → SettledBy old mid p next → (IsPrune next → ⊥) → IsDecidedNext next
  decided_next S.None x none = tt
  decided_next (S.Settled e) x none = tt
  decided_next (S.Look w) x none = never_asks w x
  decided_next (S.Prune q side i) x none = none tt

  -- what is told of a follower is told of one that stands for less
  pub settled_after : (first : Follower) (next : SettleNext) → ((program : ProgramView) (s : State) → FollowerStands program (has first) s → FollowerStands program (has old) s) → SettledBy old mid p next → SettledBy first mid p next
  settled_after first next keeps x = record {
    between = x.between;
    follower = x.follower;
    stands = λ program s st. x.stands program s (keeps program s st);
    settles = x.settles;
    tasks = x.tasks;
    waits = x.waits;
    code = x.code;
  }

-- what is left to do: the handlers of the channel, while one of them stands in the way
abbrev pub left_in : SettleNext → Option Kept → ℕ
left_in S.None o = 0
left_in (S.Settled e) o = 0
left_in (S.Look w) o = 0
left_in (S.Prune q side i) o = suc (queued_at o)

pub less_left : (next : SettleNext) (o old : Option Kept) → (IsPrune next → queued_at o < queued_at old) → left_in next o < suc (queued_at old)
less_left S.None o old less = omega arith
less_left (S.Settled e) o old less = omega arith
less_left (S.Look w) o old less = omega arith
less_left (S.Prune q side i) o old less = let k : queued_at o < queued_at old = less tt in omega arith
