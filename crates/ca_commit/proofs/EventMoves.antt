-- What the calls of the other events promise is how these move the parts.
use Rattle.std.proofs.Common.{◌≡◌, ℕ, zero, suc, ◌+◌, ◌*◌, List, [], ◌∷◌, ◌++◌, take, drop, remove, refl, sym, ap, ◌∙◌, subst, true, Option, Some, None, option_map, slice_get}
use Rattle.ca_value.specs.Tree.{Tree, bool, nil, port}
use Rattle.ca_term.specs.Program.{ProgramView}
use Rattle.ca_term.specs.Operation.{OpView, SeedView, WhatView, dropping, fixed, mix, mult, posting, promise, publication, sliding, spawning, timeout, unbuffered}
use Rattle.ca_term.specs.Event.{BranchView, put_of}
use Rattle.ca_meaning.specs.Body.{At, at_op, ended, faulted, local, nowhere}
use Rattle.ca_meaning.specs.Channel.{channel_made}
use Rattle.ca_meaning.specs.Operands.{rest_of}
use Rattle.ca_meaning.specs.Registry.{Registered, Registry, answers, registry_made}
use Rattle.ca_bank.specs.Kept.{closed_channel, pruned, unattended}
use Rattle.ca_registry.specs.Registries.{answered, left_by}
use Rattle.ca_registry.specs.Registry.{registry_after}
use Rattle.ca_commit.specs.Agents.{advances_of, alts_at, gives_of, place_of, starts_of}
use Rattle.ca_commit.specs.ChannelMoves.{Joins, MovesClose, MovesPost}
use Rattle.ca_commit.specs.Contents.{Kept, LaneView, Parked, Parts, TimersPart, at_key, home, nobody, on, owner, put_on, whole}
use Rattle.ca_commit.specs.Entering.{answer_of, registry_of}
use Rattle.ca_commit.specs.EventMoves.{AllStay, CloseMoves, DefaultMoves, TaskAnswers, MakeMoves, ParkMoves, PostMoves, PrintMoves, PruneMoves, RegisterMoves, ResultCloses, SpawnMoves, TickMoves, TimesMade, one_port_more, one_task_more, one_wait_more}
use Rattle.ca_commit.specs.Listing.{changed_at}
use Rattle.ca_commit.specs.Moves.{Alters, Becomes, FewIn, NoneReadyIn, Stays}
use Rattle.ca_commit.specs.NewPort.{Times, moment_for}
use Rattle.ca_commit.specs.Parking.{front_port, front_value, queued_from, waiting_as}
use Rattle.ca_commit.specs.Replies.{counted_alts, or_nil}
use Rattle.ca_commit.specs.Running.{Placed, or_was}
use Rattle.ca_commit.specs.Standing.{is_alts_at}
use Rattle.ca_commit.specs.TaskMoves.{MakesTimed, MovesMake, MovesPrint, MovesRegister, MovesSpawn}
use Rattle.ca_commit.proofs.Altered.{alters, alters_held}
use Rattle.ca_commit.proofs.Everywhere.{closed_shuts, queued_joins}
use Rattle.ca_commit.proofs.RowsDone.{alts_is}

counted_at : (at : At) (n : ℕ) → counted_alts (is_alts_at at) n ≡ alts_at at n
counted_at (at_op want) n = alts_is want.op n
counted_at local n = refl
counted_at (ended v) n = refl
counted_at (faulted f p) n = refl
counted_at nowhere n = refl

nothing_was : {X : Type 0} (o p : Option X) → p ≡ None → or_was o p ≡ o
nothing_was o p e = ap (or_was o) e ∙ by o where
  by : {X : Type 0} (o : Option X) → or_was o None ≡ o
  by None = refl
  by (Some x) = refl

-- a place of a list, with what stands on both sides
parted : {X : Type 0} (xs : List X) (i : ℕ) (x : X) → slice_get xs i ≡ Some x → (xs ≡ take i xs ++ x ∷ drop (suc i) xs) × (remove xs i ≡ take i xs ++ drop (suc i) xs)
parted [] i x e = absurd (let k : None ≡ Some x = e in cc)
parted (y ∷ xs) zero x e = let k : y ≡ x = cc in (ap (λ z. z ∷ xs) k, refl)
parted (y ∷ xs) (suc i) x e = let r = parted xs i x e in (ap (λ zs. y ∷ zs) r.0, ap (λ zs. y ∷ zs) r.1)

times_made : (p m : ℕ) (what : WhatView) (old new : Option TimersPart) → TimesMade p what m old new → MakesTimed p what (moment_for what m) old new
times_made p m (timeout n) old new t = (t.0, t.1, t.2, t.3, (t.4, t.5), t.7, ap (λ (x : Times). x.deadlines) t.6)
times_made p m unbuffered old new t = (refl, t)
times_made p m (fixed n) old new t = (refl, t)
times_made p m (dropping n) old new t = (refl, t)
times_made p m (sliding n) old new t = (refl, t)
times_made p m promise old new t = (refl, t)
times_made p m (mult source) old new t = (refl, t)
times_made p m (mix out changes) old new t = (refl, t)
times_made p m (publication source) old new t = (refl, t)

-- a new wait
joins_in : {A : Type 0} (old new : Parts A) (w n wait : ℕ) (bs : List BranchView) (x : Parked A) (lane lane2 : LaneView A) (from : ℕ → Option (Parked A)) → wait ≡ 1 + w + n * lane.counts.waits → lane2.counts ≡ one_wait_more lane.counts
    → NoneReadyIn old bs → FewIn old bs → Placed old.bank → ((i : ℕ) → new.bank i ≡ queued_from wait 0 bs old.bank i) → Stays old.registry new.registry
    → old.shard (home wait) ≡ Some from → ((i : ℕ) → new.shard i ≡ changed_at wait (λ o. Some x) old.shard i) → Stays old.ready new.ready → new.timers ≡ old.timers → Joins w n wait bs x lane lane2 old new
joins_in old new w n wait bs x lane lane2 from next counts unready few placed banks registries there shards readys timers = record {
  next = next;
  counts = counts;
  unready = unready;
  few = few;
  banks = λ i. banks i ∙ queued_joins wait bs old.bank placed i;
  registries = registries;
  shards = alters_held old.shard new.shard wait (λ o. Some x) from there shards;
  readys = readys;
  timers = timers;
}

module _ {A : Type 0} (place : A → At) (advances : ProgramView → A → A → Type 0) where
  pub park_moves : ParkMoves place advances
  park_moves old new w n t wait op at bs from tells placed stands empty next counts banks registries there shards readys timers = record {
    op = op;
    at = at;
    stands = stands;
    fit = tells.0;
    parks_there = tells.4;
    branches_are = tells.1;
    no_default = tells.2;
    empty = empty;
    agent2 = waiting_as place stands.agent1;
    waits_as = (refl, counted_at (place stands.agent1.agent) stands.agent1.alts, refl);
    joins = joins_in old new w n wait bs (owner t (waiting_as place stands.agent1)) stands.lane stands.lane2 from next counts (subst (NoneReadyIn old) tells.1 tells.3.unready) (subst (FewIn old) tells.1 tells.3.few) placed banks registries there shards readys timers;
  }

  pub result_closes : ResultCloses place advances
  result_closes old new None held banks = banks
  result_closes old new (Some p) held banks = let h = held p refl in subst (λ (o : Option Kept). Alters old.bank new.bank p (option_map closed_channel o)) (sym (ap (λ (o : Option (ℕ → Option Kept)). at_key o p) h.1)) (alters_held old.bank new.bank p (option_map closed_channel) h.0 h.1 banks)

module _ {A : Type 0} (place : A → At) (advances : ProgramView → A → A → Type 0) (gives : A → Tree → A → Type 0) where
  pub post_moves : PostMoves place advances gives
  post_moves old new w n t wait op bs from tells placed = subst (λ (o : OpView). Rest o bs) (sym tells.4.2) (subst (λ (z : List BranchView). Rest (posting (port tells.4.0) tells.4.1) z) (sym tells.4.3)
      (λ acts next counts banks registries there shards readys timers. record {
        answers = acts;
        joins = joins_in old new w n wait (put_of tells.4.0 tells.4.1 ∷ []) nobody acts.stands.lane acts.stands.lane2 from next counts (subst (NoneReadyIn old) (tells.1 ∙ tells.4.3) tells.3.unready) (subst (FewIn old) (tells.1 ∙ tells.4.3) tells.3.few) placed banks registries there shards readys timers;
      })) where
        Rest : OpView → List BranchView → Type 0
        Rest o z = (acts : TaskAnswers place advances gives w t o (bool true) old new) → wait ≡ 1 + w + n * acts.stands.lane.counts.waits → acts.stands.lane2.counts ≡ one_wait_more acts.stands.lane.counts
            → ((i : ℕ) → new.bank i ≡ queued_from wait 0 z old.bank i) → Stays old.registry new.registry
            → old.shard (home wait) ≡ Some from → ((i : ℕ) → new.shard i ≡ changed_at wait (λ o. Some nobody) old.shard i)
            → Stays old.ready new.ready → new.timers ≡ old.timers
            → MovesPost (place_of place) (advances_of advances) (gives_of place gives) w n t wait (front_port z) (front_value z) old new

  pub default_moves : DefaultMoves place advances gives
  default_moves old new w t op v tells acts counts stay = record {
    op = op;
    answers = acts;
    counts = counts;
    default_is = tells.1;
    unready = tells.2;
    banks = stay.0;
    registries = stay.1;
    shards = stay.2;
    readys = stay.3;
    timers = stay.4;
  }

  pub close_moves : CloseMoves place advances gives
  close_moves old new w t p op tells = subst Rest (sym tells.1) (λ acts counts banks registries shards readys timers. record {
    answers = acts;
    counts = counts;
    kept = tells.2.0;
    there = tells.2.1;
    banks = alters old.bank new.bank p (option_map closed_channel) tells.2.0 tells.2.1 banks;
    registries = registries;
    shards = shards;
    readys = readys;
    timers = timers;
  }) where
    Rest : OpView → Type 0
    Rest o = (acts : TaskAnswers place advances gives w t o nil old new) → acts.stands.lane2.counts ≡ acts.stands.lane.counts
        → ((i : ℕ) → new.bank i ≡ changed_at p (option_map closed_channel) old.bank i) → Stays old.registry new.registry → Stays old.shard new.shard → Stays old.ready new.ready → new.timers ≡ old.timers
        → MovesClose (place_of place) (advances_of advances) (gives_of place gives) w t p old new

  pub print_moves : PrintMoves place advances gives
  print_moves old new w t op line tells = subst Rest (sym tells.1) (λ acts counts stay. record {
    answers = acts;
    counts = counts;
    banks = stay.0;
    registries = stay.1;
    shards = stay.2;
    readys = stay.3;
    timers = stay.4;
  }) where
    Rest : OpView → Type 0
    Rest o = (acts : TaskAnswers place advances gives w t o nil old new) → acts.stands.lane2.counts ≡ acts.stands.lane.counts → AllStay old new
        → MovesPrint (place_of place) (advances_of advances) (gives_of place gives) w t line old new

  pub make_moves : MakeMoves place advances gives
  make_moves old new w n t p m op what ports members tells = subst Rest (sym tells.1) (λ acts next counts held none banks there nothing registries shards readys timers. record {
    answers = acts;
    next = next;
    counts = counts;
    banks = subst (λ (o : Option Kept). Alters old.bank new.bank p o) (nothing_was (option_map unattended (channel_made what)) (ports p) none) (alters_held old.bank new.bank p (or_was (option_map unattended (channel_made what))) ports held banks);
    registries = subst (λ (o : Option Registry). Alters old.registry new.registry p o) (nothing_was (registry_made what) (members p) nothing) (alters_held old.registry new.registry p (or_was (registry_made what)) members there registries);
    shards = shards;
    readys = readys;
    timers = times_made p m what old.timers new.timers timers;
  }) where
    Rest : OpView → Type 0
    Rest o = (acts : TaskAnswers place advances gives w t o (port p) old new) → p ≡ 1 + w + n * acts.stands.lane.counts.ports → acts.stands.lane2.counts ≡ one_port_more acts.stands.lane.counts
        → old.bank (home p) ≡ Some ports → ports p ≡ None → ((i : ℕ) → new.bank i ≡ changed_at p (or_was (option_map unattended (channel_made what))) old.bank i)
        → old.registry (home p) ≡ Some members → members p ≡ None → ((i : ℕ) → new.registry i ≡ changed_at p (or_was (registry_made what)) old.registry i)
        → Stays old.shard new.shard → Stays old.ready new.ready → TimesMade p what m old.timers new.timers
        → MovesMake (place_of place) (advances_of advances) (gives_of place gives) w n t p what (moment_for what m) old new

  pub spawn_moves : (starts : ProgramView → SeedView → A → Type 0) → SpawnMoves place advances gives starts
  spawn_moves starts old new w n t u op kind r a q tells = subst Rest (sym tells.1.1) (λ acts next counts started readys banks registries shards timers. record {
    seed = tells.1.0;
    answers = acts;
    kind_is = tells.1.2;
    result_is = tells.1.3;
    next = next;
    counts = counts;
    agent = a;
    started = started tells.1.0 refl;
    queue = q;
    readys = readys;
    banks = banks;
    registries = registries;
    shards = shards;
    timers = timers;
  }) where
    Rest : OpView → Type 0
    Rest o = (acts : TaskAnswers place advances gives w t o nil old new) → u ≡ 1 + w + n * acts.stands.lane.counts.tasks → acts.stands.lane2.counts ≡ one_task_more acts.stands.lane.counts
        → ((seed : SeedView) → o ≡ spawning seed → starts_of starts acts.stands.lane.program seed a)
        → Becomes old.ready new.ready w q (q ++ (u, a) ∷ []) → Stays old.bank new.bank → Stays old.registry new.registry → Stays old.shard new.shard → new.timers ≡ old.timers
        → MovesSpawn (place_of place) (advances_of advances) (gives_of place gives) (starts_of starts) w n t u kind r old new

  pub register_moves : RegisterMoves place advances gives
  register_moves old new w t op name args tells = subst Rest (sym tells.1) (λ acts counts banks registries shards readys timers. record {
    acts = acts;
    counts = counts;
    registry = tells.2.after;
    by_table = λ s shows. tells.2.by_table s shows ∙ ap (λ (z : Tree). answers z tells.2.after) (sym answer_is);
    banks = banks;
    registries = subst (λ (z : Registry). Alters old.registry new.registry (registry_of args) (Some z)) (ap (λ (z : Registered). left_by z tells.2.old) tells.2.by_bank) (alters old.registry new.registry (registry_of args) (option_map (registry_after name (rest_of args))) tells.2.old tells.2.there registries);
    shards = shards;
    readys = readys;
    timers = timers;
  }) where
    value : Tree
    value = answer_of (whole old.registry (registry_of args)) name (rest_of args)

    answer_is : value ≡ tells.2.answer
    answer_is = ap (λ (o : Option Registry). answer_of o name (rest_of args)) tells.2.there ∙ ap (λ (z : Registered). or_nil (answered z)) tells.2.by_bank

    Rest : OpView → Type 0
    Rest o = (acts : TaskAnswers place advances gives w t o value old new) → acts.stands.lane2.counts ≡ acts.stands.lane.counts
        → Stays old.bank new.bank → ((i : ℕ) → new.registry i ≡ changed_at (registry_of args) (option_map (registry_after name (rest_of args))) old.registry i)
        → Stays old.shard new.shard → Stays old.ready new.ready → new.timers ≡ old.timers
        → MovesRegister (place_of place) (advances_of advances) (gives_of place gives) w t name args value old new

pub tick_moves : {A : Type 0} → TickMoves A
tick_moves old new m ports c c2 placed was is late bound due_are some same reads there banks registries lanes shards readys = record {
  clock = c;
  clock2 = c2;
  was = was;
  is = is;
  late = late;
  bound = bound;
  due_are = due_are;
  some = some;
  left = ap (λ (x : Times). x.deadlines) same;
  reads = reads;
  there = there;
  banks = λ i. banks i ∙ closed_shuts ports old.bank placed i;
  registries = registries;
  lanes = lanes;
  shards = shards;
  readys = readys;
}

pub prune_moves : {A : Type 0} → PruneMoves A
prune_moves old new p side place stale banks registries shards lanes readys timers = let q = on side stale.kept in let r = parted q place stale.handler stale.at_place in record {
  h = stale.handler;
  front = take place q;
  rest = drop (suc place) q;
  kept = stale.kept;
  there = stale.there;
  in_queue = r.0;
  wait_is = refl;
  from = stale.from;
  shard = stale.shard;
  gone = stale.gone;
  banks = subst (λ (z : List _). Alters old.bank new.bank p (Some (put_on side z stale.kept))) r.1 (alters old.bank new.bank p (option_map (pruned side place)) stale.kept stale.there banks);
  registries = registries;
  shards = shards;
  lanes = lanes;
  readys = readys;
  timers = timers;
}
