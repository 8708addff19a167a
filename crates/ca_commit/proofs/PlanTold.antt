-- What a plan says of the held parts from which it was made.
use Rattle.std.proofs.Common.{◌≡◌, ◌⊎◌, inl, inr, ⊎_elim, ℕ, zero, suc, ◌+◌, ◌%◌, ◌<◌, List, [], ◌∷◌, length, map, take, refl, sym, ap, ◌∙◌, subst, Bool, true, false, cond, Option, Some, None, is_some, slice_get, nat_lt, ltb-true, ltb-false, ◌≤◌, arith}
use Rattle.ca_value.specs.Tree.{Tree, Trees, nil, bool, int, text, key, vector, map as a_map, port, none, item}
use Rattle.ca_term.specs.declared.fault.Fault.{Fault}
use Rattle.ca_term.specs.declared.fault.Fault.TheVariants.{NotAPort, TooManyPorts}
use Rattle.ca_term.specs.declared.event.Side.{Side}
use Rattle.ca_term.specs.declared.head.RegisterName.{RegisterName}
use Rattle.ca_term.specs.Operation.{OpView, choosing, closing, making, posting, printing, putting, registering, spawning, taking}
use Rattle.ca_term.specs.Event.{BranchView}
use Rattle.ca_meaning.specs.ChannelSteps.{other_side}
use Rattle.ca_meaning.specs.Choice.{branch_of, branches_of, default_of, parks}
use Rattle.ca_meaning.specs.Operands.{count_of, first_of, is_pair, or_else, port_of_value, rest_of, second_of, values_in}
use Rattle.ca_meaning.specs.Refusal.{bad_choice, bad_port, bad_ports, crowd_of, fault_of_registered, has_no_default, is_channel, needs_to_register, nil_put, not_a_channel, registered_at, registering_gives, unfit, unmet}
use Rattle.ca_meaning.specs.Registry.{Registered, Registry, answers, refuses}
use Rattle.ca_meaning.specs.State.{State}
use Rattle.ca_meaning.specs.Wait.{Handler, head, port_of, side_of}
use Rattle.ca_bank.specs.Kept.{queue_at}
use Rattle.ca_registry.specs.Registry.{comes_to}
use Rattle.ca_commit.specs.Asks.{Asks, row_raw}
use Rattle.ca_commit.specs.Contents.{Kept, Parked, Parts, alive_in, at_key, channel_of, home, on, whole}
use Rattle.ca_commit.specs.Deciding.{HangsOn, HangsOnStale, HangsOnUnseen, HasPartner, IsAlone, IsRegistryAnswered, IsPost, PlanTells, seen_in}
use Rattle.ca_commit.specs.Finding.{Finding, alone, find_at, glance, glance_at, glance_in, partner, stale, unheld, unready}
use Rattle.ca_commit.specs.Holds.{groups, live_of}
use Rattle.ca_commit.specs.Moves.{AllSeen, CrowdedIn, FewIn, FewOn, FitIn, NoneReadyIn, PicksIn, Unready}
use Rattle.ca_commit.specs.Planning.{Planned, Seen, all_asked, all_counted, handler_asked, queue_counted, chosen, decided, fitting, found_of, is_alts, otherwise, planned, starting, state_of, to_close, to_default, to_do, to_make, to_meet, to_park, to_post, to_print, to_register, to_spawn, unless_refused, to_look, to_prune, to_refuse}
use Rattle.ca_commit.proofs.Findings.{Says, found, is_here, lives}
use Rattle.ca_commit.specs.Registering.{keys_pass}
use Rattle.ca_commit.proofs.FitsMore.{first_none, fits_in, passes, register_more, second_none}
use Rattle.ca_registry.proofs.KeyLaws.{refused_keys, same_table}
use Rattle.ca_commit.proofs.Laid.{same_map}
use Rattle.ca_commit.proofs.Stales.{found_stale, found_unseen}
use Rattle.ca_commit.proofs.Turns.{Decides, NoneDecides, from_tells}

module _ {A : Type 0} (h : Parts A) where
  abbrev x : Seen
  x = seen_in h

  -- a plan that waits for a shard, or for a stale handler to go
  abbrev Stops : OpView → Planned → Type 0
  Stops op (to_look w) = HangsOnUnseen h op w
  Stops op (to_prune p side place) = HangsOnStale h op p side place
  Stops op other = ⊥

  -- what is seen of a wait is whether it lives
  lives_is : (w : ℕ) → is_here (glance h.shard w) ≡ alive_in h w
  lives_is w = by (h.shard (home w)) where
    in_it : (o : Option (Parked A)) → is_here (glance_in o) ≡ is_some o
    in_it None = refl
    in_it (Some p) = refl

    by : (o : Option (ℕ → Option (Parked A))) → is_here (glance_at o w) ≡ is_some (at_key o w)
    by None = refl
    by (Some f) = in_it (f w)

  pub lives_same : lives (glance h.shard) ≡ alive_in h
  lives_same = same_map (lives (glance h.shard)) (alive_in h) lives_is

  pub says : (b : BranchView) (k : Kept) (f : Finding) → whole h.bank (port_of b) ≡ Some k → found_of x b ≡ f → Says (alive_in h) f (Asks (alive_in h) b k) (row_raw k b) (head (on (other_side (side_of b)) k))
  says b k f there e = subst (λ (al : ℕ → Bool). Says al f (Asks al b k) (row_raw k b) (head (on (other_side (side_of b)) k))) lives_same
      (subst (λ (g : Finding). Says (lives (glance h.shard)) g (Asks (lives (glance h.shard)) b k) (row_raw k b) (head (on (other_side (side_of b)) k))) (ap (λ o. find_at (glance h.shard) o b) (sym there) ∙ e) (found (glance h.shard) k b))

  -- each branch is of a held channel
  abbrev pub EachHeld : List BranchView → Type 0
  EachHeld [] = Unit {0}
  EachHeld (b ∷ bs) = ((k : Kept) × (whole h.bank (port_of b) ≡ Some k)) × EachHeld bs

  one_held : (bs : List BranchView) (i : ℕ) (b : BranchView) → EachHeld bs → slice_get bs i ≡ Some b → (k : Kept) × (whole h.bank (port_of b) ≡ Some k)
  one_held [] zero b a e = absurd cc
  one_held [] (suc i) b a e = absurd cc
  one_held (c ∷ bs) zero b a e = subst (λ (d : BranchView). (k : Kept) × (whole h.bank (port_of d) ≡ Some k)) (let s : c ≡ b = cc in s) a.0
  one_held (c ∷ bs) (suc i) b a e = one_held bs i b a.1 e

  not_ready_in : (b : BranchView) → ((k : Kept) × (whole h.bank (port_of b) ≡ Some k)) → found_of x b ≡ unready → Unready h b
  not_ready_in b k e = let s = says b k.0 unready k.1 e in (k.0, k.1, s.0, s.1)

  pub none_ready_in : (bs : List BranchView) → EachHeld bs → ((i : ℕ) (o : BranchView) → slice_get bs i ≡ Some o → found_of x o ≡ unready) → NoneReadyIn h bs
  none_ready_in [] a f = tt
  none_ready_in (b ∷ bs) a f = (not_ready_in b a.0 (f 0 b refl), none_ready_in bs a.1 (λ i o e. f (suc i) o e))

  is_alone : (b : BranchView) (k : Kept) → whole h.bank (port_of b) ≡ Some k → found_of x b ≡ alone → IsAlone h b
  is_alone b k there e = let s = says b k alone there e in record { kept = k; there = there; asks = s.0; answer = s.1.0; after = s.1.1; by_row = s.1.2 }

  in_front : (q : List Handler) (g : Handler) → head q ≡ Some g → (rest : List Handler) × (q ≡ g ∷ rest)
  in_front [] g e = absurd cc
  in_front (f ∷ q) g e = (q, ap (λ i. i ∷ q) (let s : f ≡ g = cc in s))

  abbrev AllTold : OpView → List Handler → Planned → Planned → Type 0
  AllTold op q rest r = (AllSeen h q × (live_of (alive_in h) q ≡ q) × (r ≡ rest)) ⊎ Stops op r

  -- The handlers of a queue from a place on are asked, and live; or one is stale, or unseen. On each of them the plan hangs.
  all_tell : (op : OpView) (p : ℕ) (side : Side) (k : Kept) → whole h.bank p ≡ Some k → ((place w : ℕ) → HangsOn h op p k side place w) → (q : List Handler) (place : ℕ) (rest : Planned) → ((i : ℕ) → slice_get q i ≡ slice_get (on side k) (place + i))
      → AllTold op q rest (all_asked x p side place q rest)
  all_tell op p side k there hangs [] place rest at = inl (tt, refl, refl)
  all_tell op p side k there hangs (g ∷ q) place rest at = outer (h.shard (home g.wait)) refl (all_tell op p side k there hangs q (place + 1) rest later) where
    later : (i : ℕ) → slice_get q i ≡ slice_get (on side k) (place + 1 + i)
    later i = at (suc i) ∙ ap (slice_get (on side k)) (let e : place + suc i ≡ place + 1 + i = omega arith in e)

    here : slice_get (on side k) place ≡ Some g
    here = ap (slice_get (on side k)) (let e : place ≡ place + 0 = omega arith in e) ∙ sym (at 0)

    live_here : (f : ℕ → Option (Parked A)) (a : Parked A) → h.shard (home g.wait) ≡ Some f → f g.wait ≡ Some a → AllSeen h q × (live_of (alive_in h) q ≡ q) × (all_asked x p side (place + 1) q rest ≡ rest) → AllSeen h (g ∷ q) × (live_of (alive_in h) (g ∷ q) ≡ g ∷ q) × (all_asked x p side (place + 1) q rest ≡ rest)
    live_here f a e u t = (((f, e), t.0), ap (λ (b : Bool). cond b (g ∷ live_of (alive_in h) q) (live_of (alive_in h) q)) (ap (λ (o : Option (ℕ → Option (Parked A))). is_some (at_key o g.wait)) e ∙ ap is_some u) ∙ ap (λ l. g ∷ l) t.1, t.2)

    gone_here : (f : ℕ → Option (Parked A)) → h.shard (home g.wait) ≡ Some f → f g.wait ≡ None → HangsOnStale h op p side place
    gone_here f e u = (record { kept = k; there = there; handler = g; at_place = here; from = f; shard = e; gone = u }, hangs place g.wait)

    unseen_here : h.shard (home g.wait) ≡ None → HangsOnUnseen h op g.wait
    unseen_here e = (p, side, place, record { kept = k; there = there; handler = g; at_place = here; unheld = e }, refl, hangs place g.wait)

    inner : (f : ℕ → Option (Parked A)) (o : Option (Parked A)) → h.shard (home g.wait) ≡ Some f → f g.wait ≡ o → AllTold op q rest (all_asked x p side (place + 1) q rest) → AllTold op (g ∷ q) rest (handler_asked (glance_in o) p side place g.wait (all_asked x p side (place + 1) q rest))
    inner f None e u t = inr (gone_here f e u)
    inner f (Some a) e u t = ⊎_elim (λ k. inl (live_here f a e u k)) (λ k. inr k) t

    outer : (o : Option (ℕ → Option (Parked A))) → h.shard (home g.wait) ≡ o → AllTold op q rest (all_asked x p side (place + 1) q rest) → AllTold op (g ∷ q) rest (handler_asked (glance_at (h.shard (home g.wait)) g.wait) p side place g.wait (all_asked x p side (place + 1) q rest))
    outer None e t = subst (λ (z : Option (ℕ → Option (Parked A))). AllTold op (g ∷ q) rest (handler_asked (glance_at z g.wait) p side place g.wait (all_asked x p side (place + 1) q rest))) (sym e) (inr (unseen_here e))
    outer (Some f) e t = subst (λ (z : Option (ℕ → Option (Parked A))). AllTold op (g ∷ q) rest (handler_asked (glance_at z g.wait) p side place g.wait (all_asked x p side (place + 1) q rest))) (sym e) (inner f (f g.wait) e refl t)

  abbrev IsFull : List Handler → Type 0
  IsFull q = AllSeen h q × (1024 ≤ groups (live_of (alive_in h) q))

  -- what counting a queue comes to
  abbrev QueueTold : OpView → Side → List Handler → Planned → Planned → Type 0
  QueueTold op side q rest r = (FewOn h q × (r ≡ rest)) ⊎ ((IsFull q × (r ≡ to_refuse (crowd_of side))) ⊎ Stops op r)

  -- a queue has a place for one more wait, or none, or it can't be told, where the plan hangs on those of a long queue
  queue_tells : (op : OpView) (side : Side) (p : ℕ) (k : Kept) (rest : Planned) → whole h.bank p ≡ Some k → (1024 ≤ length (on side k) → (place w : ℕ) → HangsOn h op p k side place w) → QueueTold op side (on side k) rest (queue_counted x side p (on side k) rest)
  queue_tells op side p k rest there hangs = short (nat_lt (length (on side k)) 1024) refl where
    after : Planned
    after = cond (nat_lt (groups (on side k)) 1024) rest (to_refuse (crowd_of side))

    long : (b : Bool) → nat_lt (groups (on side k)) 1024 ≡ b → AllSeen h (on side k) × (live_of (alive_in h) (on side k) ≡ on side k) × (all_asked x p side 0 (on side k) after ≡ after) → QueueTold op side (on side k) rest (all_asked x p side 0 (on side k) after)
    long true e t = inl (inr (t.0, subst (λ (l : List Handler). groups l < 1024) (sym t.1) (ltb-true (groups (on side k)) 1024 e)), t.2 ∙ ap (λ b. cond b rest (to_refuse (crowd_of side))) e)
    long false e t = inr (inl ((t.0, subst (λ (l : List Handler). 1024 ≤ groups l) (sym t.1) (ltb-false (groups (on side k)) 1024 e)), t.2 ∙ ap (λ b. cond b rest (to_refuse (crowd_of side))) e))

    short : (b : Bool) → nat_lt (length (on side k)) 1024 ≡ b → QueueTold op side (on side k) rest (cond b rest (all_asked x p side 0 (on side k) after))
    short true e = inl (inl (ltb-true (length (on side k)) 1024 e), refl)
    short false e = ⊎_elim (λ t. long (nat_lt (groups (on side k)) 1024) refl t) (λ s. inr (inr s))
        (all_tell op p side k there (hangs (ltb-false (length (on side k)) 1024 e)) (on side k) 0 after (λ i. ap (slice_get (on side k)) (let e : i ≡ 0 + i = omega arith in e)))

  unready_at : (bs : List BranchView) (i : ℕ) (b : BranchView) → NoneReadyIn h bs → slice_get bs i ≡ Some b → Unready h b
  unready_at [] zero b a e = absurd cc
  unready_at [] (suc i) b a e = absurd cc
  unready_at (c ∷ bs) zero b a e = subst (Unready h) (let s : c ≡ b = cc in s) a.0
  unready_at (c ∷ bs) (suc i) b a e = unready_at bs i b a.1 e

  abbrev HasPlace : BranchView → Type 0
  HasPlace b = (k : Kept) × (whole h.bank (port_of b) ≡ Some k) × FewOn h (on (side_of b) k)

  few_more : (bs : List BranchView) (i : ℕ) (b : BranchView) → slice_get bs i ≡ Some b → FewIn h (take i bs) → HasPlace b → FewIn h (take (suc i) bs)
  few_more [] zero b e few one = absurd cc
  few_more [] (suc i) b e few one = absurd cc
  few_more (c ∷ bs) zero b e few one = (subst HasPlace (sym (let s : c ≡ b = cc in s)) one, tt)
  few_more (c ∷ bs) (suc i) b e few one = (few.0, few_more bs i b e few.1 one)

  -- what counting the queue of each branch comes to
  abbrev QueuesTold : OpView → List BranchView → Planned → Planned → Type 0
  QueuesTold op bs rest r = (FewIn h bs × (r ≡ rest)) ⊎ (((f : Fault) × CrowdedIn h bs f × (r ≡ to_refuse f)) ⊎ Stops op r)

  -- so has each queue that a wait would join, from branch number i on; or the first that has none decides
  queues_tell : (op : OpView) → default_of op ≡ None → NoneReadyIn h (branches_of op) → (bs : List BranchView) (i : ℕ) (rest : Planned) → EachHeld bs → ((j : ℕ) → slice_get bs j ≡ slice_get (branches_of op) (i + j)) → FewIn h (take i (branches_of op))
      → QueuesTold op bs rest (all_counted x bs rest)
  queues_tell op waits idle [] i rest a at few = inl (tt, refl)
  queues_tell op waits idle (b ∷ bs) i rest a at few = subst (QueuesTold op (b ∷ bs) rest) (sym here) (⊎_elim (goes_on (queues_tell op waits idle bs (suc i) rest a.1 later)) stops (queue_tells op (side_of b) (port_of b) a.0.0 (all_counted x bs rest) a.0.1 hangs)) where
    after : Planned
    after = queue_counted x (side_of b) (port_of b) (on (side_of b) a.0.0) (all_counted x bs rest)

    here : all_counted x (b ∷ bs) rest ≡ after
    here = ap (λ o. queue_counted x (side_of b) (port_of b) (queue_at (side_of b) o) (all_counted x bs rest)) a.0.1

    number : slice_get (branches_of op) i ≡ Some b
    number = ap (slice_get (branches_of op)) (let e : i ≡ i + 0 = omega arith in e) ∙ sym (at 0)

    later : (j : ℕ) → slice_get bs j ≡ slice_get (branches_of op) (suc i + j)
    later j = at (suc j) ∙ ap (slice_get (branches_of op)) (let e : i + suc j ≡ suc i + j = omega arith in e)

    hangs : 1024 ≤ length (on (side_of b) a.0.0) → (place w : ℕ) → HangsOn h op (port_of b) a.0.0 (side_of b) place w
    hangs long place w = record {
      number = i;
      branch = b;
      picked = (number, λ priority j o lt e. unready_at (branches_of op) j o idle e);
      at_port = refl;
      why = inr (waits, idle, few, refl, long);
    }

    full : IsFull (on (side_of b) a.0.0) → CrowdedIn h (b ∷ bs) (crowd_of (side_of b))
    full f = (a.0.0, a.0.1, inl (f.0, f.1, refl))

    stops : (IsFull (on (side_of b) a.0.0) × (after ≡ to_refuse (crowd_of (side_of b)))) ⊎ Stops op after → QueuesTold op (b ∷ bs) rest after
    stops o = ⊎_elim (λ f. inr (inl (crowd_of (side_of b), full f.0, f.1))) (λ s. inr (inr s)) o

    goes_on : (FewIn h (take (suc i) (branches_of op)) → QueuesTold op bs rest (all_counted x bs rest)) → FewOn h (on (side_of b) a.0.0) × (after ≡ all_counted x bs rest) → QueuesTold op (b ∷ bs) rest after
    goes_on next f = ⊎_elim (λ l. inl (((a.0.0, a.0.1, f.0), l.0), f.1 ∙ l.1)) (λ o. ⊎_elim (λ l. inr (inl (l.0, (a.0.0, a.0.1, inr (f.0, l.1)), f.1 ∙ l.2))) (λ s. inr (inr (subst (Stops op) (sym f.1) s))) o)
        (next (few_more (branches_of op) i b number few (a.0.0, a.0.1, f.0)))

  abbrev held : State
  held = state_of (whole h.bank) (whole h.registry)

  -- operands that are right name held channels
  value_held : (v : Tree) → not_a_channel held v ≡ None → (k : Kept) × (whole h.bank (port_of_value v) ≡ Some k)
  value_held (port n) e = by (whole h.bank n) refl where
    by : (o : Option Kept) → whole h.bank n ≡ o → (k : Kept) × (whole h.bank n ≡ Some k)
    by None u = absurd (let t : false ≡ true = sym (ap (λ (o : Option Kept). is_some (channel_of o)) u) ∙ passes (is_channel held (port n)) NotAPort e in cc)
    by (Some k) u = (k, u)
  value_held nil e = absurd cc
  value_held (bool b) e = absurd cc
  value_held (int z) e = absurd cc
  value_held (text t) e = absurd cc
  value_held (key t) e = absurd cc
  value_held (vector vs) e = absurd cc
  value_held (a_map ps) e = absurd cc

  pair_held : (vs : Trees) (b : Bool) → cond b (or_else (not_a_channel held (first_of vs)) (nil_put (second_of vs))) (Some NotAPort) ≡ None → (k : Kept) × (whole h.bank (port_of_value (first_of vs)) ≡ Some k)
  pair_held vs true e = value_held (first_of vs) (first_none (not_a_channel held (first_of vs)) (nil_put (second_of vs)) e)
  pair_held vs false e = absurd cc

  port_held : (v : Tree) → bad_port held v ≡ None → (k : Kept) × (whole h.bank (port_of (branch_of v)) ≡ Some k)
  port_held (vector vs) e = pair_held vs (is_pair vs) e
  port_held (port n) e = value_held (port n) e
  port_held nil e = value_held nil e
  port_held (bool b) e = value_held (bool b) e
  port_held (int z) e = value_held (int z) e
  port_held (text t) e = value_held (text t) e
  port_held (key t) e = value_held (key t) e
  port_held (a_map ps) e = value_held (a_map ps) e

  ports_held : (vs : Trees) → bad_ports held vs ≡ None → EachHeld (map branch_of (values_in vs))
  ports_held none e = tt
  ports_held (item v vs) e = (port_held v (first_none (bad_port held v) (bad_ports held vs) e), ports_held vs (second_none (bad_port held v) (bad_ports held vs) e))

  choice_held : (vs : Trees) → bad_choice held vs ≡ None → EachHeld (map branch_of (values_in vs))
  choice_held none e = tt
  choice_held (item v vs) e = by (nat_lt 256 (count_of (item v vs))) e where
    by : (b : Bool) → cond b (Some TooManyPorts) (bad_ports held (item v vs)) ≡ None → EachHeld (map branch_of (values_in (item v vs)))
    by true e = absurd cc
    by false e = ports_held (item v vs) e

  partner_is : (b : BranchView) (k : Kept) (w o : ℕ) → whole h.bank (port_of b) ≡ Some k → found_of x b ≡ partner w o → HasPartner h b w o
  partner_is b k w o there e = let s = says b k (partner w o) there e in let f = in_front (on (other_side (side_of b)) k) s.1.0 s.1.5 in record {
    kept = k;
    there = there;
    asks = s.0;
    handler = s.1.0;
    value = s.1.1;
    rest = f.0;
    by_row = s.1.2;
    wait_is = s.1.3;
    branch_is = s.1.4;
    in_front = f.1;
    lives = s.1.6;
  }

  stop_tells : (op : OpView) (p : Planned) → FitIn h op → Stops op p → PlanTells h op p
  stop_tells op (to_look w) fit s = (fit, s)
  stop_tells op (to_prune p side place) fit s = (fit, s)
  stop_tells op (to_refuse f) fit s = absurd s
  stop_tells op (to_do k b alts) fit s = absurd s
  stop_tells op (to_meet k b alts w o) fit s = absurd s
  stop_tells op (to_park bs) fit s = absurd s
  stop_tells op (to_post bs) fit s = absurd s
  stop_tells op (to_default v) fit s = absurd s
  stop_tells op (to_make what) fit s = absurd s
  stop_tells op (to_spawn kind r) fit s = absurd s
  stop_tells op (to_close p) fit s = absurd s
  stop_tells op (to_register name args) fit s = absurd s
  stop_tells op (to_print line) fit s = absurd s

  no_default : (op : OpView) → default_of op ≡ None → has_no_default op ≡ true
  no_default (choosing ports priority None) e = refl
  no_default (choosing ports priority (Some v)) e = absurd (let k : Some v ≡ None = e in cc)
  no_default (taking c) e = refl
  no_default (putting c v) e = refl
  no_default (posting c v) e = refl
  no_default (making what) e = refl
  no_default (spawning seed) e = refl
  no_default (closing c) e = refl
  no_default (registering name args) e = refl
  no_default (printing line) e = refl

  chosen_tells : (op : OpView) (start : ℕ) → FitIn h op → EachHeld (branches_of op) → (parks op ≡ false → IsPost h op (branches_of op)) → PlanTells h op (chosen x op start)
  chosen_tells op start fit each post = ⊎_elim decides no_one (from_tells x (is_alts op) (starting x op start) (branches_of op) (otherwise x op (default_of op))) where
    picks : (d : Decides x (is_alts op) (branches_of op) (λ j. j) (starting x op start ≡ 0) (chosen x op start) (otherwise x op (default_of op))) → PicksIn h op d.place d.branch
    picks d = (d.is_branch, λ priority j o lt e. not_ready_in o (one_held (branches_of op) j o each e) (d.first (ap (λ b. cond b 0 (start % length (branches_of op))) priority) j o lt e))

    told : (d : Decides x (is_alts op) (branches_of op) (λ j. j) (starting x op start ≡ 0) (chosen x op start) (otherwise x op (default_of op))) (f : Finding) → d.finding ≡ f → PlanTells h op (decided f (is_alts op) d.place d.branch (otherwise x op (default_of op)))
    told d unready e = absurd (d.ready e)
    told d alone e = let k = one_held (branches_of op) d.place d.branch each d.is_branch in (fit, picks d, is_alone d.branch k.0 k.1 (d.is_found ∙ e), refl)
    told d (partner w o) e = let k = one_held (branches_of op) d.place d.branch each d.is_branch in (fit, picks d, partner_is d.branch k.0 w o k.1 (d.is_found ∙ e), refl)
    told d (stale side) e = let k = one_held (branches_of op) d.place d.branch each d.is_branch in (fit, found_stale h op d.place d.branch k.0 side (picks d) k.1 (d.is_found ∙ e))
    told d (unheld w) e = let k = one_held (branches_of op) d.place d.branch each d.is_branch in (fit, found_unseen h op d.place d.branch k.0 w (picks d) k.1 (d.is_found ∙ e))

    decides : Decides x (is_alts op) (branches_of op) (λ j. j) (starting x op start ≡ 0) (chosen x op start) (otherwise x op (default_of op)) → PlanTells h op (chosen x op start)
    decides d = subst (PlanTells h op) (sym d.decides) (told d d.finding refl)

    waits : (n : NoneDecides x (is_alts op) (branches_of op) (chosen x op start) (otherwise x op (default_of op))) → default_of op ≡ None → FewIn h (branches_of op) → (b : Bool) → parks op ≡ b → PlanTells h op (cond b (to_park (branches_of op)) (to_post (branches_of op)))
    waits n e few true is = (fit, refl, e, record { unready = none_ready_in (branches_of op) each n.0; few = few }, is)
    waits n e few false is = (fit, refl, e, record { unready = none_ready_in (branches_of op) each n.0; few = few }, post is)

    crowd_tells : (n : NoneDecides x (is_alts op) (branches_of op) (chosen x op start) (otherwise x op (default_of op))) → default_of op ≡ None → (f : Fault) → CrowdedIn h (branches_of op) f → PlanTells h op (to_refuse f)
    crowd_tells n e f crowd = inr (fit, no_default op e, none_ready_in (branches_of op) each n.0, crowd)

    otherwise_tells : (n : NoneDecides x (is_alts op) (branches_of op) (chosen x op start) (otherwise x op (default_of op))) (d : Option Tree) → default_of op ≡ d → PlanTells h op (otherwise x op d)
    otherwise_tells n (Some v) e = (fit, e, none_ready_in (branches_of op) each n.0)
    otherwise_tells n None e = ⊎_elim (λ t. subst (PlanTells h op) (sym t.1) (waits n e t.0 (parks op) refl))
        (λ o. ⊎_elim (λ t. subst (PlanTells h op) (sym t.2) (crowd_tells n e t.0 t.1)) (λ s. stop_tells op (otherwise x op None) fit s) o)
        (queues_tell op e (none_ready_in (branches_of op) each n.0) (branches_of op) 0 (cond (parks op) (to_park (branches_of op)) (to_post (branches_of op))) each (λ j. ap (slice_get (branches_of op)) (let e : j ≡ 0 + j = omega arith in e)) tt)

    no_one : NoneDecides x (is_alts op) (branches_of op) (chosen x op start) (otherwise x op (default_of op)) → PlanTells h op (chosen x op start)
    no_one n = subst (PlanTells h op) (sym n.1) (otherwise_tells n (default_of op) refl)

  -- a post's channel is a port
  post_is : (c v : Tree) → not_a_channel held c ≡ None → IsPost h (posting c v) (branches_of (posting c v))
  post_is (port n) v e = (n, v, refl, refl)
  post_is nil v e = absurd cc
  post_is (bool b) v e = absurd cc
  post_is (int z) v e = absurd cc
  post_is (text t) v e = absurd cc
  post_is (key t) v e = absurd cc
  post_is (vector vs) v e = absurd cc
  post_is (a_map ps) v e = absurd cc

  close_tells : (c : Tree) → FitIn h (closing c) → not_a_channel held c ≡ None → PlanTells h (closing c) (to_close (port_of_value c))
  close_tells (port n) fit e = (fit, refl, value_held (port n) e)
  close_tells nil fit e = absurd cc
  close_tells (bool b) fit e = absurd cc
  close_tells (int z) fit e = absurd cc
  close_tells (text t) fit e = absurd cc
  close_tells (key t) fit e = absurd cc
  close_tells (vector vs) fit e = absurd cc
  close_tells (a_map ps) fit e = absurd cc

  register_tells : (name : RegisterName) (args : Trees) → fault_of_registered (registering_gives held name args) ≡ None → IsRegistryAnswered h name args
  register_tells name args table = by (whole h.registry (port_of_value (first_of args))) refl table where
    right : (r : Registry) → whole h.registry (port_of_value (first_of args)) ≡ Some r → (b : Bool) → keys_pass held name (rest_of args) ≡ b → (z : Registered) → comes_to (Some r) name (rest_of args) ≡ z → fault_of_registered (registered_at held (Some r) name (rest_of args)) ≡ None → IsRegistryAnswered h name args
    right r e false k z is f = absurd (let c : Some NotAPort ≡ None = sym (ap fault_of_registered (refused_keys held (Some r) name (rest_of args) k)) ∙ f in cc)
    right r e true k (refuses g) is f = absurd (let c : Some g ≡ None = sym (ap fault_of_registered (same_table held (Some r) name (rest_of args) k ∙ is)) ∙ f in cc)
    right r e true k (answers v r2) is f = record {
      answer = v;
      after = r2;
      by_table = λ s shows. register_more h s shows name args table ∙ ap (λ o. registered_at held o name (rest_of args)) e ∙ same_table held (Some r) name (rest_of args) k ∙ is;
      old = r;
      there = e;
      by_bank = is;
    }

    by : (o : Option Registry) → whole h.registry (port_of_value (first_of args)) ≡ o → fault_of_registered (registered_at held o name (rest_of args)) ≡ None → IsRegistryAnswered h name args
    by None e f = absurd cc
    by (Some r) e f = right r e (keys_pass held name (rest_of args)) refl (comes_to (Some r) name (rest_of args)) refl f

  fit_tells : (op : OpView) (start : ℕ) → unfit held op ≡ None → PlanTells h op (fitting x op start)
  fit_tells (taking c) start e = chosen_tells (taking c) start (fits_in h (taking c) e) (value_held c e, tt) (λ p. absurd cc)
  fit_tells (putting c v) start e = chosen_tells (putting c v) start (fits_in h (putting c v) e) (value_held c (first_none (not_a_channel held c) (nil_put v) e), tt) (λ p. absurd cc)
  fit_tells (posting c v) start e = chosen_tells (posting c v) start (fits_in h (posting c v) e) (value_held c (first_none (not_a_channel held c) (nil_put v) e), tt) (λ p. post_is c v (first_none (not_a_channel held c) (nil_put v) e))
  fit_tells (choosing ports priority default) start e = chosen_tells (choosing ports priority default) start (fits_in h (choosing ports priority default) e) (choice_held ports e) (λ p. absurd cc)
  fit_tells (making what) start e = (fits_in h (making what) e, refl)
  fit_tells (spawning seed) start e = (fits_in h (spawning seed) e, (seed, refl, refl, refl))
  fit_tells (closing c) start e = close_tells c (fits_in h (closing c) e) e
  fit_tells (registering name args) start e = (fits_in h (registering name args) e, refl, register_tells name args (second_none (unmet held (needs_to_register name) args) (fault_of_registered (registering_gives held name args)) e))
  fit_tells (printing line) start e = (fits_in h (printing line) e, refl)

  pub plan_tells : (op : OpView) (start : ℕ) → PlanTells h op (planned x op start)
  plan_tells op start = by (unfit held op) refl where
    by : (o : Option Fault) → unfit held op ≡ o → PlanTells h op (unless_refused x o (fitting x op start))
    by (Some f) e = inl e
    by None e = fit_tells op start e
