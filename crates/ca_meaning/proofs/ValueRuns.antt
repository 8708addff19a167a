-- Along every legal journal of a program whose constants are values, all values of its states and events are values.
use Rattle.std.proofs.Common.{◌≡◌, ℕ, suc, List, [], ◌∷◌, ◌++◌, refl, sym, subst, arith, Bool, true, false, cond, Option, Some, None, option_map, eqb, nat_lt, map}
use Rattle.std.specs.Map.{update}
use Rattle.std.specs.Prelude.{codes}
use Rattle.ca_value.specs.Tree.{Tree, Trees, nil, bool, vector, port, none as no_values, item as value_item}
use Rattle.ca_value.specs.IsValue.{Scalars, IsValue}
use Rattle.ca_value.specs.Buffer.{Policy, no_buffer, fixed_buffer, dropping_buffer, sliding_buffer, promise_buffer, is_full, without_first, only_first, keep_by, give_first}
use Rattle.ca_term.specs.declared.fault.Fault.TheVariants.{NotAPort, TooManyPorts}
use Rattle.ca_term.specs.declared.event.Side.{Side}
use Rattle.ca_term.specs.declared.event.Side.TheVariants.{Take, Put}
use Rattle.ca_term.specs.declared.event.Ending.TheVariants.{Ended, Faulted}
use Rattle.ca_term.specs.Operation.{OpView, taking, putting, choosing, making, SeedView, go, system, spawning, closing, registering, printing, posting}
use Rattle.ca_term.specs.Program.{ProgramView}
use Rattle.ca_term.specs.Event.{EventView, BranchView, take_of, put_of, made, spawned, done, met, parked, posted, settled, defaulted, closed, registered, printed, ticked, over as is_over, port_number as number_of}
use Rattle.ca_meaning.specs.Operands.{first_of, second_of, values_in, count_of, is_pair, or_else}
use Rattle.ca_meaning.specs.Body.{At, at_op, fill, new_body}
use Rattle.ca_meaning.specs.Channel.{Channel, keeping, giving, channel_made}
use Rattle.ca_meaning.specs.Wait.{Wait, Handler, front, queue, handlers, without, owner_of, told, port_of}
use Rattle.ca_meaning.specs.Row.{completes, meets, not_ready, row_on}
use Rattle.ca_meaning.specs.Choice.{branch_of, branches_of, default_of}
use Rattle.ca_meaning.specs.Refusal.{not_a_channel, nil_put, bad_port, bad_ports, bad_choice, unfit, too_many, refusal}
use Rattle.ca_meaning.specs.Registry.{Registry, registry_made}
use Rattle.ca_meaning.specs.Task.{TaskBody, script, system_task, body_at, body_fill, BodyRest, new_task, reply_to, reply_at, body_reply}
use Rattle.ca_meaning.specs.State.{State, Task, Tasks, Channels, waiting, over, runs, Opening, shut_all, shut_result}
use Rattle.ca_meaning.specs.ChannelSteps.{with_default, other_side}
use Rattle.ca_meaning.specs.Going.{RunsAtOperation, Goes, Wakes}
use Rattle.ca_meaning.specs.Steps.{Step, Steps}
use Rattle.ca_meaning.specs.Legal.{Reaches}
use Rattle.ca_meaning.specs.Sound.{Each}
use Rattle.ca_meaning.proofs.Rows.{TakeDone, gave, nothing_left, PutDone, refused, promised, accepted, Settled, moved_in, served, served_nil, take_done, put_done, take_meets, put_meets, settle_does, row_channel}
use Rattle.ca_meaning.proofs.Refusals.{or_none, each-get}
use Rattle.ca_meaning.proofs.Waits.{each-append, each-filter, each-head, queue_without, queue_joined, other}
use Rattle.ca_meaning.proofs.Channels.{one_more, maybe_more, shut_each, made_empty}
use Rattle.ca_meaning.proofs.Tasks.{AllBodies, nothing, one, puts_all}
use Rattle.ca_meaning.proofs.Soundness.{only_task}
use Rattle.ca_meaning.specs.RunValues.{IsOffered, OffersIn, AreLight, PortHas, PortsHave, OpHas, AtHas, SeedHas, RegistryHas, BodyHas, Holds, EventHas}
use Rattle.ca_meaning.proofs.ValueTerms.{IsWritten, keyword_is, nil_is_value, rested_has, filled_has, in_list, started_has, EachIsValue}
use Rattle.ca_meaning.proofs.ValuesAsked.{offered_is_value, at_has}
use Rattle.ca_meaning.proofs.ValueTables.{port_is_value, bool_is_value, system_asking, system_filled, new_system_has, system_rested_has}
use Rattle.ca_meaning.proofs.ValueRegistries.{RegisteredHas, registering_has, registry_made_has}

module _ (scalars : Scalars) where
  -- small values
  nil_offered : IsOffered scalars nil
  nil_offered = record { regular = tt; light = omega arith; shallow = omega arith }

  bool_offered : (b : Bool) → IsOffered scalars (bool b)
  bool_offered b = record { regular = tt; light = omega arith; shallow = omega arith }

  told_offered : (side : Side) (v : Tree) → IsOffered scalars v → IsOffered scalars (told side v)
  told_offered Take v h = h
  told_offered Put v h = bool_offered true

  pair_value : (v : Tree) (p : ℕ) → IsOffered scalars v → IsValue scalars (vector (value_item v (value_item (port p) no_values)))
  pair_value v p h = let a = h.light in let b = h.shallow in record { regular = (h.regular, (tt, tt)); light = omega (arith, a); shallow = omega (arith, b) }

  default_value : (v : Tree) → IsOffered scalars v → IsValue scalars (with_default v)
  default_value v h = let a = h.light in let b = h.shallow in record { regular = (h.regular, (keyword_is scalars (codes "default") refl, tt)); light = omega (arith, a); shallow = omega (arith, b) }

  reply_to_value : (op : OpView) (p : ℕ) (v : Tree) → IsOffered scalars v → IsValue scalars (reply_to op p v)
  reply_to_value (choosing ports priority default) p v h = pair_value v p h
  reply_to_value op p v h = offered_is_value scalars v h

  reply_at_value : (a : At) (p : ℕ) (v : Tree) → IsOffered scalars v → IsValue scalars (reply_at a p v)
  reply_at_value (at_op want) p v h = reply_to_value want.op p v h
  reply_at_value a p v h = offered_is_value scalars v h

  reply_value : (b : TaskBody) (p : ℕ) (v : Tree) → IsOffered scalars v → IsValue scalars (body_reply b p v)
  reply_value b p v h = reply_at_value (body_at b) p v h

  -- what an operation's branches bring
  asked_branch : (s : State) (v : Tree) → PortHas scalars v → bad_port s v ≡ None → OffersIn scalars (branch_of v)
  asked_branch s (vector vs) h e = by (is_pair vs) refl e where
    by : (b : Bool) → is_pair vs ≡ b → cond b (or_else (not_a_channel s (first_of vs)) (nil_put (second_of vs))) (Some NotAPort) ≡ None → IsOffered scalars (second_of vs)
    by true is e = h is
    by false is e = cc
  asked_branch s v h e = tt

  asked_branches : (s : State) (vs : Trees) → PortsHave scalars vs → bad_ports s vs ≡ None → Each (OffersIn scalars) (map branch_of (values_in vs))
  asked_branches s no_values h e = tt
  asked_branches s (value_item v vs) h e = let k = or_none (bad_port s v) (bad_ports s vs) e in (asked_branch s v h.0 k.0, asked_branches s vs h.1 k.1)

  abbrev Brought : List BranchView → Type 0
  Brought bs = Each (OffersIn scalars) bs × AreLight bs

  choice_branches : (s : State) (vs : Trees) → PortsHave scalars vs → bad_choice s vs ≡ None → Each (OffersIn scalars) (map branch_of (values_in vs))
  choice_branches s no_values h e = cc
  choice_branches s (value_item v vs) h e = by (nat_lt 256 (count_of (value_item v vs))) e where
    by : (b : Bool) → cond b (Some TooManyPorts) (bad_ports s (value_item v vs)) ≡ None → Each (OffersIn scalars) (map branch_of (values_in (value_item v vs)))
    by true e = cc
    by false e = asked_branches s (value_item v vs) h e

  brought : (s : State) (op : OpView) → OpHas scalars op → refusal s op ≡ None → Brought (branches_of op)
  brought s op h e = by op h (or_none (unfit s op) (too_many s op) e).0 where
    by : (o : OpView) → OpHas scalars o → unfit s o ≡ None → Brought (branches_of o)
    by (taking c) h e = ((tt, tt), omega arith)
    by (putting c v) h e = let a = h.light in ((h, tt), omega (arith, a))
    by (posting c v) h e = let a = h.light in ((h, tt), omega (arith, a))
    by (choosing ports priority default) h e = (choice_branches s ports h.0 e, h.1)
    by (making what) h e = (tt, omega arith)
    by (spawning seed) h e = (tt, omega arith)
    by (closing c) h e = (tt, omega arith)
    by (registering name args) h e = (tt, omega arith)
    by (printing line) h e = (tt, omega arith)

  default_there : (op : OpView) (v : Tree) → OpHas scalars op → default_of op ≡ Some v → IsOffered scalars v
  default_there (choosing ports priority (Some w)) v h e = subst (IsOffered scalars) (let k : w ≡ v = cc in k) h.2
  default_there (choosing ports priority None) v h e = cc
  default_there (taking c) v h e = cc
  default_there (putting c w) v h e = cc
  default_there (posting c w) v h e = cc
  default_there (making what) v h e = cc
  default_there (spawning seed) v h e = cc
  default_there (closing c) v h e = cc
  default_there (registering name args) v h e = cc
  default_there (printing line) v h e = cc

  -- what channels keep
  abbrev Held : List Tree → Type 0
  Held vs = Each (IsOffered scalars) vs

  less_held : (vs : List Tree) → Held vs → Held (without_first vs)
  less_held [] h = tt
  less_held (v ∷ vs) h = h.1

  either_held : (b : Bool) (x y : List Tree) → Held x → Held y → Held (cond b x y)
  either_held true x y g h = g
  either_held false x y g h = h

  first_held : (vs : List Tree) (v : Tree) → Held vs → IsOffered scalars v → Held (only_first vs v)
  first_held [] v h i = (i, tt)
  first_held (w ∷ ws) v h i = h

  keep_held : (policy : Policy) (full : Bool) (vs : List Tree) (v : Tree) → Held vs → IsOffered scalars v → Held (keep_by policy full vs v)
  keep_held no_buffer full vs v h i = each-append (IsOffered scalars) vs (v ∷ []) h (i, tt)
  keep_held fixed_buffer full vs v h i = each-append (IsOffered scalars) vs (v ∷ []) h (i, tt)
  keep_held dropping_buffer full vs v h i = either_held full vs (vs ++ v ∷ []) h (each-append (IsOffered scalars) vs (v ∷ []) h (i, tt))
  keep_held sliding_buffer full vs v h i = either_held full (without_first (vs ++ v ∷ [])) (vs ++ v ∷ []) (less_held (vs ++ v ∷ []) (each-append (IsOffered scalars) vs (v ∷ []) h (i, tt))) (each-append (IsOffered scalars) vs (v ∷ []) h (i, tt))
  keep_held promise_buffer full vs v h i = first_held vs v h i

  give_held : (policy : Policy) (vs : List Tree) → Held vs → Held (give_first policy vs)
  give_held no_buffer vs h = less_held vs h
  give_held fixed_buffer vs h = less_held vs h
  give_held dropping_buffer vs h = less_held vs h
  give_held sliding_buffer vs h = less_held vs h
  give_held promise_buffer vs h = h

  abbrev Holding : Channel → Type 0
  Holding c = Held c.held

  kept : (c : Channel) (v : Tree) → Holding c → IsOffered scalars v → Holding (keeping c v)
  kept c v h i = keep_held c.policy (is_full c.capacity c.held) c.held v h i

  gave_one : (c : Channel) → Holding c → Holding (giving c)
  gave_one c h = give_held c.policy c.held h

  front_held : (c : Channel) (a : Tree) (vs : List Tree) → c.held ≡ a ∷ vs → Holding c → IsOffered scalars a
  front_held c a vs e h = (subst Held e h).0

  done_holds : (c : Channel) (ts ps : Option Handler) (b : BranchView) (a : Tree) (d : Channel) → Holding c → OffersIn scalars b → row_on c ts ps b ≡ completes a d → Holding d × IsOffered scalars a
  done_holds c ts ps (take_of p) a d h i e = by (take_done c ps a d e) where
    by : TakeDone c a d → Holding d × IsOffered scalars a
    by (gave vs is k) = (subst Holding (sym k) (gave_one c h), front_held c a vs is h)
    by (nothing_left is cl n k) = (subst Holding (sym k) h, subst (IsOffered scalars) (sym n) nil_offered)
  done_holds c ts ps (put_of p v) a d h i e = by (put_done c ts ps v a d e) where
    by : PutDone c ts ps v a d → Holding d × IsOffered scalars a
    by (refused cl n k) = (subst Holding (sym k) h, subst (IsOffered scalars) (sym n) (bool_offered false))
    by (promised cl pr n k) = (subst Holding (sym k) (kept c v h i), subst (IsOffered scalars) (sym n) (bool_offered true))
    by (accepted cl pr r t o n k) = (subst Holding (sym k) (kept c v h i), subst (IsOffered scalars) (sym n) (bool_offered true))

  abbrev OffersHandler : Handler → Type 0
  OffersHandler h = IsOffered scalars h.value

  abbrev AllOffered : List Wait → Type 0
  AllOffered ws = (p : ℕ) → Each OffersHandler (queue Put p ws)

  met_value : (c : Channel) (ws : List Wait) (b : BranchView) (h : Handler) (v : Tree) → AllOffered ws → OffersIn scalars b → row_on c (front Take (port_of b) ws) (front Put (port_of b) ws) b ≡ meets h v → IsOffered scalars v
  met_value c ws (take_of p) h v all i e = let k = take_meets c (front Put p ws) h v e in subst (IsOffered scalars) (sym k.value) (each-head OffersHandler (queue Put p ws) h (all p) k.in_front)
  met_value c ws (put_of p u) h v all i e = subst (IsOffered scalars) (sym (put_meets c (front Take p ws) (front Put p ws) u h v e).value) i

  settled_holds : (c : Channel) (p : ℕ) (ws : List Wait) (side : Side) (h : Handler) (v : Tree) (d : Channel) → AllOffered ws → Holding c → Settled c (front Take p ws) (front Put p ws) side h v d → Holding d × IsOffered scalars v
  settled_holds c p ws side h v d all i (moved_in a b n k fx r) = let w = subst (IsOffered scalars) (sym n) (each-head OffersHandler (queue Put p ws) h (all p) b) in (subst Holding (sym k) (kept c v i w), w)
  settled_holds c p ws side h v d all i (served a b vs is k) = (subst Holding (sym k) (gave_one c i), front_held c v vs is i)
  settled_holds c p ws side h v d all i (served_nil a b is cl n k) = (subst Holding (sym k) i, subst (IsOffered scalars) (sym n) nil_offered)

  -- waits
  fewer_offered : (w : ℕ) (ws : List Wait) → AllOffered ws → AllOffered (without w ws)
  fewer_offered w ws all p = subst (Each OffersHandler) (sym (queue_without Put p w ws)) (each-filter OffersHandler (other w) (queue Put p ws) (all p))

  joining : (p w k : ℕ) (bs : List BranchView) → Each (OffersIn scalars) bs → Each OffersHandler (handlers Put p w k bs)
  joining p w k [] a = tt
  joining p w k (take_of q ∷ bs) a = joining p w (suc k) bs a.1
  joining p w k (put_of q v ∷ bs) a = by (eqb p q) (joining p w (suc k) bs a.1) where
    by : (t : Bool) → Each OffersHandler (handlers Put p w (suc k) bs) → Each OffersHandler (cond t (record { wait = w; branch = k; value = v } ∷ handlers Put p w (suc k) bs) (handlers Put p w (suc k) bs))
    by true r = (a.0, r)
    by false r = r

  more_offered : (ws : List Wait) (x : Wait) → AllOffered ws → Each (OffersIn scalars) x.branches → AllOffered (ws ++ x ∷ [])
  more_offered ws x all h p = subst (Each OffersHandler) (sym (queue_joined Put p ws x)) (each-append OffersHandler (queue Put p ws) (handlers Put p x.number 0 x.branches) (all p) (joining p x.number 0 x.branches h))

  -- registries
  abbrev AllListed : (ℕ → Option Registry) → Type 0
  AllListed f = (p : ℕ) (r : Registry) → f p ≡ Some r → RegistryHas scalars r

  more_listed : (f : ℕ → Option Registry) (p : ℕ) (o : Option Registry) → AllListed f → ((r : Registry) → o ≡ Some r → RegistryHas scalars r) → AllListed (update eqb f p o)
  more_listed f p o all h q r e = by (eqb p q) e where
    by : (b : Bool) → cond b o (f q) ≡ Some r → RegistryHas scalars r
    by true e = h r e
    by false e = all q r e

  some_listed : (r q : Registry) → RegistryHas scalars r → Some r ≡ Some q → RegistryHas scalars q
  some_listed r q h e = subst (RegistryHas scalars) (let k : r ≡ q = cc in k) h

  abbrev HoldingAll : Channels → Type 0
  HoldingAll f = (p : ℕ) (c : Channel) → f p ≡ Some c → Holding c

  shut_holds : (ports : List ℕ) (f : Channels) → HoldingAll f → HoldingAll (shut_all ports f)
  shut_holds ports f all = shut_each (λ p c. Holding c) ports f (λ q c h. h) all

  shut_result_holds : (o : Option ℕ) (f : Channels) → HoldingAll f → HoldingAll (shut_result o f)
  shut_result_holds None f all = all
  shut_result_holds (Some p) f all = shut_holds (p ∷ []) f all

  -- bodies
  pub body_asking : (b : TaskBody) → BodyHas scalars b → AtHas scalars (body_at b)
  body_asking (script b) h = at_has scalars b h
  body_asking (system_task b) h = system_asking scalars b h

  asked_with : (s : State) (t : ℕ) (op : OpView) (x : Task) → Holds scalars s → RunsAtOperation s t op x → OpHas scalars op
  asked_with s t op x h st = subst (AtHas scalars) st.2.1 (body_asking x.body (h.bodies t x st.0))

  stands_brought : (s : State) (t : ℕ) (op : OpView) (x : Task) → Holds scalars s → RunsAtOperation s t op x → Brought (branches_of op)
  stands_brought s t op x h st = brought s op (asked_with s t op x h st) st.3

  module _ (program : ProgramView) (written : IsWritten scalars program) where
    rest_has : (b c : TaskBody) → BodyHas scalars b → BodyRest program b c → BodyHas scalars c
    rest_has (script b) c h r = subst (BodyHas scalars) (sym r.2) (rested_has scalars program written r.1.reached h)
    rest_has (system_task b) c h r = subst (BodyHas scalars) (sym r.2) (system_rested_has scalars program written b r.0 h r.1)

    goes_has : (b c : TaskBody) (v : Tree) → BodyHas scalars b → IsValue scalars v → BodyRest program (body_fill v b) c → BodyHas scalars c
    goes_has (script b) c v h i r = rest_has (script (fill v b)) c (filled_has scalars v b.term i h) r
    goes_has (system_task b) c v h i r = rest_has (body_fill v (system_task b)) c (system_filled scalars v b i h) r

    port_listed : (vs : List Tree) (p : ℕ) → EachIsValue scalars vs → EachIsValue scalars (vs ++ port p ∷ [])
    port_listed [] p h = (port_is_value scalars p, tt)
    port_listed (v ∷ vs) p h = (h.0, port_listed vs p h.1)

    new_has : (seed : SeedView) (c : TaskBody) → SeedHas scalars seed → BodyRest program (new_task program seed) c → BodyHas scalars c
    new_has (go n values result place) c h r = rest_has (new_task program (go n values result place)) c (started_has scalars program.bodies n (values_in values ++ port result ∷ []) written.bodies (port_listed (values_in values) result (in_list scalars values h))) r
    new_has (system kind values place) c h r = rest_has (new_task program (system kind values place)) c (new_system_has scalars kind values place h) r

    goes_all : (f g : Tasks) (t : ℕ) (x : Task) (v : Tree) → AllBodies (BodyHas scalars) f → BodyHas scalars x.body → IsValue scalars v → Goes program f t x v g → AllBodies (BodyHas scalars) g
    goes_all f g t x v all h i q = puts_all (BodyHas scalars) f g (one f (nothing refl) t (runs x.result q.0) (goes_has x.body q.0 v h i q.1) q.2) all

    wakes_all : (o : Option ℕ) (f g : Tasks) (w p : ℕ) (v : Tree) → AllBodies (BodyHas scalars) f → IsOffered scalars v → Wakes program o f w p v g → AllBodies (BodyHas scalars) g
    wakes_all None f g w p v all i e = subst (AllBodies (BodyHas scalars)) (sym e) all
    wakes_all (Some u) f g w p v all i x = goes_all f g u x.0 _ all (all u x.0 x.1) (reply_value x.0.body p v i) x.3

    task_all : (f : Tasks) (t : ℕ) (y : Task) → AllBodies (BodyHas scalars) f → BodyHas scalars y.body → AllBodies (BodyHas scalars) (update eqb f t (Some y))
    task_all f t y all h = puts_all (BodyHas scalars) f (update eqb f t (Some y)) (one f (nothing refl) t y h refl) all

    pub step_holds : (s s2 : State) (e : EventView) → Step program s e s2 → Holds scalars s → Holds scalars s2 × EventHas scalars e
    step_holds s s2 (made t p what moment) x h = (
      subst (Holds scalars) (sym x.7) (record {
        bodies = goes_all s.tasks x.1 t x.0 (port p) h.bodies (h.bodies t x.0 x.2.0) (port_is_value scalars p) x.6;
        held = maybe_more (λ q c. Holding c) s.channels p (channel_made what) h.held (λ d e. subst Held (sym (made_empty what d e)) tt);
        offered = h.offered;
        listed = more_listed s.registries p (registry_made what) h.listed (registry_made_has scalars what);
      }),
      asked_with s t (making what) x.0 h x.2,
    )
    step_holds s s2 (spawned t u kind result) x h = (
      subst (Holds scalars) (sym x.10) (record {
        bodies = task_all x.2 u (runs result x.3) (goes_all s.tasks x.2 t x.0 nil h.bodies (h.bodies t x.0 x.4.0) (nil_is_value scalars) x.8) (new_has x.1 x.3 (asked_with s t (spawning x.1) x.0 h x.4) x.9);
        held = h.held;
        offered = h.offered;
        listed = h.listed;
      }),
      tt,
    )
    step_holds s s2 (done t k b a) x h =
        let i = each-get (OffersIn scalars) (branches_of x.1) k b (stands_brought s t x.1 x.0 h x.4).0 x.5.0 in
        let r = row_channel (s.channels (port_of b)) (front Take (port_of b) s.waits) (front Put (port_of b) s.waits) b (completes a x.3) x.6 (λ n. let k : not_ready ≡ completes a x.3 = sym n in absurd cc) in
        let d = done_holds r.0 (front Take (port_of b) s.waits) (front Put (port_of b) s.waits) b a x.3 (h.held (port_of b) r.0 r.1) i r.2 in (
          subst (Holds scalars) (sym x.8) (record {
            bodies = goes_all s.tasks x.2 t x.0 _ h.bodies (h.bodies t x.0 x.4.0) (reply_value x.0.body (port_of b) a d.1) x.7;
            held = one_more (λ q c. Holding c) s.channels (port_of b) x.3 h.held d.0;
            offered = h.offered;
            listed = h.listed;
          }),
          (i, d.1),
        )
    step_holds s s2 (met t k side p v w o) x h =
        let i = each-get (OffersIn scalars) (branches_of x.1) k x.2 (stands_brought s t x.1 x.0 h x.6).0 x.7.0 in
        let r = row_channel (s.channels (port_of x.2)) (front Take (port_of x.2) s.waits) (front Put (port_of x.2) s.waits) x.2 (meets x.3 v) x.10 (λ n. let k : not_ready ≡ meets x.3 v = sym n in absurd cc) in
        let j = met_value r.0 s.waits x.2 x.3 v h.offered i r.2 in (
          subst (Holds scalars) (sym x.15) (record {
            bodies = wakes_all (owner_of w s.waits) x.4 x.5 w p _ (goes_all s.tasks x.4 t x.0 _ h.bodies (h.bodies t x.0 x.6.0) (reply_value x.0.body p (told side v) (told_offered side v j)) x.13) (told_offered (other_side side) v j) x.14;
            held = h.held;
            offered = fewer_offered w s.waits h.offered;
            listed = h.listed;
          }),
          j,
        )
    step_holds s s2 (parked t w bs) x h =
        let b = subst Brought x.4 (stands_brought s t x.1 x.0 h x.2) in (
          subst (Holds scalars) (sym x.8) (record {
            bodies = task_all s.tasks t (record x.0 { mode = waiting w }) h.bodies (h.bodies t x.0 x.2.0);
            held = h.held;
            offered = more_offered s.waits (record { number = w; owner = Some t; branches = bs }) h.offered b.0;
            listed = h.listed;
          }),
          b,
        )
    step_holds s s2 (posted t w p v) x h =
        let i = asked_with s t (posting (port p) v) x.0 h x.2 in (
          subst (Holds scalars) (sym x.6) (record {
            bodies = goes_all s.tasks x.1 t x.0 (bool true) h.bodies (h.bodies t x.0 x.2.0) (bool_is_value scalars true) x.5;
            held = h.held;
            offered = more_offered s.waits (record { number = w; owner = None; branches = put_of p v ∷ [] }) h.offered (i, tt);
            listed = h.listed;
          }),
          i,
        )
    step_holds s s2 (settled w k side p v) x h =
        let d = settled_holds x.0 p s.waits side x.2 v x.1 h.offered (h.held p x.0 x.4) (settle_does x.0 (front Take p s.waits) (front Put p s.waits) side x.2 v x.1 x.5) in (
          subst (Holds scalars) (sym x.9) (record {
            bodies = wakes_all (owner_of w s.waits) s.tasks x.3 w p _ h.bodies (told_offered side v d.1) x.8;
            held = one_more (λ q c. Holding c) s.channels p x.1 h.held d.0;
            offered = fewer_offered w s.waits h.offered;
            listed = h.listed;
          }),
          d.1,
        )
    step_holds s s2 (defaulted t v) x h =
        let i = default_there x.1 v (asked_with s t x.1 x.0 h x.3) x.4 in (
          subst (Holds scalars) (sym x.7) (record {
            bodies = goes_all s.tasks x.2 t x.0 _ h.bodies (h.bodies t x.0 x.3.0) (default_value v i) x.6;
            held = h.held;
            offered = h.offered;
            listed = h.listed;
          }),
          i,
        )
    step_holds s s2 (closed t p) x h = (
      subst (Holds scalars) (sym x.4) (record {
        bodies = goes_all s.tasks x.1 t x.0 nil h.bodies (h.bodies t x.0 x.2.0) (nil_is_value scalars) x.3;
        held = shut_holds (p ∷ []) s.channels h.held;
        offered = h.offered;
        listed = h.listed;
      }),
      tt,
    )
    step_holds s s2 (registered t name args v) x h =
        let i = asked_with s t (registering name args) x.0 h x.3 in
        let r = subst (RegisteredHas scalars) x.4 (registering_has scalars s name args h.listed i.0) in (
          subst (Holds scalars) (sym x.6) (record {
            bodies = goes_all s.tasks x.2 t x.0 v h.bodies (h.bodies t x.0 x.3.0) r.0 x.5;
            held = h.held;
            offered = h.offered;
            listed = more_listed s.registries _ (Some x.1) h.listed (λ q e. some_listed x.1 q r.1 e);
          }),
          (i.0, i.1, r.0),
        )
    step_holds s s2 (printed t line) x h = (
      subst (Holds scalars) (sym x.4) (record {
        bodies = goes_all s.tasks x.1 t x.0 nil h.bodies (h.bodies t x.0 x.2.0) (nil_is_value scalars) x.3;
        held = h.held;
        offered = h.offered;
        listed = h.listed;
      }),
      asked_with s t (printing line) x.0 h x.2,
    )
    step_holds s s2 (ticked m ports) x h = (subst (Holds scalars) (sym x.4) (record { bodies = h.bodies; held = shut_holds ports s.channels h.held; offered = h.offered; listed = h.listed }), tt)
    step_holds s s2 (is_over t Ended) x h = (
      subst (Holds scalars) (sym x.4) (record {
        bodies = task_all s.tasks t (record x.0 { mode = over }) h.bodies (h.bodies t x.0 x.2.0);
        held = h.held;
        offered = h.offered;
        listed = h.listed;
      }),
      tt,
    )
    step_holds s s2 (is_over t (Faulted fault place result)) x h = (
      subst (Holds scalars) (sym x.4) (record {
        bodies = task_all s.tasks t (record x.0 { mode = over }) h.bodies (h.bodies t x.0 x.1.0);
        held = shut_result_holds (option_map number_of result) s.channels h.held;
        offered = h.offered;
        listed = h.listed;
      }),
      tt,
    )

    pub steps_hold : (es : List EventView) (s s2 : State) → Steps program s es s2 → Holds scalars s → Holds scalars s2 × Each (EventHas scalars) es
    steps_hold [] s s2 x h = (subst (Holds scalars) (sym x) h, tt)
    steps_hold (e ∷ es) s s2 x h =
        let k = step_holds s x.0 e x.1 h in
        let j = steps_hold es x.0 s2 x.2 k.0 in
        (j.0, (k.1, j.1))

    opening_holds : (s : State) → Opening program s → Holds scalars s
    opening_holds s o = subst (Holds scalars) (sym o.2) (record {
      bodies = λ u x e. subst (λ (z : Task). BodyHas scalars z.body) (sym (only_task o.0 u x e)) (rest_has (script (new_body program.main)) o.0 written.main o.1);
      held = λ p c e. let k : None ≡ Some c = e in cc;
      offered = λ p. tt;
      listed = λ p r e. let k : None ≡ Some r = e in cc;
    })

    pub run_holds : (journal : List EventView) (s : State) → Reaches program journal s → Holds scalars s × Each (EventHas scalars) journal
    run_holds journal s r = steps_hold journal r.opening s r.steps (opening_holds r.opening r.opens)
