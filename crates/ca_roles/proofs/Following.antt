-- A typed system task stays typed when its operation is answered.
use Rattle.std.proofs.Common.{◌≡◌, ◌⊎◌, inl, inr, ℕ, suc, zero, List, [], ◌∷◌, ◌++◌, refl, sym, subst, Bool, true, false, cond, eqb, Option, Some, None}
use Rattle.ca_value.specs.Tree.{Tree, Trees, nil, port, none, item}
use Rattle.ca_term.specs.declared.place.Place.{Place}
use Rattle.ca_term.specs.declared.fault.Fault.{Fault}
use Rattle.ca_term.specs.Operation.{OpView, taking, choosing, making, registering, fixed}
use Rattle.ca_term.specs.Program.{ProgramView}
use Rattle.ca_term.specs.declared.head.RegisterName.TheVariants.{Taps, Modes, Find, Topics}
use Rattle.ca_meaning.specs.Applied.{Work}
use Rattle.ca_meaning.specs.Asking.{too_large_branches}
use Rattle.ca_meaning.specs.Asks.{Next, to, stop, fail, needing, closes_due, ports_in, value_and_port, taps_in, one_of, two_of}
use Rattle.ca_meaning.specs.Body.{local, at_op, asking}
use Rattle.ca_meaning.specs.Operands.{is_nil, truth, port_of_value}
use Rattle.ca_meaning.specs.Registry.{TapView}
use Rattle.ca_meaning.specs.MultTable.{MultPorts, MultState, mult_takes, mult_reads, mult_spawns, mult_waits, mult_reads_last, mult_closes, acks_due, spawns_due, closing_of, mult_next}
use Rattle.ca_meaning.specs.MixTable.{MixPorts, MixState, mix_reads, mix_chooses, mix_drops, mix_puts, modes_in, read_of, heard_of, any_of, port_trees, mix_chosen, mix_next}
use Rattle.ca_meaning.specs.PubTable.{PubPorts, PubState, pub_takes, pub_sorts, pub_finds, pub_puts, pub_reads_last, pub_closes, channel_of_pair, pub_next}
use Rattle.ca_meaning.specs.PipeTable.{PipePorts, PipeState, pipe_takes, pipe_puts, pipe_closes, pipe_next, MergeState, merge_chooses, merge_puts, merge_closes, is_port, without_port, inputs_left, merge_next, OntoPorts, OntoState, onto_puts, onto_closes, onto_ends, onto_over, items_left, onto_next}
use Rattle.ca_meaning.specs.PipelineTable.{FeedPorts, FeedState, feed_takes, feed_makes, feed_puts, feed_queues, feed_closes_jobs, feed_closes_replies, feed_next, JobState, job_takes, job_works, job_replies, job_next, CollectPorts, CollectState, collect_takes, collect_opens, collect_puts, collect_closes, collect_ends, outputs_left, collect_next}
use Rattle.ca_meaning.specs.System.{SystemBody, a_mult, a_delivery, a_mix, a_pub, a_pipe, a_merge, an_onto, a_feed, a_job, a_collect, system_fill}
use Rattle.ca_meaning.specs.Task.{system_task}
use Rattle.ca_meaning.specs.Going.{IsAtOp}
use Rattle.ca_meaning.specs.Sound.{Each}
use Rattle.ca_roles.specs.Roles.{jobs, replies, reply, Role, hidden, Roles, IsPublic, ArePublic, CarriesAs, ChannelCarries}
use Rattle.ca_roles.specs.Typed.{IsPublicPort, IsTypedTap, TypedMult, TypedMix, TypedPub, TypedPipe, TypedMerge, TypedOnto, TypedFeed, TypedJob, TypedCollect, TypedNext, TypedSystem}
use Rattle.ca_roles.proofs.Ports.{asked, got_public}
use Rattle.ca_roles.proofs.AnswerForms.{pair_public, channel_public, ports_public, taps_public, closing_public, read_public}

-- What may answer an operation: a take gets nil or what its channel carries, the others public values. The answer of a
-- Make is a new port, of which its task tells the role.
abbrev pub IsAnswer : ProgramView → Roles → OpView → Tree → Type 0
IsAnswer program roles (taking c) a = (a ≡ nil) ⊎ ChannelCarries program roles (port_of_value c) a
IsAnswer program roles (making what) a = ⊥
IsAnswer program roles op a = IsPublic roles a

module _ (program : ProgramView) (roles : Roles) where
  -- the answer of the operation o at which the task stands
  answered : (l : Place) (f : Option Fault) (o op : OpView) (p : Place) (a : Tree) → asking l f o ≡ at_op (record { op = op; place = p }) → IsAnswer program roles op a → IsAnswer program roles o a
  answered l f o op p a e k = subst (λ z. IsAnswer program roles z a) (sym (asked l f o (record { op = op; place = p }) e).0) k

  not_local : {G : Type 0} (op : OpView) (p : Place) → local ≡ at_op (record { op = op; place = p }) → G
  not_local op p e = absurd cc

  got_as : (p : ℕ) (r : Role) (a : Tree) → roles p ≡ Some r → (a ≡ nil) ⊎ ChannelCarries program roles p a → (a ≡ nil) ⊎ CarriesAs program roles (Some r) a
  got_as p r a e (inl n) = inl n
  got_as p r a e (inr k) = inr (subst (λ o. CarriesAs program roles o a) e k)

  needed : {A S : Type 0} (P : S → Type 0) (o : Option A) (next : A → Next S) → ((x : A) → o ≡ Some x → TypedNext P (next x)) → TypedNext P (needing o next)
  needed P None next k = tt
  needed P (Some x) next k = k x refl

  either : {S : Type 0} (P : S → Type 0) (b : Bool) (x y : Next S) → TypedNext P x → TypedNext P y → TypedNext P (cond b x y)
  either P true x y h k = h
  either P false x y h k = k

  closes_typed : {S : Type 0} (P : S → Type 0) (state : ℕ → List ℕ → S) (cs : List ℕ) → ((c : ℕ) (cs : List ℕ) → IsPublicPort roles c → Each (IsPublicPort roles) cs → P (state c cs)) → Each (IsPublicPort roles) cs → TypedNext P (closes_due state cs)
  closes_typed P state [] f h = tt
  closes_typed P state (c ∷ cs) f h = f c cs h.0 h.1

  -- a mult
  acks_typed : (n : ℕ) → TypedNext (TypedMult roles) (acks_due n)
  acks_typed zero = tt
  acks_typed (suc n) = tt

  spawns_typed : (v : Tree) (ts : List TapView) (n : ℕ) → IsPublic roles v → Each (IsTypedTap roles) ts → TypedNext (TypedMult roles) (spawns_due v ts n)
  spawns_typed v [] n h k = acks_typed n
  spawns_typed v (t ∷ ts) n h k = (h, k.0, k.1)

  mult_goes : (t : MultPorts) (l : Place) (x : MultState) (op : OpView) (a : Tree) → TypedSystem program roles (a_mult t l (to x)) → IsAtOp (system_task (a_mult t l (to x))) op → IsAnswer program roles op a → TypedNext (TypedMult roles) (mult_next a x)
  mult_goes t l mult_takes op a h at k = either (TypedMult roles) (is_nil a) (to mult_reads_last) (to (mult_reads a)) tt (got_public roles program t.source a h.1 (answered l None (taking (port t.source)) op at.0 a at.1 k))
  mult_goes t l (mult_reads v) op a h at k = needed (TypedMult roles) (taps_in a) (λ ts. spawns_due v ts 0) (λ ts e. spawns_typed v ts 0 h.3 (taps_public roles a ts (answered l None (registering Taps (one_of (port t.mult))) op at.0 a at.1 k) e))
  mult_goes t l (mult_spawns v x xs n) op a h at k = spawns_typed v xs (suc n) h.3.0 h.3.2
  mult_goes t l (mult_waits n) op a h at k = acks_typed n
  mult_goes t l mult_reads_last op a h at k =
      needed (TypedMult roles) (taps_in a) (λ ts. closes_due mult_closes (closing_of ts)) (λ ts e. closes_typed (TypedMult roles) mult_closes (closing_of ts) (λ c cs i j. (i, j)) (closing_public roles ts (taps_public roles a ts (answered l None (registering Taps (one_of (port t.mult))) op at.0 a at.1 k) e)))
  mult_goes t l (mult_closes c cs) op a h at k = closes_typed (TypedMult roles) mult_closes cs (λ c cs i j. (i, j)) h.3.1

  -- a mix
  chosen_typed : (x : MixPorts) (reads heard : List ℕ) (v : Tree) (c : ℕ) → Each (IsPublicPort roles) reads → IsPublic roles v → IsPublicPort roles c → TypedNext (TypedMix roles) (mix_chosen x reads heard v c)
  chosen_typed x reads heard v c h i j =
      either (TypedMix roles) (eqb c x.changes) (to mix_reads) (cond (is_nil v) (to (mix_drops c)) (cond (any_of (eqb c) heard) (to (mix_puts reads heard v)) (to (mix_chooses reads heard)))) tt
      (either (TypedMix roles) (is_nil v) (to (mix_drops c)) (cond (any_of (eqb c) heard) (to (mix_puts reads heard v)) (to (mix_chooses reads heard))) j
      (either (TypedMix roles) (any_of (eqb c) heard) (to (mix_puts reads heard v)) (to (mix_chooses reads heard)) (h, i) h))

  mix_goes : (x : MixPorts) (l : Place) (y : MixState) (op : OpView) (a : Tree) → TypedSystem program roles (a_mix x l (to y)) → IsAtOp (system_task (a_mix x l (to y))) op → IsAnswer program roles op a → TypedNext (TypedMix roles) (mix_next x a y)
  mix_goes x l mix_reads op a h at k = needed (TypedMix roles) (modes_in a) (λ m. to (mix_chooses (read_of m) (heard_of m))) (λ m e. read_public roles a m (answered l None (registering Modes (one_of (port x.mix))) op at.0 a at.1 k) e)
  mix_goes x l (mix_chooses reads heard) op a h at k =
      let ports = port_trees (reads ++ x.changes ∷ []) in
      needed (TypedMix roles) (value_and_port a) (λ c. mix_chosen x reads heard c.0 c.1)
      (λ c e. let p = pair_public roles a c (answered l (too_large_branches ports) (choosing ports false None) op at.0 a at.1 k) e in chosen_typed x reads heard c.0 c.1 h.3 p.0 p.1)
  mix_goes x l (mix_drops c) op a h at k = tt
  mix_goes x l (mix_puts reads heard v) op a h at k = either (TypedMix roles) (truth a) (to (mix_chooses reads heard)) stop h.3.0 tt

  -- a publication
  pub_goes : (t : PubPorts) (l : Place) (x : PubState) (op : OpView) (a : Tree) → TypedSystem program roles (a_pub t l (to x)) → IsAtOp (system_task (a_pub t l (to x))) op → IsAnswer program roles op a → TypedNext (TypedPub roles) (pub_next a x)
  pub_goes t l pub_takes op a h at k = either (TypedPub roles) (is_nil a) (to pub_reads_last) (to (pub_sorts a)) tt (got_public roles program t.source a h.1 (answered l None (taking (port t.source)) op at.0 a at.1 k))
  pub_goes t l (pub_sorts v) op a h at k = not_local op at.0 at.1
  pub_goes t l (pub_finds topic v) op a h at k =
      either (TypedPub roles) (is_nil a) (to pub_takes) (needing (channel_of_pair a) (λ c. to (pub_puts c v))) tt
      (needed (TypedPub roles) (channel_of_pair a) (λ c. to (pub_puts c v)) (λ c e. (channel_public roles a c (answered l None (registering Find (two_of (port t.publication) topic)) op at.0 a at.1 k) e, h.3.1)))
  pub_goes t l (pub_puts c v) op a h at k = tt
  pub_goes t l pub_reads_last op a h at k =
      needed (TypedPub roles) (ports_in a) (closes_due pub_closes) (λ cs e. closes_typed (TypedPub roles) pub_closes cs (λ c cs i j. (i, j)) (ports_public roles a cs (answered l None (registering Topics (one_of (port t.publication))) op at.0 a at.1 k) e))
  pub_goes t l (pub_closes c cs) op a h at k = closes_typed (TypedPub roles) pub_closes cs (λ c cs i j. (i, j)) h.3.1

  -- a pipe
  pipe_goes : (t : PipePorts) (l : Place) (x : PipeState) (op : OpView) (a : Tree) → TypedSystem program roles (a_pipe t l (to x)) → IsAtOp (system_task (a_pipe t l (to x))) op → IsAnswer program roles op a → TypedNext (TypedPipe roles) (pipe_next t a x)
  pipe_goes t l pipe_takes op a h at k =
      either (TypedPipe roles) (is_nil a) (cond t.closes (to pipe_closes) stop) (to (pipe_puts a)) (either (TypedPipe roles) t.closes (to pipe_closes) stop tt tt) (got_public roles program t.source a h.0 (answered l None (taking (port t.source)) op at.0 a at.1 k))
  pipe_goes t l (pipe_puts v) op a h at k = either (TypedPipe roles) (truth a) (to pipe_takes) stop tt tt
  pipe_goes t l pipe_closes op a h at k = tt

  -- a merge
  inputs_typed : (vs : Trees) → ArePublic roles vs → TypedNext (TypedMerge roles) (inputs_left vs)
  inputs_typed none h = tt
  inputs_typed (item v vs) h = h

  fewer_public : (n : ℕ) (vs : Trees) → ArePublic roles vs → ArePublic roles (without_port n vs)
  fewer_public n none h = tt
  fewer_public n (item v vs) h = by (is_port n v) (fewer_public n vs h.1) where
    by : (b : Bool) → ArePublic roles (without_port n vs) → ArePublic roles (cond b (without_port n vs) (item v (without_port n vs)))
    by true k = k
    by false k = (h.0, k)

  merge_goes : (o : ℕ) (l : Place) (x : MergeState) (op : OpView) (a : Tree) → TypedSystem program roles (a_merge o l (to x)) → IsAtOp (system_task (a_merge o l (to x))) op → IsAnswer program roles op a → TypedNext (TypedMerge roles) (merge_next a x)
  merge_goes o l (merge_chooses v vs) op a h at k =
      needed (TypedMerge roles) (value_and_port a) (λ c. cond (is_nil c.0) (inputs_left (without_port c.1 (item v vs))) (to (merge_puts (item v vs) c.0)))
      (λ c e. either (TypedMerge roles) (is_nil c.0) (inputs_left (without_port c.1 (item v vs))) (to (merge_puts (item v vs) c.0)) (inputs_typed (without_port c.1 (item v vs)) (fewer_public c.1 (item v vs) h.1))
      (h.1, (pair_public roles a c (answered l (too_large_branches (item v vs)) (choosing (item v vs) false None) op at.0 a at.1 k) e).0))
  merge_goes o l (merge_puts vs v) op a h at k = inputs_typed vs h.1.0
  merge_goes o l merge_closes op a h at k = tt

  -- a collection that goes onto a channel
  pub over_typed : (o : OntoPorts) → TypedNext (TypedOnto roles) (onto_over o)
  over_typed o = either (TypedOnto roles) o.closes (to onto_closes) (to onto_ends) tt tt

  pub items_typed : (o : OntoPorts) (vs : Trees) → ArePublic roles vs → TypedNext (TypedOnto roles) (items_left o vs)
  items_typed o none h = over_typed o
  items_typed o (item v vs) h = h

  onto_goes : (o : OntoPorts) (l : Place) (x : OntoState) (op : OpView) (a : Tree) → TypedSystem program roles (an_onto o l (to x)) → IsAtOp (system_task (an_onto o l (to x))) op → IsAnswer program roles op a → TypedNext (TypedOnto roles) (onto_next o a x)
  onto_goes o l (onto_puts v vs) op a h at k = either (TypedOnto roles) (truth a) (items_left o vs) (onto_over o) (items_typed o vs h.2.1) (over_typed o)
  onto_goes o l onto_closes op a h at k = tt
  onto_goes o l onto_ends op a h at k = tt

  -- a pipeline's tasks
  feed_goes : (f : FeedPorts) (l : Place) (x : FeedState) (op : OpView) (a : Tree) (h : TypedSystem program roles (a_feed f l (to x))) → IsAtOp (system_task (a_feed f l (to x))) op → IsAnswer program roles op a → TypedNext (TypedFeed roles h.1) (feed_next a x)
  feed_goes f l feed_takes op a h at k = either (TypedFeed roles h.1) (is_nil a) (to feed_closes_jobs) (to (feed_makes a)) tt (got_public roles program f.source a h.2 (answered l None (taking (port f.source)) op at.0 a at.1 k))
  feed_goes f l (feed_makes v) op a h at k = absurd (answered l None (making (fixed 1)) op at.0 a at.1 k)
  feed_goes f l (feed_puts v p) op a h at k = (v, h.5.1)
  feed_goes f l (feed_queues p) op a h at k = tt
  feed_goes f l feed_closes_jobs op a h at k = tt
  feed_goes f l feed_closes_replies op a h at k = tt

  job_goes : (j : ℕ) (w : Work) (x : JobState) (op : OpView) (a : Tree) → TypedSystem program roles (a_job j w (to x)) → IsAtOp (system_task (a_job j w (to x))) op → IsAnswer program roles op a → TypedNext (TypedJob program roles w) (job_next a x)
  job_goes j w job_takes op a h at k = by (got_as j (hidden h.0 (jobs w)) a h.1 (answered w.place None (taking (port j)) op at.0 a at.1 k)) where
    by : (a ≡ nil) ⊎ CarriesAs program roles (Some (hidden h.0 (jobs w))) a → TypedNext (TypedJob program roles w) (job_next a job_takes)
    by (inl n) = subst (λ z. TypedNext (TypedJob program roles w) (job_next z job_takes)) (sym n) tt
    by (inr k) = subst (λ z. TypedNext (TypedJob program roles w) (job_next z job_takes)) (sym k.2) (k.3, k.4)
  job_goes j w (job_works v p) op a h at k = not_local op at.0 at.1
  job_goes j w (job_replies p ys) op a h at k = tt

  left_typed : (w : Work) (ys : Trees) → ArePublic roles ys → TypedNext (TypedCollect roles w) (outputs_left ys)
  left_typed w none h = tt
  left_typed w (item y ys) h = h

  collect_goes : (c : CollectPorts) (l : Place) (x : CollectState) (op : OpView) (a : Tree) (h : TypedSystem program roles (a_collect c l (to x))) → IsAtOp (system_task (a_collect c l (to x))) op → IsAnswer program roles op a → TypedNext (TypedCollect roles h.1) (collect_next c a x)
  collect_goes c l collect_takes op a h at k = by (got_as c.replies (hidden h.0 (replies h.1)) a h.4 (answered l None (taking (port c.replies)) op at.0 a at.1 k)) where
    by : (a ≡ nil) ⊎ CarriesAs program roles (Some (hidden h.0 (replies h.1))) a → TypedNext (TypedCollect roles h.1) (collect_next c a collect_takes)
    by (inl n) = subst (λ z. TypedNext (TypedCollect roles h.1) (collect_next c z collect_takes)) (sym n) (either (TypedCollect roles h.1) c.closes (to collect_closes) (to collect_ends) tt tt)
    by (inr k) = subst (λ z. TypedNext (TypedCollect roles h.1) (collect_next c z collect_takes)) (sym k.2) (k.0, k.3)
  collect_goes c l (collect_opens p) op a h at k = by (got_as p (hidden h.5.1.0 (reply h.1 h.5.0)) a h.5.1.1 (answered l None (taking (port p)) op at.0 a at.1 k)) where
    by : (a ≡ nil) ⊎ CarriesAs program roles (Some (hidden h.5.1.0 (reply h.1 h.5.0))) a → TypedNext (TypedCollect roles h.1) (collect_next c a (collect_opens p))
    by (inl n) = subst (λ z. TypedNext (TypedCollect roles h.1) (collect_next c z (collect_opens p))) (sym n) tt
    by (inr k) = subst (λ z. TypedNext (TypedCollect roles h.1) (collect_next c z (collect_opens p))) (sym k.1) (left_typed h.1 k.0 k.3)
  collect_goes c l (collect_puts y ys) op a h at k = either (TypedCollect roles h.1) (truth a) (outputs_left ys) (to collect_ends) (left_typed h.1 ys h.5.1) tt
  collect_goes c l collect_closes op a h at k = tt
  collect_goes c l collect_ends op a h at k = tt

  pub system_goes : (b : SystemBody) (op : OpView) (a : Tree) → TypedSystem program roles b → IsAtOp (system_task b) op → IsAnswer program roles op a → TypedSystem program roles (system_fill a b)
  system_goes (a_mult t l (to x)) op a h at k = (h.0, h.1, h.2, mult_goes t l x op a h at k)
  system_goes (a_delivery d l (to x)) op a h at k = h
  system_goes (a_mix x l (to y)) op a h at k = (h.0, h.1, h.2, mix_goes x l y op a h at k)
  system_goes (a_pub t l (to x)) op a h at k = (h.0, h.1, h.2, pub_goes t l x op a h at k)
  system_goes (a_pipe t l (to x)) op a h at k = (h.0, h.1, pipe_goes t l x op a h at k)
  system_goes (a_merge o l (to x)) op a h at k = (h.0, merge_goes o l x op a h at k)
  system_goes (an_onto o l (to x)) op a h at k = (h.0, h.1, onto_goes o l x op a h at k)
  system_goes (a_feed f l (to x)) op a h at k = (h.0, h.1, h.2, h.3, h.4, feed_goes f l x op a h at k)
  system_goes (a_job j w (to x)) op a h at k = (h.0, h.1, h.2, job_goes j w x op a h at k)
  system_goes (a_collect c l (to x)) op a h at k = (h.0, h.1, h.2, h.3, h.4, collect_goes c l x op a h at k)
  system_goes (a_mult t l stop) op a h at k = h
  system_goes (a_delivery d l stop) op a h at k = h
  system_goes (a_mix x l stop) op a h at k = h
  system_goes (a_pub t l stop) op a h at k = h
  system_goes (a_pipe t l stop) op a h at k = h
  system_goes (a_merge o l stop) op a h at k = h
  system_goes (an_onto o l stop) op a h at k = h
  system_goes (a_feed f l stop) op a h at k = h
  system_goes (a_job j w stop) op a h at k = h
  system_goes (a_collect c l stop) op a h at k = h
  system_goes (a_mult t l (fail g)) op a h at k = h
  system_goes (a_delivery d l (fail g)) op a h at k = h
  system_goes (a_mix x l (fail g)) op a h at k = h
  system_goes (a_pub t l (fail g)) op a h at k = h
  system_goes (a_pipe t l (fail g)) op a h at k = h
  system_goes (a_merge o l (fail g)) op a h at k = h
  system_goes (an_onto o l (fail g)) op a h at k = h
  system_goes (a_feed f l (fail g)) op a h at k = h
  system_goes (a_job j w (fail g)) op a h at k = h
  system_goes (a_collect c l (fail g)) op a h at k = h
