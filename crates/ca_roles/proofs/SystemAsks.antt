-- What a typed system task asks for.
use Rattle.std.proofs.Common.{◌≡◌, ℕ, List, [], ◌∷◌, ◌++◌, refl, sym, ap, ◌∙◌, subst, true, false, Option, Some, None}
use Rattle.ca_value.specs.Tree.{Tree, nil, bool, vector, port, item}
use Rattle.ca_term.specs.declared.place.Place.{Place}
use Rattle.ca_term.specs.declared.fault.Fault.{Fault}
use Rattle.ca_term.specs.declared.event.Side.{Side}
use Rattle.ca_term.specs.declared.event.Side.TheVariants.{Take, Put}
use Rattle.ca_term.specs.declared.head.SystemTask.TheVariants.{Deliver}
use Rattle.ca_term.specs.declared.head.RegisterName.TheVariants.{Taps, Untap, Modes, Unmix, Find, Topics}
use Rattle.ca_term.specs.Operation.{OpView, fixed, system, taking, putting, choosing, making, spawning, closing, registering}
use Rattle.ca_term.specs.Program.{ProgramView}
use Rattle.ca_meaning.specs.Applied.{Work}
use Rattle.ca_meaning.specs.Asking.{too_large_branches}
use Rattle.ca_meaning.specs.Asks.{Next, to, stop, fail, too_large_here, pair_of, one_of, two_of}
use Rattle.ca_meaning.specs.Body.{local, at_op, ended, faulted, asking}
use Rattle.ca_meaning.specs.MultTable.{MultPorts, MultState, mult_takes, mult_reads, mult_spawns, mult_waits, mult_reads_last, mult_closes, Delivery, DeliverState, deliver_puts, deliver_untaps, deliver_answers}
use Rattle.ca_meaning.specs.MixTable.{MixPorts, MixState, mix_reads, mix_chooses, mix_drops, mix_puts, port_trees}
use Rattle.ca_meaning.specs.PubTable.{PubPorts, PubState, pub_takes, pub_sorts, pub_finds, pub_puts, pub_reads_last, pub_closes}
use Rattle.ca_meaning.specs.PipeTable.{PipePorts, PipeState, pipe_takes, pipe_puts, pipe_closes, MergeState, merge_chooses, merge_puts, merge_closes, OntoPorts, OntoState, onto_puts, onto_closes, onto_ends}
use Rattle.ca_meaning.specs.PipelineTable.{FeedPorts, FeedState, feed_takes, feed_makes, feed_puts, feed_queues, feed_closes_jobs, feed_closes_replies, JobState, job_takes, job_works, job_replies, CollectPorts, CollectState, collect_takes, collect_opens, collect_puts, collect_closes, collect_ends}
use Rattle.ca_meaning.specs.Refusal.{unfit}
use Rattle.ca_meaning.specs.Sound.{Each}
use Rattle.ca_meaning.specs.State.{State}
use Rattle.ca_meaning.specs.System.{SystemBody, a_mult, a_delivery, a_mix, a_pub, a_pipe, a_merge, an_onto, a_feed, a_job, a_collect}
use Rattle.ca_meaning.specs.Task.{TaskBody, system_task}
use Rattle.ca_meaning.specs.Going.{IsAtOp}
use Rattle.ca_meaning.proofs.Waits.{each-append}
use Rattle.ca_roles.specs.Roles.{jobs, replies, reply, acks, Role, hidden, Roles, ArePublic, CarriesAs, ChannelCarries}
use Rattle.ca_roles.specs.Users.{MayUse, MayClose}
use Rattle.ca_roles.specs.Typed.{IsPublicPort, TypedSystem, MayAsk}
use Rattle.ca_roles.proofs.Ports.{asked, takes_public, puts_public, chooses_public, closes_public}

ports_public : (roles : Roles) (ps : List ℕ) → Each (IsPublicPort roles) ps → ArePublic roles (port_trees ps)
ports_public roles [] h = tt
ports_public roles (p ∷ ps) h = (h.0, ports_public roles ps h.1)

module _ (program : ProgramView) (roles : Roles) (s : State) where
  -- the task stands at o, if no operand faults
  stands : (P : OpView → Type 0) (l : Place) (f : Option Fault) (o op : OpView) (p : Place) → asking l f o ≡ at_op (record { op = op; place = p }) → (unfit s o ≡ None → P o) → unfit s op ≡ None → P op
  stands P l f o op p e k u = let same = (asked l f o (record { op = op; place = p }) e).0 in subst P same (k (ap (unfit s) same ∙ u))

  not_local : {G : Type 0} (op : OpView) (p : Place) → local ≡ at_op (record { op = op; place = p }) → G
  not_local op p e = absurd cc

  not_ended : {G : Type 0} (v : Tree) (op : OpView) (p : Place) → ended v ≡ at_op (record { op = op; place = p }) → G
  not_ended v op p e = absurd cc

  not_faulted : {G : Type 0} (f : Fault) (l : Place) (op : OpView) (p : Place) → faulted f l ≡ at_op (record { op = op; place = p }) → G
  not_faulted f l op p e = absurd cc

  in_use : (side : Side) (p : ℕ) (r : Role) (b : TaskBody) → roles p ≡ Some r → MayUse (Some r) side p b → MayUse (roles p) side p b
  in_use side p r b e k = subst (λ o. MayUse o side p b) (sym e) k

  in_role : (p : ℕ) (r : Role) (x : Tree) → roles p ≡ Some r → CarriesAs program roles (Some r) x → ChannelCarries program roles p x
  in_role p r x e k = subst (λ o. CarriesAs program roles o x) (sym e) k

  in_close : (p : ℕ) (r : Role) (b : TaskBody) → roles p ≡ Some r → MayClose (Some r) p b → MayClose (roles p) p b
  in_close p r b e k = subst (λ o. MayClose o p b) (sym e) k

  abbrev Asks : SystemBody → Type 0
  Asks b = (op : OpView) → TypedSystem program roles b → IsAtOp (system_task b) op → unfit s op ≡ None → MayAsk program roles (system_task b) op

  abbrev May : SystemBody → OpView → Type 0
  May b op = MayAsk program roles (system_task b) op

  mult_may : (t : MultPorts) (l : Place) (n : Next MultState) → Asks (a_mult t l n)
  mult_may t l (to mult_takes) op h at u = stands (May (a_mult t l (to mult_takes))) l None (taking (port t.source)) op at.0 at.1 (takes_public roles s program (system_task (a_mult t l (to mult_takes))) (port t.source) h.1) u
  mult_may t l (to (mult_reads v)) op h at u = stands (May (a_mult t l (to (mult_reads v)))) l None (registering Taps (one_of (port t.mult))) op at.0 at.1 (λ k. (h.0, tt)) u
  mult_may t l (to (mult_spawns v x xs n)) op h at u =
      stands (May (a_mult t l (to (mult_spawns v x xs n)))) l None (spawning (system Deliver (item (port t.mult) (item (port x.channel) (two_of v (port t.acks)))) l)) op at.0 at.1 (λ k. (λ i. (h.0, h.3.1, h.3.0, h.2), tt)) u
  mult_may t l (to (mult_waits n)) op h at u =
      stands (May (a_mult t l (to (mult_waits n)))) l None (taking (port t.acks)) op at.0 at.1 (λ k. (t.acks, refl, in_use Take t.acks (hidden h.2.0 acks) (system_task (a_mult t l (to (mult_waits n)))) h.2.1 (t, l, to (mult_waits n), refl, refl))) u
  mult_may t l (to mult_reads_last) op h at u = stands (May (a_mult t l (to mult_reads_last))) l None (registering Taps (one_of (port t.mult))) op at.0 at.1 (λ k. (h.0, tt)) u
  mult_may t l (to (mult_closes c cs)) op h at u = stands (May (a_mult t l (to (mult_closes c cs)))) l None (closing (port c)) op at.0 at.1 (closes_public roles s program (system_task (a_mult t l (to (mult_closes c cs)))) (port c) h.3.0) u
  mult_may t l stop op h at u = not_ended nil op at.0 at.1
  mult_may t l (fail f) op h at u = not_faulted f l op at.0 at.1

  delivery_may : (d : Delivery) (l : Place) (n : Next DeliverState) → Asks (a_delivery d l n)
  delivery_may d l (to deliver_puts) op h at u = stands (May (a_delivery d l (to deliver_puts))) l (too_large_here d.value) (putting (port d.channel) d.value) op at.0 at.1 (puts_public roles s program (system_task (a_delivery d l (to deliver_puts))) (port d.channel) d.value h.1 h.2) u
  delivery_may d l (to deliver_untaps) op h at u = stands (May (a_delivery d l (to deliver_untaps))) l None (registering Untap (two_of (port d.mult) (port d.channel))) op at.0 at.1 (λ k. (h.0, (h.1, tt))) u
  delivery_may d l (to deliver_answers) op h at u =
      stands (May (a_delivery d l (to deliver_answers))) l (too_large_here (bool true)) (putting (port d.acks) (bool true)) op at.0 at.1
      (λ k. (d.acks, refl, in_use Put d.acks (hidden h.3.0 acks) (system_task (a_delivery d l (to deliver_answers))) h.3.1 (d, l, to deliver_answers, refl, refl), in_role d.acks (hidden h.3.0 acks) (bool true) h.3.1 refl)) u
  delivery_may d l stop op h at u = not_ended nil op at.0 at.1
  delivery_may d l (fail f) op h at u = not_faulted f l op at.0 at.1

  mix_may : (x : MixPorts) (l : Place) (n : Next MixState) → Asks (a_mix x l n)
  mix_may x l (to mix_reads) op h at u = stands (May (a_mix x l (to mix_reads))) l None (registering Modes (one_of (port x.mix))) op at.0 at.1 (λ k. (h.0, tt)) u
  mix_may x l (to (mix_chooses reads heard)) op h at u =
      let ports = port_trees (reads ++ x.changes ∷ []) in
      let public_ports = ports_public roles (reads ++ x.changes ∷ []) (each-append (IsPublicPort roles) reads (x.changes ∷ []) h.3 (h.2, tt)) in
      stands (May (a_mix x l (to (mix_chooses reads heard)))) l (too_large_branches ports) (choosing ports false None) op at.0 at.1 (chooses_public roles s program (system_task (a_mix x l (to (mix_chooses reads heard)))) ports false None public_ports tt) u
  mix_may x l (to (mix_drops c)) op h at u = stands (May (a_mix x l (to (mix_drops c)))) l None (registering Unmix (two_of (port x.mix) (port c))) op at.0 at.1 (λ k. (h.0, (h.3, tt))) u
  mix_may x l (to (mix_puts reads heard v)) op h at u = stands (May (a_mix x l (to (mix_puts reads heard v)))) l (too_large_here v) (putting (port x.out) v) op at.0 at.1 (puts_public roles s program (system_task (a_mix x l (to (mix_puts reads heard v)))) (port x.out) v h.1 h.3.1) u
  mix_may x l stop op h at u = not_ended nil op at.0 at.1
  mix_may x l (fail f) op h at u = not_faulted f l op at.0 at.1

  pub_may : (t : PubPorts) (l : Place) (n : Next PubState) → Asks (a_pub t l n)
  pub_may t l (to pub_takes) op h at u = stands (May (a_pub t l (to pub_takes))) l None (taking (port t.source)) op at.0 at.1 (takes_public roles s program (system_task (a_pub t l (to pub_takes))) (port t.source) h.1) u
  pub_may t l (to (pub_sorts v)) op h at u = not_local op at.0 at.1
  pub_may t l (to (pub_finds topic v)) op h at u = stands (May (a_pub t l (to (pub_finds topic v)))) l None (registering Find (two_of (port t.publication) topic)) op at.0 at.1 (λ k. (h.0, (h.3.0, tt))) u
  pub_may t l (to (pub_puts c v)) op h at u = stands (May (a_pub t l (to (pub_puts c v)))) l (too_large_here v) (putting (port c) v) op at.0 at.1 (puts_public roles s program (system_task (a_pub t l (to (pub_puts c v)))) (port c) v h.3.0 h.3.1) u
  pub_may t l (to pub_reads_last) op h at u = stands (May (a_pub t l (to pub_reads_last))) l None (registering Topics (one_of (port t.publication))) op at.0 at.1 (λ k. (h.0, tt)) u
  pub_may t l (to (pub_closes c cs)) op h at u = stands (May (a_pub t l (to (pub_closes c cs)))) l None (closing (port c)) op at.0 at.1 (closes_public roles s program (system_task (a_pub t l (to (pub_closes c cs)))) (port c) h.3.0) u
  pub_may t l stop op h at u = not_ended nil op at.0 at.1
  pub_may t l (fail f) op h at u = not_faulted f l op at.0 at.1

  pipe_may : (t : PipePorts) (l : Place) (n : Next PipeState) → Asks (a_pipe t l n)
  pipe_may t l (to pipe_takes) op h at u = stands (May (a_pipe t l (to pipe_takes))) l None (taking (port t.source)) op at.0 at.1 (takes_public roles s program (system_task (a_pipe t l (to pipe_takes))) (port t.source) h.0) u
  pipe_may t l (to (pipe_puts v)) op h at u = stands (May (a_pipe t l (to (pipe_puts v)))) l (too_large_here v) (putting (port t.target) v) op at.0 at.1 (puts_public roles s program (system_task (a_pipe t l (to (pipe_puts v)))) (port t.target) v h.1 h.2) u
  pipe_may t l (to pipe_closes) op h at u = stands (May (a_pipe t l (to pipe_closes))) l None (closing (port t.target)) op at.0 at.1 (closes_public roles s program (system_task (a_pipe t l (to pipe_closes))) (port t.target) h.1) u
  pipe_may t l stop op h at u = not_ended nil op at.0 at.1
  pipe_may t l (fail f) op h at u = not_faulted f l op at.0 at.1

  merge_may : (o : ℕ) (l : Place) (n : Next MergeState) → Asks (a_merge o l n)
  merge_may o l (to (merge_chooses v vs)) op h at u =
      stands (May (a_merge o l (to (merge_chooses v vs)))) l (too_large_branches (item v vs)) (choosing (item v vs) false None) op at.0 at.1 (chooses_public roles s program (system_task (a_merge o l (to (merge_chooses v vs)))) (item v vs) false None h.1 tt) u
  merge_may o l (to (merge_puts vs v)) op h at u = stands (May (a_merge o l (to (merge_puts vs v)))) l (too_large_here v) (putting (port o) v) op at.0 at.1 (puts_public roles s program (system_task (a_merge o l (to (merge_puts vs v)))) (port o) v h.0 h.1.1) u
  merge_may o l (to merge_closes) op h at u = stands (May (a_merge o l (to merge_closes))) l None (closing (port o)) op at.0 at.1 (closes_public roles s program (system_task (a_merge o l (to merge_closes))) (port o) h.0) u
  merge_may o l stop op h at u = not_ended nil op at.0 at.1
  merge_may o l (fail f) op h at u = not_faulted f l op at.0 at.1

  onto_may : (o : OntoPorts) (l : Place) (n : Next OntoState) → Asks (an_onto o l n)
  onto_may o l (to (onto_puts v vs)) op h at u = stands (May (an_onto o l (to (onto_puts v vs)))) l (too_large_here v) (putting (port o.target) v) op at.0 at.1 (puts_public roles s program (system_task (an_onto o l (to (onto_puts v vs)))) (port o.target) v h.0 h.2.0) u
  onto_may o l (to onto_closes) op h at u = stands (May (an_onto o l (to onto_closes))) l None (closing (port o.target)) op at.0 at.1 (closes_public roles s program (system_task (an_onto o l (to onto_closes))) (port o.target) h.0) u
  onto_may o l (to onto_ends) op h at u = stands (May (an_onto o l (to onto_ends))) l None (closing (port o.result)) op at.0 at.1 (closes_public roles s program (system_task (an_onto o l (to onto_ends))) (port o.result) h.1) u
  onto_may o l stop op h at u = not_ended nil op at.0 at.1
  onto_may o l (fail f) op h at u = not_faulted f l op at.0 at.1

  feed_may : (f : FeedPorts) (l : Place) (n : Next FeedState) → Asks (a_feed f l n)
  feed_may f l (to feed_takes) op h at u = stands (May (a_feed f l (to feed_takes))) l None (taking (port f.source)) op at.0 at.1 (takes_public roles s program (system_task (a_feed f l (to feed_takes))) (port f.source) h.2) u
  feed_may f l (to (feed_makes v)) op h at u = stands (May (a_feed f l (to (feed_makes v)))) l None (making (fixed 1)) op at.0 at.1 (λ k. tt) u
  feed_may f l (to (feed_puts v p)) op h at u =
      stands (May (a_feed f l (to (feed_puts v p)))) l (too_large_here (pair_of v (port p))) (putting (port f.jobs) (pair_of v (port p))) op at.0 at.1
      (λ k. (f.jobs, refl, in_use Put f.jobs (hidden h.0 (jobs h.1)) (system_task (a_feed f l (to (feed_puts v p)))) h.3 (f, l, to (feed_puts v p), refl, refl), in_role f.jobs (hidden h.0 (jobs h.1)) (pair_of v (port p)) h.3 (v, p, refl, h.5.0, h.5.1))) u
  feed_may f l (to (feed_queues p)) op h at u =
      stands (May (a_feed f l (to (feed_queues p)))) l (too_large_here (port p)) (putting (port f.replies) (port p)) op at.0 at.1
      (λ k. (f.replies, refl, in_use Put f.replies (hidden h.0 (replies h.1)) (system_task (a_feed f l (to (feed_queues p)))) h.4 (f, l, to (feed_queues p), refl, refl), in_role f.replies (hidden h.0 (replies h.1)) (port p) h.4 (h.5.0, p, refl, h.5.1))) u
  feed_may f l (to feed_closes_jobs) op h at u =
      stands (May (a_feed f l (to feed_closes_jobs))) l None (closing (port f.jobs)) op at.0 at.1 (λ k. (f.jobs, refl, in_close f.jobs (hidden h.0 (jobs h.1)) (system_task (a_feed f l (to feed_closes_jobs))) h.3 (f, l, to feed_closes_jobs, refl, refl))) u
  feed_may f l (to feed_closes_replies) op h at u =
      stands (May (a_feed f l (to feed_closes_replies))) l None (closing (port f.replies)) op at.0 at.1 (λ k. (f.replies, refl, in_close f.replies (hidden h.0 (replies h.1)) (system_task (a_feed f l (to feed_closes_replies))) h.4 (f, l, to feed_closes_replies, refl, refl))) u
  feed_may f l stop op h at u = not_ended nil op at.0 at.1
  feed_may f l (fail g) op h at u = not_faulted g l op at.0 at.1

  job_may : (j : ℕ) (w : Work) (n : Next JobState) → Asks (a_job j w n)
  job_may j w (to job_takes) op h at u = stands (May (a_job j w (to job_takes))) w.place None (taking (port j)) op at.0 at.1 (λ k. (j, refl, in_use Take j (hidden h.0 (jobs w)) (system_task (a_job j w (to job_takes))) h.1 (to job_takes, refl))) u
  job_may j w (to (job_works v p)) op h at u = not_local op at.0 at.1
  job_may j w (to (job_replies p ys)) op h at u =
      let r = hidden h.3.1.0 (reply w h.3.0) in
      stands (May (a_job j w (to (job_replies p ys)))) w.place (too_large_here (vector ys)) (putting (port p) (vector ys)) op at.0 at.1
      (λ k. (p, refl, in_use Put p r (system_task (a_job j w (to (job_replies p ys)))) h.3.1.1 (j, ys, refl), in_role p r (vector ys) h.3.1.1 (ys, refl, h.3.2, h.3.3))) u
  job_may j w stop op h at u = not_ended nil op at.0 at.1
  job_may j w (fail f) op h at u = not_faulted f w.place op at.0 at.1

  collect_may : (c : CollectPorts) (l : Place) (n : Next CollectState) → Asks (a_collect c l n)
  collect_may c l (to collect_takes) op h at u =
      stands (May (a_collect c l (to collect_takes))) l None (taking (port c.replies)) op at.0 at.1 (λ k. (c.replies, refl, in_use Take c.replies (hidden h.0 (replies h.1)) (system_task (a_collect c l (to collect_takes))) h.4 (c, l, to collect_takes, refl, refl))) u
  collect_may c l (to (collect_opens p)) op h at u =
      stands (May (a_collect c l (to (collect_opens p)))) l None (taking (port p)) op at.0 at.1 (λ k. (p, refl, in_use Take p (hidden h.5.1.0 (reply h.1 h.5.0)) (system_task (a_collect c l (to (collect_opens p)))) h.5.1.1 (c, l, refl))) u
  collect_may c l (to (collect_puts y ys)) op h at u = stands (May (a_collect c l (to (collect_puts y ys)))) l (too_large_here y) (putting (port c.target) y) op at.0 at.1 (puts_public roles s program (system_task (a_collect c l (to (collect_puts y ys)))) (port c.target) y h.2 h.5.0) u
  collect_may c l (to collect_closes) op h at u = stands (May (a_collect c l (to collect_closes))) l None (closing (port c.target)) op at.0 at.1 (closes_public roles s program (system_task (a_collect c l (to collect_closes))) (port c.target) h.2) u
  collect_may c l (to collect_ends) op h at u = stands (May (a_collect c l (to collect_ends))) l None (closing (port c.result)) op at.0 at.1 (closes_public roles s program (system_task (a_collect c l (to collect_ends))) (port c.result) h.3) u
  collect_may c l stop op h at u = not_ended nil op at.0 at.1
  collect_may c l (fail f) op h at u = not_faulted f l op at.0 at.1

  pub system_asks : (b : SystemBody) (op : OpView) → TypedSystem program roles b → IsAtOp (system_task b) op → unfit s op ≡ None → MayAsk program roles (system_task b) op
  system_asks (a_mult t l n) = mult_may t l n
  system_asks (a_delivery d l n) = delivery_may d l n
  system_asks (a_mix x l n) = mix_may x l n
  system_asks (a_pub t l n) = pub_may t l n
  system_asks (a_pipe t l n) = pipe_may t l n
  system_asks (a_merge o l n) = merge_may o l n
  system_asks (an_onto o l n) = onto_may o l n
  system_asks (a_feed f l n) = feed_may f l n
  system_asks (a_job j w n) = job_may j w n
  system_asks (a_collect c l n) = collect_may c l n
