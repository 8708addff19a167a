-- What is typed stays typed where roles are added.
use Rattle.std.proofs.Common.{◌≡◌, ℕ, List, refl, sym, subst, Option, Some, None}
use Rattle.ca_value.specs.Tree.{Tree}
use Rattle.ca_term.specs.declared.event.Side.{Side}
use Rattle.ca_term.specs.declared.event.Side.TheVariants.{Take, Put}
use Rattle.ca_term.specs.Operation.{OpView, taking, putting, choosing, posting, making, spawning, closing, registering, printing, WhatView, unbuffered, fixed, dropping, sliding, promise, timeout, mult, mix, publication}
use Rattle.ca_term.specs.Program.{ProgramView}
use Rattle.ca_term.specs.Event.{BranchView, take_of, put_of}
use Rattle.ca_meaning.specs.Applied.{Work}
use Rattle.ca_meaning.specs.Asks.{Next, to, stop, fail}
use Rattle.ca_meaning.specs.Registry.{Registry, TapView, Source, TopicView, a_mult as the_mult, a_mix as the_mix, a_publication as the_publication}
use Rattle.ca_meaning.specs.MultTable.{MultState, mult_takes, mult_reads, mult_spawns, mult_waits, mult_reads_last, mult_closes}
use Rattle.ca_meaning.specs.MixTable.{MixState, mix_reads, mix_chooses, mix_drops, mix_puts}
use Rattle.ca_meaning.specs.PubTable.{PubState, pub_takes, pub_sorts, pub_finds, pub_puts, pub_reads_last, pub_closes}
use Rattle.ca_meaning.specs.PipeTable.{PipeState, pipe_takes, pipe_puts, pipe_closes, MergeState, merge_chooses, merge_puts, merge_closes, OntoState, onto_puts, onto_closes, onto_ends}
use Rattle.ca_meaning.specs.PipelineTable.{FeedState, feed_takes, feed_makes, feed_puts, feed_queues, feed_closes_jobs, feed_closes_replies, JobState, job_takes, job_works, job_replies, CollectState, collect_takes, collect_opens, collect_puts, collect_closes, collect_ends}
use Rattle.ca_meaning.specs.System.{SystemBody, a_mult, a_delivery, a_mix, a_pub, a_pipe, a_merge, an_onto, a_feed, a_job, a_collect}
use Rattle.ca_meaning.specs.Task.{TaskBody, script, system_task, new_task}
use Rattle.ca_meaning.specs.TaskSteps.{result_of}
use Rattle.ca_meaning.specs.State.{Task}
use Rattle.ca_meaning.specs.Sound.{Each}
use Rattle.ca_meaning.specs.Choice.{branches_of}
use Rattle.ca_meaning.proofs.Waits.{each-weaker}
use Rattle.ca_roles.specs.Roles.{jobs, replies, reply, acks, Role, public, hidden, Roles, no_roles, Grows, IsReply, CarriesAs, ChannelCarries}
use Rattle.ca_roles.specs.Users.{MayUse, MayClose}
use Rattle.ca_roles.specs.Typed.{IsPublicPort, IsTypedTap, IsTypedSource, IsTypedTopic, TypedMult, TypedMix, TypedPub, TypedPipe, TypedMerge, TypedOnto, TypedFeed, TypedJob, TypedCollect, TypedNext, TypedSystem, TypedBody, IsTypedResult, IsPublicBranch, IsPublicOption, IsPublicWhat, MayAsk, TypedTask, TypedRegistry}
use Rattle.ca_roles.proofs.Sealing.{public_more, all_public_more, sealed_more}

module _ (program : ProgramView) (roles more : Roles) (g : Grows roles more) where
  pub port_more : (p : ℕ) → IsPublicPort roles p → IsPublicPort more p
  port_more p k = g p public k

  pub ports_more : (ps : List ℕ) → Each (IsPublicPort roles) ps → Each (IsPublicPort more) ps
  ports_more ps k = each-weaker (IsPublicPort roles) (IsPublicPort more) ps port_more k

  tap_more : (t : TapView) → IsTypedTap roles t → IsTypedTap more t
  tap_more t k = g t.channel public k

  taps_more : (ts : List TapView) → Each (IsTypedTap roles) ts → Each (IsTypedTap more) ts
  taps_more ts k = each-weaker (IsTypedTap roles) (IsTypedTap more) ts tap_more k

  pub reply_more : (w : Work) (p : ℕ) (v : Tree) → IsReply roles w p v → IsReply more w p v
  reply_more w p v k = (k.0, g p (hidden k.0 (reply w v)) k.1)

  mult_more : (x : MultState) → TypedMult roles x → TypedMult more x
  mult_more mult_takes k = tt
  mult_more (mult_reads v) k = public_more roles more g v k
  mult_more (mult_spawns v t ts n) k = (public_more roles more g v k.0, tap_more t k.1, taps_more ts k.2)
  mult_more (mult_waits n) k = tt
  mult_more mult_reads_last k = tt
  mult_more (mult_closes c cs) k = (port_more c k.0, ports_more cs k.1)

  mix_more : (x : MixState) → TypedMix roles x → TypedMix more x
  mix_more mix_reads k = tt
  mix_more (mix_chooses reads heard) k = ports_more reads k
  mix_more (mix_drops c) k = port_more c k
  mix_more (mix_puts reads heard v) k = (ports_more reads k.0, public_more roles more g v k.1)

  pub_more : (x : PubState) → TypedPub roles x → TypedPub more x
  pub_more pub_takes k = tt
  pub_more (pub_sorts v) k = public_more roles more g v k
  pub_more (pub_finds topic v) k = (public_more roles more g topic k.0, public_more roles more g v k.1)
  pub_more (pub_puts c v) k = (port_more c k.0, public_more roles more g v k.1)
  pub_more pub_reads_last k = tt
  pub_more (pub_closes c cs) k = (port_more c k.0, ports_more cs k.1)

  pipe_more : (x : PipeState) → TypedPipe roles x → TypedPipe more x
  pipe_more pipe_takes k = tt
  pipe_more (pipe_puts v) k = public_more roles more g v k
  pipe_more pipe_closes k = tt

  merge_more : (x : MergeState) → TypedMerge roles x → TypedMerge more x
  merge_more (merge_chooses v vs) k = (public_more roles more g v k.0, all_public_more roles more g vs k.1)
  merge_more (merge_puts vs v) k = (all_public_more roles more g vs k.0, public_more roles more g v k.1)
  merge_more merge_closes k = tt

  onto_more : (x : OntoState) → TypedOnto roles x → TypedOnto more x
  onto_more (onto_puts v vs) k = (public_more roles more g v k.0, all_public_more roles more g vs k.1)
  onto_more onto_closes k = tt
  onto_more onto_ends k = tt

  feed_more : (w : Work) (x : FeedState) → TypedFeed roles w x → TypedFeed more w x
  feed_more w feed_takes k = tt
  feed_more w (feed_makes v) k = public_more roles more g v k
  feed_more w (feed_puts v p) k = (public_more roles more g v k.0, reply_more w p v k.1)
  feed_more w (feed_queues p) k = (k.0, reply_more w p k.0 k.1)
  feed_more w feed_closes_jobs k = tt
  feed_more w feed_closes_replies k = tt

  job_more : (w : Work) (x : JobState) → TypedJob program roles w x → TypedJob program more w x
  job_more w job_takes k = tt
  job_more w (job_works v p) k = (public_more roles more g v k.0, reply_more w p v k.1)
  job_more w (job_replies p ys) k = (k.0, reply_more w p k.0 k.1, k.2, all_public_more roles more g ys k.3)

  collect_more : (w : Work) (x : CollectState) → TypedCollect roles w x → TypedCollect more w x
  collect_more w collect_takes k = tt
  collect_more w (collect_opens p) k = (k.0, reply_more w p k.0 k.1)
  collect_more w (collect_puts y ys) k = (public_more roles more g y k.0, all_public_more roles more g ys k.1)
  collect_more w collect_closes k = tt
  collect_more w collect_ends k = tt

  next_more : {S : Type 0} (P Q : S → Type 0) → ((x : S) → P x → Q x) → (n : Next S) → TypedNext P n → TypedNext Q n
  next_more P Q f (to x) k = f x k
  next_more P Q f stop k = tt
  next_more P Q f (fail e) k = tt

  pub system_more : (b : SystemBody) → TypedSystem program roles b → TypedSystem program more b
  system_more (a_mult t l n) k = (port_more t.mult k.0, port_more t.source k.1, (k.2.0, g t.acks (hidden k.2.0 acks) k.2.1), next_more (TypedMult roles) (TypedMult more) mult_more n k.3)
  system_more (a_delivery d l n) k = (port_more d.mult k.0, port_more d.channel k.1, public_more roles more g d.value k.2, (k.3.0, g d.acks (hidden k.3.0 acks) k.3.1))
  system_more (a_mix x l n) k = (port_more x.mix k.0, port_more x.out k.1, port_more x.changes k.2, next_more (TypedMix roles) (TypedMix more) mix_more n k.3)
  system_more (a_pub p l n) k = (port_more p.publication k.0, port_more p.source k.1, public_more roles more g p.keyword k.2, next_more (TypedPub roles) (TypedPub more) pub_more n k.3)
  system_more (a_pipe p l n) k = (port_more p.source k.0, port_more p.target k.1, next_more (TypedPipe roles) (TypedPipe more) pipe_more n k.2)
  system_more (a_merge o l n) k = (port_more o k.0, next_more (TypedMerge roles) (TypedMerge more) merge_more n k.1)
  system_more (an_onto o l n) k = (port_more o.target k.0, port_more o.result k.1, next_more (TypedOnto roles) (TypedOnto more) onto_more n k.2)
  system_more (a_feed f l n) k = (k.0, k.1, port_more f.source k.2, g f.jobs (hidden k.0 (jobs k.1)) k.3, g f.replies (hidden k.0 (replies k.1)) k.4, next_more (TypedFeed roles k.1) (TypedFeed more k.1) (feed_more k.1) n k.5)
  system_more (a_job j w n) k = (k.0, g j (hidden k.0 (jobs w)) k.1, public_more roles more g w.keyword k.2, next_more (TypedJob program roles w) (TypedJob program more w) (job_more w) n k.3)
  system_more (a_collect c l n) k = (k.0, k.1, port_more c.target k.2, port_more c.result k.3, g c.replies (hidden k.0 (replies k.1)) k.4, next_more (TypedCollect roles k.1) (TypedCollect more k.1) (collect_more k.1) n k.5)

  pub body_more : (me : ℕ) (b : TaskBody) → TypedBody program me roles b → TypedBody program me more b
  body_more me (script b) k = sealed_more me roles more g b.term no_roles k
  body_more me (system_task b) k = system_more b k

  -- what a channel carries it still carries
  as_more : (o : Option Role) (x : Tree) → CarriesAs program roles o x → CarriesAs program more o x
  as_more None x k = absurd k
  as_more (Some public) x k = public_more roles more g x k
  as_more (Some (hidden t (jobs w))) x k = (k.0, k.1, k.2, public_more roles more g k.0 k.3, reply_more w k.1 k.0 k.4)
  as_more (Some (hidden t (replies w))) x k = (k.0, k.1, k.2, reply_more w k.1 k.0 k.3)
  as_more (Some (hidden t (reply w v))) x k = (k.0, k.1, k.2, all_public_more roles more g k.0 k.3)
  as_more (Some (hidden t acks)) x k = k

  pub carries_more : (p : ℕ) (x : Tree) → ChannelCarries program roles p x → ChannelCarries program more p x
  carries_more p x k = by (roles p) refl k where
    by : (o : Option Role) → roles p ≡ o → CarriesAs program roles o x → CarriesAs program more (more p) x
    by None e k = absurd k
    by (Some r) e k = subst (λ o. CarriesAs program more o x) (sym (g p r e)) (as_more (Some r) x k)

  pub use_more : (side : Side) (p : ℕ) (b : TaskBody) → MayUse (roles p) side p b → MayUse (more p) side p b
  use_more side p b k = by (roles p) refl k where
    by : (o : Option Role) → roles p ≡ o → MayUse o side p b → MayUse (more p) side p b
    by None e k = absurd k
    by (Some r) e k = subst (λ o. MayUse o side p b) (sym (g p r e)) k

  pub close_more : (p : ℕ) (b : TaskBody) → MayClose (roles p) p b → MayClose (more p) p b
  close_more p b k = by (roles p) refl k where
    by : (o : Option Role) → roles p ≡ o → MayClose o p b → MayClose (more p) p b
    by None e k = absurd k
    by (Some r) e k = subst (λ o. MayClose o p b) (sym (g p r e)) k

  pub result_more : (o : Option ℕ) → IsTypedResult roles o → IsTypedResult more o
  result_more None k = tt
  result_more (Some p) k = port_more p k

  branch_more : (b : BranchView) → IsPublicBranch roles b → IsPublicBranch more b
  branch_more (take_of p) k = port_more p k
  branch_more (put_of p v) k = (port_more p k.0, public_more roles more g v k.1)

  option_more : (o : Option Tree) → IsPublicOption roles o → IsPublicOption more o
  option_more None k = tt
  option_more (Some v) k = public_more roles more g v k

  what_more : (what : WhatView) → IsPublicWhat roles what → IsPublicWhat more what
  what_more (mult source) k = public_more roles more g source k
  what_more (mix out changes) k = (public_more roles more g out k.0, public_more roles more g changes k.1)
  what_more (publication source) k = public_more roles more g source k
  what_more unbuffered k = tt
  what_more (fixed n) k = tt
  what_more (dropping n) k = tt
  what_more (sliding n) k = tt
  what_more promise k = tt
  what_more (timeout n) k = tt

  pub ask_more : (b : TaskBody) (op : OpView) → MayAsk program roles b op → MayAsk program more b op
  ask_more b (taking c) k = (k.0, k.1, use_more Take k.0 b k.2)
  ask_more b (putting c v) k = (k.0, k.1, use_more Put k.0 b k.2, carries_more k.0 v k.3)
  ask_more b (choosing ports priority default) k = (each-weaker (IsPublicBranch roles) (IsPublicBranch more) (branches_of (choosing ports priority default)) branch_more k.0, option_more default k.1)
  ask_more b (posting c v) k = (k.0, k.1, port_more k.0 k.2, public_more roles more g v k.3)
  ask_more b (closing c) k = (k.0, k.1, close_more k.0 b k.2)
  ask_more b (making what) k = what_more what k
  ask_more b (spawning seed) k = (λ u. body_more u (new_task program seed) (k.0 u), result_more (result_of seed) k.1)
  ask_more b (registering name args) k = all_public_more roles more g args k
  ask_more b (printing line) k = tt

  pub task_more : (t : ℕ) (x : Task) → TypedTask program roles t x → TypedTask program more t x
  task_more t x k = record { body = body_more t x.body k.body; result = result_more x.result k.result; waits = λ w op m at. ask_more x.body op (k.waits w op m at) }

  source_more : (x : Source) → IsTypedSource roles x → IsTypedSource more x
  source_more x k = port_more x.channel k

  topic_more : (t : TopicView) → IsTypedTopic roles t → IsTypedTopic more t
  topic_more t k = (public_more roles more g t.topic k.0, port_more t.mult k.1, port_more t.channel k.2)

  pub registry_more : (r : Registry) → TypedRegistry roles r → TypedRegistry more r
  registry_more (the_mult s ts) k = (port_more s k.0, taps_more ts k.1)
  registry_more (the_mix o q pausing xs) k = (port_more o k.0, port_more q k.1, each-weaker (IsTypedSource roles) (IsTypedSource more) xs source_more k.2)
  registry_more (the_publication s ts) k = (port_more s k.0, each-weaker (IsTypedTopic roles) (IsTypedTopic more) ts topic_more k.1)
