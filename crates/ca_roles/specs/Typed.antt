-- What each task, channel, wait and registry of a state holds of hidden ports.
use Rattle.std.specs.Prelude.{◌≡◌, ℕ, Option, Some, None, true, false}
use Rattle.ca_value.specs.Buffer.{no_buffer, fixed_buffer}
use Rattle.ca_value.specs.Tree.{Tree, port}
use Rattle.ca_term.specs.declared.place.Place.{Place}
use Rattle.ca_term.specs.declared.event.Side.{Side}
use Rattle.ca_term.specs.declared.event.Side.TheVariants.{Take, Put}
use Rattle.ca_term.specs.Operation.{OpView, taking, putting, choosing, posting, making, spawning, closing, registering, printing, WhatView, mult, mix, publication}
use Rattle.ca_term.specs.Program.{ProgramView}
use Rattle.ca_term.specs.Event.{BranchView, take_of, put_of}
use Rattle.ca_meaning.specs.Applied.{Work, outputs, Outs}
use Rattle.ca_meaning.specs.Asks.{Next, to, stop, fail}
use Rattle.ca_meaning.specs.Channel.{Channel}
use Rattle.ca_meaning.specs.Registry.{Registry, TapView, Source, TopicView, a_mult as the_mult, a_mix as the_mix, a_publication as the_publication}
use Rattle.ca_meaning.specs.MultTable.{MultState, mult_takes, mult_reads, mult_spawns, mult_waits, mult_reads_last, mult_closes}
use Rattle.ca_meaning.specs.MixTable.{MixState, mix_reads, mix_chooses, mix_drops, mix_puts}
use Rattle.ca_meaning.specs.PubTable.{PubState, pub_takes, pub_sorts, pub_finds, pub_puts, pub_reads_last, pub_closes}
use Rattle.ca_meaning.specs.PipeTable.{PipeState, pipe_takes, pipe_puts, pipe_closes, MergeState, merge_chooses, merge_puts, merge_closes, OntoState, onto_puts, onto_closes, onto_ends}
use Rattle.ca_meaning.specs.PipelineTable.{FeedPorts, FeedState, feed_takes, feed_makes, feed_puts, feed_queues, feed_closes_jobs, feed_closes_replies, JobState, job_takes, job_works, job_replies, CollectState, collect_takes, collect_opens, collect_puts, collect_closes, collect_ends}
use Rattle.ca_meaning.specs.System.{SystemBody, a_mult, a_delivery, a_mix, a_pub, a_pipe, a_merge, an_onto, a_feed, a_job, a_collect}
use Rattle.ca_meaning.specs.Task.{TaskBody, script, system_task, new_task}
use Rattle.ca_meaning.specs.TaskSteps.{result_of}
use Rattle.ca_meaning.specs.Wait.{Handler, queue, owner_of}
use Rattle.ca_meaning.specs.State.{State, Task, Deadline, waiting}
use Rattle.ca_meaning.specs.Choice.{branches_of}
use Rattle.ca_meaning.specs.Going.{IsAtOp}
use Rattle.ca_meaning.specs.Sound.{Each}
use Rattle.ca_roles.specs.Roles.{Hidden, jobs, replies, reply, acks, Role, public, hidden, Roles, no_roles, IsPublic, ArePublic, IsReply, ChannelCarries}
use Rattle.ca_roles.specs.Sealed.{Sealed}
use Rattle.ca_roles.specs.Users.{MayUse, MayClose}

abbrev pub IsPublicPort : Roles → ℕ → Type 0
IsPublicPort roles p = roles p ≡ Some public

abbrev pub IsTypedTap : Roles → TapView → Type 0
IsTypedTap roles t = IsPublicPort roles t.channel

-- What the states of the tables hold. Of hidden ports there are only the reply ports of a pipeline, each with its
-- value.
abbrev pub TypedMult : Roles → MultState → Type 0
TypedMult roles mult_takes = Unit {0}
TypedMult roles (mult_reads v) = IsPublic roles v
TypedMult roles (mult_spawns v t ts n) = IsPublic roles v × IsTypedTap roles t × Each (IsTypedTap roles) ts
TypedMult roles (mult_waits n) = Unit {0}
TypedMult roles mult_reads_last = Unit {0}
TypedMult roles (mult_closes c cs) = IsPublicPort roles c × Each (IsPublicPort roles) cs

abbrev pub TypedMix : Roles → MixState → Type 0
TypedMix roles mix_reads = Unit {0}
TypedMix roles (mix_chooses reads heard) = Each (IsPublicPort roles) reads
TypedMix roles (mix_drops c) = IsPublicPort roles c
TypedMix roles (mix_puts reads heard v) = Each (IsPublicPort roles) reads × IsPublic roles v

abbrev pub TypedPub : Roles → PubState → Type 0
TypedPub roles pub_takes = Unit {0}
TypedPub roles (pub_sorts v) = IsPublic roles v
TypedPub roles (pub_finds topic v) = IsPublic roles topic × IsPublic roles v
TypedPub roles (pub_puts c v) = IsPublicPort roles c × IsPublic roles v
TypedPub roles pub_reads_last = Unit {0}
TypedPub roles (pub_closes c cs) = IsPublicPort roles c × Each (IsPublicPort roles) cs

abbrev pub TypedPipe : Roles → PipeState → Type 0
TypedPipe roles pipe_takes = Unit {0}
TypedPipe roles (pipe_puts v) = IsPublic roles v
TypedPipe roles pipe_closes = Unit {0}

abbrev pub TypedMerge : Roles → MergeState → Type 0
TypedMerge roles (merge_chooses v vs) = IsPublic roles v × ArePublic roles vs
TypedMerge roles (merge_puts vs v) = ArePublic roles vs × IsPublic roles v
TypedMerge roles merge_closes = Unit {0}

abbrev pub TypedOnto : Roles → OntoState → Type 0
TypedOnto roles (onto_puts v vs) = IsPublic roles v × ArePublic roles vs
TypedOnto roles onto_closes = Unit {0}
TypedOnto roles onto_ends = Unit {0}

abbrev pub TypedFeed : Roles → Work → FeedState → Type 0
TypedFeed roles w feed_takes = Unit {0}
TypedFeed roles w (feed_makes v) = IsPublic roles v
TypedFeed roles w (feed_puts v p) = IsPublic roles v × IsReply roles w p v
TypedFeed roles w (feed_queues p) = (v : Tree) × IsReply roles w p v
TypedFeed roles w feed_closes_jobs = Unit {0}
TypedFeed roles w feed_closes_replies = Unit {0}

abbrev pub TypedJob : ProgramView → Roles → Work → JobState → Type 0
TypedJob program roles w job_takes = Unit {0}
TypedJob program roles w (job_works v p) = IsPublic roles v × IsReply roles w p v
TypedJob program roles w (job_replies p ys) = (v : Tree) × IsReply roles w p v × Outs program w v (outputs ys) × ArePublic roles ys

abbrev pub TypedCollect : Roles → Work → CollectState → Type 0
TypedCollect roles w collect_takes = Unit {0}
TypedCollect roles w (collect_opens p) = (v : Tree) × IsReply roles w p v
TypedCollect roles w (collect_puts y ys) = IsPublic roles y × ArePublic roles ys
TypedCollect roles w collect_closes = Unit {0}
TypedCollect roles w collect_ends = Unit {0}

abbrev pub TypedNext : {S : Type 0} → (S → Type 0) → Next S → Type 0
TypedNext P (to x) = P x
TypedNext P stop = Unit {0}
TypedNext P (fail f) = Unit {0}

-- The ports of a system task are public, but for those that its kind has hidden.
abbrev pub TypedSystem : ProgramView → Roles → SystemBody → Type 0
TypedSystem program roles (a_mult t l n) = IsPublicPort roles t.mult × IsPublicPort roles t.source × ((m : ℕ) × (roles t.acks ≡ Some (hidden m acks))) × TypedNext (TypedMult roles) n
TypedSystem program roles (a_delivery d l n) = IsPublicPort roles d.mult × IsPublicPort roles d.channel × IsPublic roles d.value × ((m : ℕ) × (roles d.acks ≡ Some (hidden m acks)))
TypedSystem program roles (a_mix x l n) = IsPublicPort roles x.mix × IsPublicPort roles x.out × IsPublicPort roles x.changes × TypedNext (TypedMix roles) n
TypedSystem program roles (a_pub p l n) = IsPublicPort roles p.publication × IsPublicPort roles p.source × IsPublic roles p.keyword × TypedNext (TypedPub roles) n
TypedSystem program roles (a_pipe p l n) = IsPublicPort roles p.source × IsPublicPort roles p.target × TypedNext (TypedPipe roles) n
TypedSystem program roles (a_merge o l n) = IsPublicPort roles o × TypedNext (TypedMerge roles) n
TypedSystem program roles (an_onto o l n) = IsPublicPort roles o.target × IsPublicPort roles o.result × TypedNext (TypedOnto roles) n
-- of one task, for one work
TypedSystem program roles (a_feed f l n) =
    (m : ℕ) × (w : Work) × IsPublicPort roles f.source × (roles f.jobs ≡ Some (hidden m (jobs w))) × (roles f.replies ≡ Some (hidden m (replies w))) × TypedNext (TypedFeed roles w) n
TypedSystem program roles (a_job j w n) = (m : ℕ) × (roles j ≡ Some (hidden m (jobs w))) × IsPublic roles w.keyword × TypedNext (TypedJob program roles w) n
TypedSystem program roles (a_collect c l n) =
    (m : ℕ) × (w : Work) × IsPublicPort roles c.target × IsPublicPort roles c.result × (roles c.replies ≡ Some (hidden m (replies w))) × TypedNext (TypedCollect roles w) n

-- the body of task me
abbrev pub TypedBody : ProgramView → ℕ → Roles → TaskBody → Type 0
TypedBody program me roles (script b) = Sealed me roles b.term no_roles
TypedBody program me roles (system_task b) = TypedSystem program roles b

abbrev pub IsTypedResult : Roles → Option ℕ → Type 0
IsTypedResult roles None = Unit {0}
IsTypedResult roles (Some p) = IsPublicPort roles p

abbrev pub IsPublicBranch : Roles → BranchView → Type 0
IsPublicBranch roles (take_of p) = IsPublicPort roles p
IsPublicBranch roles (put_of p v) = IsPublicPort roles p × IsPublic roles v

abbrev pub IsPublicOption : Roles → Option Tree → Type 0
IsPublicOption roles None = Unit {0}
IsPublicOption roles (Some v) = IsPublic roles v

abbrev pub IsPublicWhat : Roles → WhatView → Type 0
IsPublicWhat roles (mult source) = IsPublic roles source
IsPublicWhat roles (mix out changes) = IsPublic roles out × IsPublic roles changes
IsPublicWhat roles (publication source) = IsPublic roles source
IsPublicWhat roles what = Unit {0}

-- What the task of this body may ask for: of hidden channels it uses only its own, and a channel carries what it
-- puts.
abbrev pub MayAsk : ProgramView → Roles → TaskBody → OpView → Type 0
MayAsk program roles b (taking c) = (p : ℕ) × (c ≡ port p) × MayUse (roles p) Take p b
MayAsk program roles b (putting c v) = (p : ℕ) × (c ≡ port p) × MayUse (roles p) Put p b × ChannelCarries program roles p v
MayAsk program roles b (choosing ports priority default) = Each (IsPublicBranch roles) (branches_of (choosing ports priority default)) × IsPublicOption roles default
MayAsk program roles b (posting c v) = (p : ℕ) × (c ≡ port p) × IsPublicPort roles p × IsPublic roles v
MayAsk program roles b (closing c) = (p : ℕ) × (c ≡ port p) × MayClose (roles p) p b
MayAsk program roles b (making what) = IsPublicWhat roles what
MayAsk program roles b (spawning seed) = ((u : ℕ) → TypedBody program u roles (new_task program seed)) × IsTypedResult roles (result_of seed)
MayAsk program roles b (registering name args) = ArePublic roles args
MayAsk program roles b (printing line) = Unit {0}

-- task t
pub record TypedTask (program : ProgramView) (roles : Roles) (t : ℕ) (x : Task) : Type 0 where
  pub body : TypedBody program t roles x.body
  pub result : IsTypedResult roles x.result
  -- it may ask for what it waits for
  pub waits : (w : ℕ) (op : OpView) → x.mode ≡ waiting w → IsAtOp x.body op → MayAsk program roles x.body op

abbrev pub IsTypedSource : Roles → Source → Type 0
IsTypedSource roles x = IsPublicPort roles x.channel

abbrev pub IsTypedTopic : Roles → TopicView → Type 0
IsTypedTopic roles t = IsPublic roles t.topic × IsPublicPort roles t.mult × IsPublicPort roles t.channel

abbrev pub TypedRegistry : Roles → Registry → Type 0
TypedRegistry roles (the_mult s ts) = IsPublicPort roles s × Each (IsTypedTap roles) ts
TypedRegistry roles (the_mix o g pausing xs) = IsPublicPort roles o × IsPublicPort roles g × Each (IsTypedSource roles) xs
TypedRegistry roles (the_publication s ts) = IsPublicPort roles s × Each (IsTypedTopic roles) ts

-- The channel of a hidden port: nobody closes a reply port, or the port of a mult's answers.
abbrev pub IsChannelFor : Hidden → Channel → Type 0
IsChannelFor (jobs w) c = c.policy ≡ fixed_buffer
IsChannelFor (replies w) c = c.policy ≡ fixed_buffer
IsChannelFor (reply w v) c = (c.policy ≡ fixed_buffer) × (c.closed ≡ false)
IsChannelFor acks c = (c.policy ≡ no_buffer) × (c.closed ≡ false)

-- some feed of that queue closed it, which was its last operation
abbrev pub IsFeedOver : State → ℕ → Type 0
IsFeedOver s p = (u : ℕ) × (x : Task) × (f : FeedPorts) × (l : Place) × (s.tasks u ≡ Some x) × (x.body ≡ system_task (a_feed f l stop)) × (f.replies ≡ p)

-- a branch of a wait that is nobody's puts a public value on a public channel
abbrev pub IsTypedPost : Roles → State → ℕ → Handler → Type 0
IsTypedPost roles s p h = owner_of h.wait s.waits ≡ None → IsPublicPort roles p × IsPublic roles h.value

pub record Typed (program : ProgramView) (roles : Roles) (s : State) : Type 0 where
  pub tasks : (t : ℕ) (x : Task) → s.tasks t ≡ Some x → TypedTask program roles t x
  -- a channel carries only what its role says
  pub held : (p : ℕ) (c : Channel) → s.channels p ≡ Some c → Each (ChannelCarries program roles p) c.held
  pub posts : (side : Side) (p : ℕ) → Each (IsTypedPost roles s p) (queue side p s.waits)
  pub registries : (p : ℕ) (r : Registry) → s.registries p ≡ Some r → IsPublicPort roles p × TypedRegistry roles r
  pub deadlines : Each (λ (d : Deadline). IsPublicPort roles d.port) s.deadlines
  -- exactly the ports that were made have a role, and the hidden ones are channels
  pub absent : (p : ℕ) → s.channels p ≡ None → s.registries p ≡ None → roles p ≡ None
  pub channels : (p : ℕ) (c : Channel) → s.channels p ≡ Some c → (r : Role) × (roles p ≡ Some r)
  pub hidden_channels : (p m : ℕ) (h : Hidden) → roles p ≡ Some (hidden m h) → (c : Channel) × (s.channels p ≡ Some c) × IsChannelFor h c
  pub ended : (p m : ℕ) (w : Work) (c : Channel) → roles p ≡ Some (hidden m (replies w)) → s.channels p ≡ Some c → c.closed ≡ true → IsFeedOver s p
