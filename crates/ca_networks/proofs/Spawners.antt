-- Deliveries come of mults alone, and a task keeps its kind.
use Rattle.std.proofs.Common.{◌≡◌, ℕ, [], ◌∷◌, ◌++◌, refl, sym, ap, ◌∙◌, subst, Bool, true, false, Option, Some, None}
use Rattle.ca_value.specs.Tree.{Tree, Trees, port, vector, none, item}
use Rattle.ca_term.specs.declared.place.Place.{Place}
use Rattle.ca_term.specs.declared.fault.Fault.{Fault}
use Rattle.ca_term.specs.declared.head.SystemTask.{SystemTask}
use Rattle.ca_term.specs.Operation.{OpView, putting, choosing, spawning, SeedView, go, system}
use Rattle.ca_term.specs.Program.{ProgramView}
use Rattle.ca_meaning.specs.Asking.{too_large_branches}
use Rattle.ca_meaning.specs.Body.{At, local, at_op, ended, faulted, nowhere, asking}
use Rattle.ca_meaning.specs.Task.{TaskBody, script, system_task, body_fill, BodyRest, new_task}
use Rattle.ca_meaning.specs.Going.{IsAtOp}
use Rattle.ca_meaning.specs.Registry.{TapView}
use Rattle.ca_meaning.specs.Asks.{Ask, Next, to, stop, fail, stands_at, follows, too_large_here, pair_of}
use Rattle.ca_meaning.specs.Applied.{Work}
use Rattle.ca_meaning.specs.MultTable.{MultPorts, MultState, mult_takes, mult_reads, mult_spawns, mult_waits, mult_reads_last, mult_closes, Delivery, DeliverState, deliver_puts, deliver_untaps, deliver_answers, deliver_asks}
use Rattle.ca_meaning.specs.MixTable.{MixPorts, mix_reads, mix_chooses, mix_drops, mix_puts, mix_asks, port_trees}
use Rattle.ca_meaning.specs.PubTable.{PubPorts, PubState, pub_takes, pub_sorts, pub_finds, pub_puts, pub_reads_last, pub_closes, pub_asks, pub_next}
use Rattle.ca_meaning.specs.PipeTable.{PipePorts, pipe_takes, pipe_puts, pipe_closes, pipe_asks, merge_chooses, merge_puts, merge_closes, merge_asks, OntoPorts, onto_puts, onto_closes, onto_ends, onto_asks}
use Rattle.ca_meaning.specs.PipelineTable.{FeedPorts, feed_takes, feed_makes, feed_puts, feed_queues, feed_closes_jobs, feed_closes_replies, feed_asks, JobState, job_takes, job_works, job_replies, job_asks, job_next, CollectPorts, collect_takes, collect_opens, collect_puts, collect_closes, collect_ends, collect_asks}
use Rattle.ca_meaning.specs.System.{SystemBody, a_mult, a_delivery, a_mix, a_pub, a_pipe, a_merge, an_onto, a_feed, a_job, a_collect, new_system, system_at, system_fill, SystemRest}
use Rattle.ca_meaning.proofs.Single.{same_op, same_seed}

-- it asks for a Spawn
abbrev pub is_spawn : OpView → Bool
is_spawn (spawning seed) = true
is_spawn op = false

abbrev pub spawns_at : At → Bool
spawns_at (at_op want) = is_spawn want.op
spawns_at local = false
spawns_at (ended v) = false
spawns_at (faulted f p) = false
spawns_at nowhere = false

pub asks_no_spawn : (p : Place) (o : Option Fault) (op : OpView) → is_spawn op ≡ false → spawns_at (asking p o op) ≡ false
asks_no_spawn p None op e = e
asks_no_spawn p (Some f) op e = refl

abbrev NoSpawn : {S : Type 0} → (S → Ask) → Type 0
NoSpawn {S = S} asks = (x : S) (p : Place) → spawns_at (asks x p) ≡ false

stands_no_spawn : {S : Type 0} (p : Place) (asks : S → Ask) (x : Next S) → NoSpawn asks → spawns_at (stands_at p asks x) ≡ false
stands_no_spawn p asks (to x) f = f x p
stands_no_spawn p asks stop f = refl
stands_no_spawn p asks (fail g) f = refl

deliver_no : (d : Delivery) → NoSpawn (deliver_asks d)
deliver_no d deliver_puts p = asks_no_spawn p (too_large_here d.value) (putting (port d.channel) d.value) refl
deliver_no d deliver_untaps p = refl
deliver_no d deliver_answers p = refl

mix_no : (x : MixPorts) → NoSpawn (mix_asks x)
mix_no x mix_reads p = refl
mix_no x (mix_chooses reads heard) p = asks_no_spawn p (too_large_branches (port_trees (reads ++ x.changes ∷ []))) (choosing (port_trees (reads ++ x.changes ∷ [])) false None) refl
mix_no x (mix_drops c) p = refl
mix_no x (mix_puts reads heard v) p = asks_no_spawn p (too_large_here v) (putting (port x.out) v) refl

pub_no : (t : PubPorts) → NoSpawn (pub_asks t)
pub_no t pub_takes p = refl
pub_no t (pub_sorts v) p = refl
pub_no t (pub_finds topic v) p = refl
pub_no t (pub_puts c v) p = asks_no_spawn p (too_large_here v) (putting (port c) v) refl
pub_no t pub_reads_last p = refl
pub_no t (pub_closes c cs) p = refl

pipe_no : (t : PipePorts) → NoSpawn (pipe_asks t)
pipe_no t pipe_takes p = refl
pipe_no t (pipe_puts v) p = asks_no_spawn p (too_large_here v) (putting (port t.target) v) refl
pipe_no t pipe_closes p = refl

merge_no : (o : ℕ) → NoSpawn (merge_asks o)
merge_no o (merge_chooses v vs) p = asks_no_spawn p (too_large_branches (item v vs)) (choosing (item v vs) false None) refl
merge_no o (merge_puts vs v) p = asks_no_spawn p (too_large_here v) (putting (port o) v) refl
merge_no o merge_closes p = refl

onto_no : (o : OntoPorts) → NoSpawn (onto_asks o)
onto_no o (onto_puts v vs) p = asks_no_spawn p (too_large_here v) (putting (port o.target) v) refl
onto_no o onto_closes p = refl
onto_no o onto_ends p = refl

feed_no : (f : FeedPorts) → NoSpawn (feed_asks f)
feed_no f feed_takes p = refl
feed_no f (feed_makes v) p = refl
feed_no f (feed_puts v r) p = asks_no_spawn p (too_large_here (pair_of v (port r))) (putting (port f.jobs) (pair_of v (port r))) refl
feed_no f (feed_queues r) p = asks_no_spawn p (too_large_here (port r)) (putting (port f.replies) (port r)) refl
feed_no f feed_closes_jobs p = refl
feed_no f feed_closes_replies p = refl

job_no : (j : ℕ) → NoSpawn (job_asks j)
job_no j job_takes p = refl
job_no j (job_works v r) p = refl
job_no j (job_replies r ys) p = asks_no_spawn p (too_large_here (vector ys)) (putting (port r) (vector ys)) refl

collect_no : (c : CollectPorts) → NoSpawn (collect_asks c)
collect_no c collect_takes p = refl
collect_no c (collect_opens r) p = refl
collect_no c (collect_puts y ys) p = asks_no_spawn p (too_large_here y) (putting (port c.target) y) refl
collect_no c collect_closes p = refl
collect_no c collect_ends p = refl

no_spawn : {G : Type 0} (b : SystemBody) (seed : SeedView) → spawns_at (system_at b) ≡ false → IsAtOp (system_task b) (spawning seed) → G
no_spawn b seed e at = absurd (let k : false ≡ true = sym e ∙ ap spawns_at at.1 in cc)

-- a system task that spawns is a mult, and spawns a delivery of its own ports
pub spawner : (b : SystemBody) (seed : SeedView) → IsAtOp (system_task b) (spawning seed) → (x : MultPorts) × (l : Place) × (n : Next MultState) × (v : Tree) × (c : ℕ) × (b ≡ a_mult x l n) × (seed ≡ system SystemTask.Deliver (item (port x.mult) (item (port c) (item v (item (port x.acks) none)))) l)
spawner (a_mult x l (to (mult_spawns v tap taps k))) seed at = (x, l, to (mult_spawns v tap taps k), v, tap.channel, refl, sym (same_seed (its v tap) seed (same_op body body (spawning (its v tap)) (spawning seed) refl (l, refl) at))) where
  its : Tree → TapView → SeedView
  its v tap = system SystemTask.Deliver (item (port x.mult) (item (port tap.channel) (item v (item (port x.acks) none)))) l

  body : TaskBody
  body = system_task (a_mult x l (to (mult_spawns v tap taps k)))
spawner (a_mult x l (to mult_takes)) seed at = no_spawn (a_mult x l (to mult_takes)) seed refl at
spawner (a_mult x l (to (mult_reads v))) seed at = no_spawn (a_mult x l (to (mult_reads v))) seed refl at
spawner (a_mult x l (to (mult_waits k))) seed at = no_spawn (a_mult x l (to (mult_waits k))) seed refl at
spawner (a_mult x l (to mult_reads_last)) seed at = no_spawn (a_mult x l (to mult_reads_last)) seed refl at
spawner (a_mult x l (to (mult_closes c cs))) seed at = no_spawn (a_mult x l (to (mult_closes c cs))) seed refl at
spawner (a_mult x l stop) seed at = no_spawn (a_mult x l stop) seed refl at
spawner (a_mult x l (fail f)) seed at = no_spawn (a_mult x l (fail f)) seed refl at
spawner (a_delivery d l n) seed at = no_spawn (a_delivery d l n) seed (stands_no_spawn l (deliver_asks d) n (deliver_no d)) at
spawner (a_mix x l n) seed at = no_spawn (a_mix x l n) seed (stands_no_spawn l (mix_asks x) n (mix_no x)) at
spawner (a_pub x l n) seed at = no_spawn (a_pub x l n) seed (stands_no_spawn l (pub_asks x) n (pub_no x)) at
spawner (a_pipe x l n) seed at = no_spawn (a_pipe x l n) seed (stands_no_spawn l (pipe_asks x) n (pipe_no x)) at
spawner (a_merge o l n) seed at = no_spawn (a_merge o l n) seed (stands_no_spawn l (merge_asks o) n (merge_no o)) at
spawner (an_onto o l n) seed at = no_spawn (an_onto o l n) seed (stands_no_spawn l (onto_asks o) n (onto_no o)) at
spawner (a_feed f l n) seed at = no_spawn (a_feed f l n) seed (stands_no_spawn l (feed_asks f) n (feed_no f)) at
spawner (a_job j w n) seed at = no_spawn (a_job j w n) seed (stands_no_spawn w.place (job_asks j) n (job_no j)) at
spawner (a_collect c l n) seed at = no_spawn (a_collect c l n) seed (stands_no_spawn l (collect_asks c) n (collect_no c)) at

-- a delivery was one
pub pub_rest : (program : ProgramView) (t : PubPorts) (p : Place) (x : Next PubState) (d : Delivery) (l : Place) (n : Next DeliverState) → SystemRest program (a_pub t p x) (a_delivery d l n) → ⊥
pub_rest program t p (to pub_takes) d l n r = let k : a_delivery d l n ≡ a_pub t p (to pub_takes) = r in cc
pub_rest program t p (to (pub_sorts v)) d l n r = let k : a_delivery d l n ≡ a_pub t p _ = r.2 in cc
pub_rest program t p (to (pub_finds topic v)) d l n r = let k : a_delivery d l n ≡ a_pub t p (to (pub_finds topic v)) = r in cc
pub_rest program t p (to (pub_puts c v)) d l n r = let k : a_delivery d l n ≡ a_pub t p (to (pub_puts c v)) = r in cc
pub_rest program t p (to pub_reads_last) d l n r = let k : a_delivery d l n ≡ a_pub t p (to pub_reads_last) = r in cc
pub_rest program t p (to (pub_closes c cs)) d l n r = let k : a_delivery d l n ≡ a_pub t p (to (pub_closes c cs)) = r in cc
pub_rest program t p stop d l n r = let k : a_delivery d l n ≡ a_pub t p stop = r in cc
pub_rest program t p (fail f) d l n r = let k : a_delivery d l n ≡ a_pub t p (fail f) = r in cc

pub job_rest : (program : ProgramView) (j : ℕ) (w : Work) (x : Next JobState) (d : Delivery) (l : Place) (n : Next DeliverState) → SystemRest program (a_job j w x) (a_delivery d l n) → ⊥
job_rest program j w (to job_takes) d l n r = let k : a_delivery d l n ≡ a_job j w (to job_takes) = r in cc
job_rest program j w (to (job_works v p)) d l n r = let k : a_delivery d l n ≡ a_job j w _ = r.2 in cc
job_rest program j w (to (job_replies p ys)) d l n r = let k : a_delivery d l n ≡ a_job j w (to (job_replies p ys)) = r in cc
job_rest program j w stop d l n r = let k : a_delivery d l n ≡ a_job j w stop = r in cc
job_rest program j w (fail f) d l n r = let k : a_delivery d l n ≡ a_job j w (fail f) = r in cc

pub was_delivery : (program : ProgramView) (a : Tree) (b : TaskBody) (d : Delivery) (l : Place) (n : Next DeliverState) → BodyRest program (body_fill a b) (system_task (a_delivery d l n)) → (m : Next DeliverState) × (b ≡ system_task (a_delivery d l m))
was_delivery program a (script b) d l n r = absurd (let k : system_task (a_delivery d l n) ≡ script r.0 = r.2 in cc)
was_delivery program a (system_task b) d l n r = by b (subst (SystemRest program (system_fill a b)) (let k : system_task (a_delivery d l n) ≡ system_task r.0 = r.2 in let q : r.0 ≡ a_delivery d l n = cc in q) r.1) where
  by : (b : SystemBody) → SystemRest program (system_fill a b) (a_delivery d l n) → (m : Next DeliverState) × (system_task b ≡ system_task (a_delivery d l m))
  by (a_delivery c k m) r = (m, let q : a_delivery d l n ≡ a_delivery c k _ = r in let f : c ≡ d = cc in let h : k ≡ l = cc in ap (λ z. system_task (a_delivery z k m)) f ∙ ap (λ z. system_task (a_delivery d z m)) h)
  by (a_mult x k m) r = absurd (let q : a_delivery d l n ≡ a_mult x k _ = r in cc)
  by (a_mix x k m) r = absurd (let q : a_delivery d l n ≡ a_mix x k _ = r in cc)
  by (a_pub x k m) r = absurd (pub_rest program x k (follows (pub_next a) m) d l n r)
  by (a_pipe x k m) r = absurd (let q : a_delivery d l n ≡ a_pipe x k _ = r in cc)
  by (a_merge x k m) r = absurd (let q : a_delivery d l n ≡ a_merge x k _ = r in cc)
  by (an_onto x k m) r = absurd (let q : a_delivery d l n ≡ an_onto x k _ = r in cc)
  by (a_feed x k m) r = absurd (let q : a_delivery d l n ≡ a_feed x k _ = r in cc)
  by (a_job j w m) r = absurd (job_rest program j w (follows (job_next a) m) d l n r)
  by (a_collect x k m) r = absurd (let q : a_delivery d l n ≡ a_collect x k _ = r in cc)

-- a new delivery comes of a Spawn of that kind
pub delivery_seed : (program : ProgramView) (seed : SeedView) (d : Delivery) (l : Place) (n : Next DeliverState) → BodyRest program (new_task program seed) (system_task (a_delivery d l n)) → (values : Trees) × (p : Place) × (seed ≡ system SystemTask.Deliver values p)
delivery_seed program (go i values result p) d l n r = absurd (let k : system_task (a_delivery d l n) ≡ script r.0 = r.2 in cc)
delivery_seed program (system kind values p) d l n r = by kind (subst (SystemRest program (new_system kind values p)) (let k : system_task (a_delivery d l n) ≡ system_task r.0 = r.2 in let q : r.0 ≡ a_delivery d l n = cc in q) r.1) where
  by : (kind : SystemTask) → SystemRest program (new_system kind values p) (a_delivery d l n) → (vs : Trees) × (q : Place) × (system kind values p ≡ system SystemTask.Deliver vs q)
  by SystemTask.Deliver r = (values, p, refl)
  by SystemTask.Mult r = absurd (let q : a_delivery d l n ≡ new_system SystemTask.Mult values p = r in cc)
  by SystemTask.Mix r = absurd (let q : a_delivery d l n ≡ new_system SystemTask.Mix values p = r in cc)
  by (SystemTask.Pub f) r = absurd (pub_rest program _ p (to pub_takes) d l n r)
  by SystemTask.Pipe r = absurd (let q : a_delivery d l n ≡ new_system SystemTask.Pipe values p = r in cc)
  by SystemTask.Merge r = absurd (let q : a_delivery d l n ≡ new_system SystemTask.Merge values p = r in cc)
  by SystemTask.Onto r = absurd (let q : a_delivery d l n ≡ new_system SystemTask.Onto values p = r in cc)
  by SystemTask.Feed r = absurd (let q : a_delivery d l n ≡ new_system SystemTask.Feed values p = r in cc)
  by (SystemTask.Job xf f) r = absurd (job_rest program _ _ (to job_takes) d l n r)
  by SystemTask.Collect r = absurd (let q : a_delivery d l n ≡ new_system SystemTask.Collect values p = r in cc)
