-- A task keeps the port that it uses alone, and a system task starts no other user.
use Rattle.std.proofs.Common.{◌≡◌, ℕ, [], ◌∷◌, ◌++◌, refl, ap, ◌∙◌, subst, true, false, Option, Some, None}
use Rattle.ca_value.specs.Tree.{Tree, Trees, bool, vector, port, item}
use Rattle.ca_term.specs.declared.place.Place.{Place}
use Rattle.ca_term.specs.declared.fault.Fault.{Fault}
use Rattle.ca_term.specs.declared.head.SystemTask.{SystemTask}
use Rattle.ca_term.specs.Operation.{OpView, taking, putting, choosing, making, spawning, closing, registering, printing, posting, SeedView, system}
use Rattle.ca_term.specs.Program.{ProgramView}
use Rattle.ca_meaning.specs.Asking.{too_large_branches}
use Rattle.ca_meaning.specs.Body.{At, local, at_op, ended, faulted, nowhere, asking}
use Rattle.ca_meaning.specs.Asks.{pair_of, Ask, too_large_here, ask_to_put, ask_to_choose, Next, stands_at, to, stop, fail}
use Rattle.ca_meaning.specs.MultTable.{MultPorts, mult_asks, mult_takes, mult_reads, mult_spawns, mult_waits, mult_reads_last, mult_closes, Delivery, deliver_asks, deliver_puts, deliver_untaps, deliver_answers}
use Rattle.ca_meaning.specs.MixTable.{port_trees, MixPorts, mix_asks, mix_reads, mix_chooses, mix_drops, mix_puts}
use Rattle.ca_meaning.specs.PubTable.{PubPorts, pub_asks, pub_takes, pub_sorts, pub_finds, pub_puts, pub_reads_last, pub_closes}
use Rattle.ca_meaning.specs.PipeTable.{PipePorts, pipe_asks, pipe_takes, pipe_puts, pipe_closes, merge_asks, merge_chooses, merge_puts, merge_closes, OntoPorts, onto_asks, onto_puts, onto_closes, onto_ends}
use Rattle.ca_meaning.specs.PipelineTable.{FeedPorts, feed_asks, feed_takes, feed_makes, feed_puts, feed_queues, feed_closes_jobs, feed_closes_replies, job_asks, job_takes, job_works, job_replies, CollectPorts, collect_asks, collect_takes, collect_opens, collect_puts, collect_closes, collect_ends}
use Rattle.ca_meaning.specs.System.{SystemBody, a_mult, a_delivery, a_mix, a_pub, a_pipe, a_merge, an_onto, a_feed, a_job, a_collect, system_at, system_fill, SystemRest}
use Rattle.ca_meaning.specs.Task.{TaskBody, script, system_task, body_fill, BodyRest, new_task}
use Rattle.ca_meaning.specs.Going.{IsAtOp}
use Rattle.ca_roles.specs.SoleUsers.{own_port, own_of}

fill_owns : (v : Tree) (b : SystemBody) → own_port (system_fill v b) ≡ own_port b
fill_owns v (a_mult t p x) = refl
fill_owns v (a_delivery t p x) = refl
fill_owns v (a_mix t p x) = refl
fill_owns v (a_pub t p x) = refl
fill_owns v (a_pipe t p x) = refl
fill_owns v (a_merge t p x) = refl
fill_owns v (an_onto t p x) = refl
fill_owns v (a_feed t p x) = refl
fill_owns v (a_job j w x) = refl
fill_owns v (a_collect t p x) = refl

rest_owns : (program : ProgramView) (b c : SystemBody) → SystemRest program b c → own_port c ≡ own_port b
rest_owns program (a_mult t p x) c e = ap own_port e
rest_owns program (a_delivery t p x) c e = ap own_port e
rest_owns program (a_mix t p x) c e = ap own_port e
rest_owns program (a_pub t p (to (pub_sorts v))) c e = ap own_port e.2
rest_owns program (a_pub t p (to pub_takes)) c e = ap own_port e
rest_owns program (a_pub t p (to (pub_finds topic v))) c e = ap own_port e
rest_owns program (a_pub t p (to (pub_puts q v))) c e = ap own_port e
rest_owns program (a_pub t p (to pub_reads_last)) c e = ap own_port e
rest_owns program (a_pub t p (to (pub_closes q qs))) c e = ap own_port e
rest_owns program (a_pub t p stop) c e = ap own_port e
rest_owns program (a_pub t p (fail f)) c e = ap own_port e
rest_owns program (a_pipe t p x) c e = ap own_port e
rest_owns program (a_merge t p x) c e = ap own_port e
rest_owns program (an_onto t p x) c e = ap own_port e
rest_owns program (a_feed t p x) c e = ap own_port e
rest_owns program (a_job j w (to (job_works v r))) c e = ap own_port e.2
rest_owns program (a_job j w (to job_takes)) c e = ap own_port e
rest_owns program (a_job j w (to (job_replies r ys))) c e = ap own_port e
rest_owns program (a_job j w stop) c e = ap own_port e
rest_owns program (a_job j w (fail f)) c e = ap own_port e
rest_owns program (a_collect t p x) c e = ap own_port e

-- after local steps
pub rested_owns : (program : ProgramView) (b c : TaskBody) → BodyRest program b c → own_of c ≡ own_of b
rested_owns program (script b) c r = ap own_of r.2
rested_owns program (system_task b) c r = ap own_of r.2 ∙ rest_owns program b r.0 r.1

-- after an answer
pub gone_owns : (program : ProgramView) (v : Tree) (b c : TaskBody) → BodyRest program (body_fill v b) c → own_of c ≡ own_of b
gone_owns program v (script b) c r = ap own_of r.2
gone_owns program v (system_task b) c r = rested_owns program (system_task (system_fill v b)) c r ∙ fill_owns v b

-- a task of a mult alone
abbrev IsDelivery : SeedView → Type 0
IsDelivery seed = (values : Trees) × (place : Place) × (seed ≡ system SystemTask.Deliver values place)

abbrev Starts : OpView → Type 0
Starts (spawning seed) = IsDelivery seed
Starts (taking c) = Unit {0}
Starts (putting c v) = Unit {0}
Starts (choosing ports priority default) = Unit {0}
Starts (making what) = Unit {0}
Starts (closing c) = Unit {0}
Starts (registering name args) = Unit {0}
Starts (printing line) = Unit {0}
Starts (posting c v) = Unit {0}

abbrev StartsAt : At → Type 0
StartsAt local = Unit {0}
StartsAt (at_op w) = Starts w.op
StartsAt (ended v) = Unit {0}
StartsAt (faulted f p) = Unit {0}
StartsAt nowhere = Unit {0}

asks_so : (p : Place) (o : Option Fault) (op : OpView) → Starts op → StartsAt (asking p o op)
asks_so p None op e = e
asks_so p (Some f) op e = tt

abbrev AllSo : {S : Type 0} → (S → Ask) → Type 0
AllSo {S} asks = (x : S) (p : Place) → StartsAt (asks x p)

stands_so : {S : Type 0} (p : Place) (asks : S → Ask) → AllSo asks → (x : Next S) → StartsAt (stands_at p asks x)
stands_so p asks all (to x) = all x p
stands_so p asks all stop = tt
stands_so p asks all (fail f) = tt

puts_so : (c : ℕ) (v : Tree) (p : Place) → StartsAt (ask_to_put c v p)
puts_so c v p = asks_so p (too_large_here v) (putting (port c) v) tt

chooses_so : (vs : Trees) (p : Place) → StartsAt (ask_to_choose vs p)
chooses_so vs p = asks_so p (too_large_branches vs) (choosing vs false None) tt

mult_so : (t : MultPorts) → AllSo (mult_asks t)
mult_so t mult_takes p = tt
mult_so t (mult_reads v) p = tt
mult_so t (mult_spawns v x xs n) p = (_, p, refl)
mult_so t (mult_waits n) p = tt
mult_so t mult_reads_last p = tt
mult_so t (mult_closes c cs) p = tt

deliver_so : (t : Delivery) → AllSo (deliver_asks t)
deliver_so t deliver_puts p = puts_so t.channel t.value p
deliver_so t deliver_untaps p = tt
deliver_so t deliver_answers p = puts_so t.acks (bool true) p

mix_so : (t : MixPorts) → AllSo (mix_asks t)
mix_so t mix_reads p = tt
mix_so t (mix_chooses reads heard) p = chooses_so (port_trees (reads ++ t.changes ∷ [])) p
mix_so t (mix_drops c) p = tt
mix_so t (mix_puts reads heard v) p = puts_so t.out v p

pub_so : (t : PubPorts) → AllSo (pub_asks t)
pub_so t pub_takes p = tt
pub_so t (pub_sorts v) p = tt
pub_so t (pub_finds topic v) p = tt
pub_so t (pub_puts c v) p = puts_so c v p
pub_so t pub_reads_last p = tt
pub_so t (pub_closes c cs) p = tt

pipe_so : (t : PipePorts) → AllSo (pipe_asks t)
pipe_so t pipe_takes p = tt
pipe_so t (pipe_puts v) p = puts_so t.target v p
pipe_so t pipe_closes p = tt

merge_so : (t : ℕ) → AllSo (merge_asks t)
merge_so t (merge_chooses v vs) p = chooses_so (item v vs) p
merge_so t (merge_puts vs v) p = puts_so t v p
merge_so t merge_closes p = tt

onto_so : (t : OntoPorts) → AllSo (onto_asks t)
onto_so t (onto_puts v vs) p = puts_so t.target v p
onto_so t onto_closes p = tt
onto_so t onto_ends p = tt

feed_so : (t : FeedPorts) → AllSo (feed_asks t)
feed_so t feed_takes p = tt
feed_so t (feed_makes v) p = tt
feed_so t (feed_puts v q) p = puts_so t.jobs (pair_of v (port q)) p
feed_so t (feed_queues q) p = puts_so t.replies (port q) p
feed_so t feed_closes_jobs p = tt
feed_so t feed_closes_replies p = tt

job_so : (j : ℕ) → AllSo (job_asks j)
job_so j job_takes p = tt
job_so j (job_works v r) p = tt
job_so j (job_replies r ys) p = puts_so r (vector ys) p

collect_so : (t : CollectPorts) → AllSo (collect_asks t)
collect_so t collect_takes p = tt
collect_so t (collect_opens q) p = tt
collect_so t (collect_puts y ys) p = puts_so t.target y p
collect_so t collect_closes p = tt
collect_so t collect_ends p = tt

system_so : (b : SystemBody) → StartsAt (system_at b)
system_so (a_mult t p x) = stands_so p (mult_asks t) (mult_so t) x
system_so (a_delivery t p x) = stands_so p (deliver_asks t) (deliver_so t) x
system_so (a_mix t p x) = stands_so p (mix_asks t) (mix_so t) x
system_so (a_pub t p x) = stands_so p (pub_asks t) (pub_so t) x
system_so (a_pipe t p x) = stands_so p (pipe_asks t) (pipe_so t) x
system_so (a_merge t p x) = stands_so p (merge_asks t) (merge_so t) x
system_so (an_onto t p x) = stands_so p (onto_asks t) (onto_so t) x
system_so (a_feed t p x) = stands_so p (feed_asks t) (feed_so t) x
system_so (a_job j w x) = stands_so w.place (job_asks j) (job_so j) x
system_so (a_collect t p x) = stands_so p (collect_asks t) (collect_so t) x

-- a system task starts deliveries alone, and these use no port alone
pub system_starts : (program : ProgramView) (b : SystemBody) (seed : SeedView) → IsAtOp (system_task b) (spawning seed) → own_of (new_task program seed) ≡ None
system_starts program b seed at = by (subst StartsAt at.1 (system_so b)) where
  by : IsDelivery seed → own_of (new_task program seed) ≡ None
  by d = ap (λ z. own_of (new_task program z)) d.2
