-- A system task starts no go block, and no task that applies a function.
use Rattle.std.proofs.Common.{◌≡◌, ℕ, [], ◌∷◌, ◌++◌, refl, sym, ap, ◌∙◌, Bool, true, false, Option, Some, None}
use Rattle.ca_value.specs.Tree.{Tree, Trees, bool, vector, port, item}
use Rattle.ca_term.specs.declared.place.Place.{Place}
use Rattle.ca_term.specs.declared.fault.Fault.{Fault}
use Rattle.ca_term.specs.declared.head.SystemTask.{SystemTask}
use Rattle.ca_term.specs.Operation.{OpView, SeedView, taking, putting, choosing, making, spawning, closing, registering, printing, posting, go, system}
use Rattle.ca_term.specs.Program.{ProgramView}
use Rattle.ca_meaning.specs.Asking.{too_large_branches}
use Rattle.ca_meaning.specs.Body.{At, local, at_op, ended, faulted, nowhere, asking}
use Rattle.ca_meaning.specs.Asks.{pair_of, Ask, too_large_here, ask_to_put, ask_to_choose, Next, stands_at, to, stop, fail}
use Rattle.ca_meaning.specs.MultTable.{MultPorts, mult_asks, mult_takes, mult_reads, mult_spawns, mult_waits, mult_reads_last, mult_closes, Delivery, deliver_asks, deliver_puts, deliver_untaps, deliver_answers}
use Rattle.ca_meaning.specs.MixTable.{port_trees, MixPorts, mix_asks, mix_reads, mix_chooses, mix_drops, mix_puts}
use Rattle.ca_meaning.specs.PubTable.{PubPorts, pub_asks, pub_takes, pub_sorts, pub_finds, pub_puts, pub_reads_last, pub_closes}
use Rattle.ca_meaning.specs.PipeTable.{PipePorts, pipe_asks, pipe_takes, pipe_puts, pipe_closes, merge_asks, merge_chooses, merge_puts, merge_closes, OntoPorts, onto_asks, onto_puts, onto_closes, onto_ends}
use Rattle.ca_meaning.specs.PipelineTable.{FeedPorts, feed_asks, feed_takes, feed_makes, feed_puts, feed_queues, feed_closes_jobs, feed_closes_replies, job_asks, job_takes, job_works, job_replies, CollectPorts, collect_asks, collect_takes, collect_opens, collect_puts, collect_closes, collect_ends}
use Rattle.ca_meaning.specs.System.{SystemBody, a_mult, a_delivery, a_mix, a_pub, a_pipe, a_merge, an_onto, a_feed, a_job, a_collect, system_at}
use Rattle.ca_replay.specs.Seeds.{IsSeedOf}

abbrev applies_none : SystemTask → Bool
applies_none SystemTask.Mult = true
applies_none SystemTask.Deliver = true
applies_none SystemTask.Mix = true
applies_none (SystemTask.Pub f) = false
applies_none SystemTask.Pipe = true
applies_none SystemTask.Merge = true
applies_none SystemTask.Onto = true
applies_none SystemTask.Feed = true
applies_none (SystemTask.Job x f) = false
applies_none SystemTask.Collect = true

abbrev is_calm_seed : SeedView → Bool
is_calm_seed (go n values result place) = false
is_calm_seed (system kind values place) = applies_none kind

abbrev is_calm_op : OpView → Bool
is_calm_op (spawning seed) = is_calm_seed seed
is_calm_op (taking c) = true
is_calm_op (putting c v) = true
is_calm_op (choosing ports priority default) = true
is_calm_op (making what) = true
is_calm_op (closing c) = true
is_calm_op (registering name args) = true
is_calm_op (printing line) = true
is_calm_op (posting c v) = true

abbrev is_calm : At → Bool
is_calm local = true
is_calm (at_op w) = is_calm_op w.op
is_calm (ended v) = true
is_calm (faulted f p) = true
is_calm nowhere = true

asks_calmly : (p : Place) (o : Option Fault) (op : OpView) → is_calm_op op ≡ true → is_calm (asking p o op) ≡ true
asks_calmly p None op e = e
asks_calmly p (Some f) op e = refl

abbrev AllCalm : {S : Type 0} → (S → Ask) → Type 0
AllCalm {S} asks = (x : S) (p : Place) → is_calm (asks x p) ≡ true

stands_calm : {S : Type 0} (p : Place) (asks : S → Ask) → AllCalm asks → (x : Next S) → is_calm (stands_at p asks x) ≡ true
stands_calm p asks all (to x) = all x p
stands_calm p asks all stop = refl
stands_calm p asks all (fail f) = refl

puts_calm : (c : ℕ) (v : Tree) (p : Place) → is_calm (ask_to_put c v p) ≡ true
puts_calm c v p = asks_calmly p (too_large_here v) (putting (port c) v) refl

chooses_calm : (vs : Trees) (p : Place) → is_calm (ask_to_choose vs p) ≡ true
chooses_calm vs p = asks_calmly p (too_large_branches vs) (choosing vs false None) refl

mult_calm : (t : MultPorts) → AllCalm (mult_asks t)
mult_calm t mult_takes p = refl
mult_calm t (mult_reads v) p = refl
mult_calm t (mult_spawns v x xs n) p = refl
mult_calm t (mult_waits n) p = refl
mult_calm t mult_reads_last p = refl
mult_calm t (mult_closes c cs) p = refl

deliver_calm : (t : Delivery) → AllCalm (deliver_asks t)
deliver_calm t deliver_puts p = puts_calm t.channel t.value p
deliver_calm t deliver_untaps p = refl
deliver_calm t deliver_answers p = puts_calm t.acks (bool true) p

mix_calm : (t : MixPorts) → AllCalm (mix_asks t)
mix_calm t mix_reads p = refl
mix_calm t (mix_chooses reads heard) p = chooses_calm (port_trees (reads ++ t.changes ∷ [])) p
mix_calm t (mix_drops c) p = refl
mix_calm t (mix_puts reads heard v) p = puts_calm t.out v p

pub_calm : (t : PubPorts) → AllCalm (pub_asks t)
pub_calm t pub_takes p = refl
pub_calm t (pub_sorts v) p = refl
pub_calm t (pub_finds topic v) p = refl
pub_calm t (pub_puts c v) p = puts_calm c v p
pub_calm t pub_reads_last p = refl
pub_calm t (pub_closes c cs) p = refl

pipe_calm : (t : PipePorts) → AllCalm (pipe_asks t)
pipe_calm t pipe_takes p = refl
pipe_calm t (pipe_puts v) p = puts_calm t.target v p
pipe_calm t pipe_closes p = refl

merge_calm : (t : ℕ) → AllCalm (merge_asks t)
merge_calm t (merge_chooses v vs) p = chooses_calm (item v vs) p
merge_calm t (merge_puts vs v) p = puts_calm t v p
merge_calm t merge_closes p = refl

onto_calm : (t : OntoPorts) → AllCalm (onto_asks t)
onto_calm t (onto_puts v vs) p = puts_calm t.target v p
onto_calm t onto_closes p = refl
onto_calm t onto_ends p = refl

feed_calm : (t : FeedPorts) → AllCalm (feed_asks t)
feed_calm t feed_takes p = refl
feed_calm t (feed_makes v) p = refl
feed_calm t (feed_puts v q) p = puts_calm t.jobs (pair_of v (port q)) p
feed_calm t (feed_queues q) p = puts_calm t.replies (port q) p
feed_calm t feed_closes_jobs p = refl
feed_calm t feed_closes_replies p = refl

job_calm : (t : ℕ) → AllCalm (job_asks t)
job_calm t job_takes p = refl
job_calm t (job_works v q) p = refl
job_calm t (job_replies q ys) p = puts_calm q (vector ys) p

collect_calm : (t : CollectPorts) → AllCalm (collect_asks t)
collect_calm t collect_takes p = refl
collect_calm t (collect_opens q) p = refl
collect_calm t (collect_puts y ys) p = puts_calm t.target y p
collect_calm t collect_closes p = refl
collect_calm t collect_ends p = refl

system_calm : (b : SystemBody) → is_calm (system_at b) ≡ true
system_calm (a_mult t p x) = stands_calm p (mult_asks t) (mult_calm t) x
system_calm (a_delivery t p x) = stands_calm p (deliver_asks t) (deliver_calm t) x
system_calm (a_mix t p x) = stands_calm p (mix_asks t) (mix_calm t) x
system_calm (a_pub t p x) = stands_calm p (pub_asks t) (pub_calm t) x
system_calm (a_pipe t p x) = stands_calm p (pipe_asks t) (pipe_calm t) x
system_calm (a_merge t p x) = stands_calm p (merge_asks t) (merge_calm t) x
system_calm (an_onto t p x) = stands_calm p (onto_asks t) (onto_calm t) x
system_calm (a_feed t p x) = stands_calm p (feed_asks t) (feed_calm t) x
system_calm (a_job t w x) = stands_calm w.place (job_asks t) (job_calm t) x
system_calm (a_collect t p x) = stands_calm p (collect_asks t) (collect_calm t) x

false_true : {G : Type 0} → false ≡ true → G
false_true e = absurd cc

calm_seed : (program : ProgramView) (seed : SeedView) → is_calm_seed seed ≡ true → IsSeedOf program seed
calm_seed program (go n values result place) e = false_true e
calm_seed program (system SystemTask.Mult values place) e = tt
calm_seed program (system SystemTask.Deliver values place) e = tt
calm_seed program (system SystemTask.Mix values place) e = tt
calm_seed program (system (SystemTask.Pub f) values place) e = false_true e
calm_seed program (system SystemTask.Pipe values place) e = tt
calm_seed program (system SystemTask.Merge values place) e = tt
calm_seed program (system SystemTask.Onto values place) e = tt
calm_seed program (system SystemTask.Feed values place) e = tt
calm_seed program (system (SystemTask.Job x f) values place) e = false_true e
calm_seed program (system SystemTask.Collect values place) e = tt

-- what a system task starts is a seed of any program
pub system_seed : (program : ProgramView) (b : SystemBody) (seed : SeedView) (p : Place) → system_at b ≡ at_op (record { op = spawning seed; place = p }) → IsSeedOf program seed
system_seed program b seed p e = calm_seed program seed (sym (ap is_calm e) ∙ system_calm b)
