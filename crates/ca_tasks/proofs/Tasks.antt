-- A system task starts no task but a delivery.
use Rattle.std.proofs.Common.{◌≡◌, ℕ, [], ◌∷◌, ◌++◌, false, Option, Some, None, refl, sym, subst, true}
use Rattle.ca_value.specs.Tree.{Tree, Trees, bool, vector, port, item}
use Rattle.ca_term.specs.declared.fault.Fault.{Fault}
use Rattle.ca_term.specs.declared.place.Place.{Place}
use Rattle.ca_term.specs.Operation.{OpView, choosing, putting}
use Rattle.ca_meaning.specs.Asking.{too_large_branches}
use Rattle.ca_meaning.specs.Asks.{Ask, Next, to, stop, fail, ask_to_choose, pair_of, ask_to_put, stands_at, too_large_here}
use Rattle.ca_meaning.specs.Body.{At, asking}
use Rattle.ca_meaning.specs.MixTable.{MixPorts, MixState, mix_asks, mix_chooses, mix_drops, mix_puts, mix_reads, port_trees}
use Rattle.ca_meaning.specs.MultTable.{Delivery, DeliverState, MultPorts, MultState, deliver_answers, deliver_asks, deliver_puts, deliver_untaps, mult_asks, mult_closes, mult_reads, mult_reads_last, mult_spawns, mult_takes, mult_waits}
use Rattle.ca_meaning.specs.PipeTable.{MergeState, OntoPorts, OntoState, PipePorts, PipeState, merge_asks, merge_chooses, merge_closes, merge_puts, onto_asks, onto_closes, onto_ends, onto_puts, pipe_asks, pipe_closes, pipe_puts, pipe_takes}
use Rattle.ca_meaning.specs.PipelineTable.{CollectPorts, CollectState, FeedPorts, FeedState, JobState, collect_asks, collect_closes, collect_ends, collect_opens, collect_puts, collect_takes, feed_asks, feed_closes_jobs, feed_closes_replies, feed_makes, feed_puts, feed_queues, feed_takes, job_asks, job_replies, job_takes, job_works}
use Rattle.ca_meaning.specs.PubTable.{PubPorts, PubState, pub_asks, pub_closes, pub_finds, pub_puts, pub_reads_last, pub_sorts, pub_takes}
use Rattle.ca_meaning.specs.System.{SystemBody, a_collect, a_delivery, a_feed, a_job, a_merge, a_mix, a_mult, a_pipe, a_pub, an_onto, system_at}
use Rattle.ca_states.specs.Code.{CodeView}
use Rattle.ca_machine.specs.Tasks.{HasTask, HasTaskAt}

module _ (C : CodeView) where
  at_asking : (p : Place) (f : Option Fault) (op : OpView) → HasTask C op → HasTaskAt C (asking p f op)
  at_asking p None op h = h
  at_asking p (Some f) op h = tt

  at_puts : (c : ℕ) (v : Tree) (p : Place) → HasTaskAt C (ask_to_put c v p)
  at_puts c v p = at_asking p (too_large_here v) (putting (port c) v) tt

  at_chooses : (ports : Trees) (p : Place) → HasTaskAt C (ask_to_choose ports p)
  at_chooses ports p = at_asking p (too_large_branches ports) (choosing ports false None) tt

  at_next : {S : Type 0} (p : Place) (asks : S → Ask) (x : Next S) → ((s : S) → HasTaskAt C (asks s p)) → HasTaskAt C (stands_at p asks x)
  at_next p asks (to s) h = h s
  at_next p asks stop h = tt
  at_next p asks (fail f) h = tt

  at_mult : (t : MultPorts) (p : Place) (s : MultState) → HasTaskAt C (mult_asks t s p)
  at_mult t p mult_takes = tt
  at_mult t p (mult_reads v) = tt
  at_mult t p (mult_spawns v x xs n) = refl
  at_mult t p (mult_waits n) = tt
  at_mult t p mult_reads_last = tt
  at_mult t p (mult_closes c cs) = tt

  at_delivery : (t : Delivery) (p : Place) (s : DeliverState) → HasTaskAt C (deliver_asks t s p)
  at_delivery t p deliver_puts = at_puts t.channel t.value p
  at_delivery t p deliver_untaps = tt
  at_delivery t p deliver_answers = at_puts t.acks (bool true) p

  at_mix : (t : MixPorts) (p : Place) (s : MixState) → HasTaskAt C (mix_asks t s p)
  at_mix t p mix_reads = tt
  at_mix t p (mix_chooses reads heard) = at_chooses (port_trees (reads ++ t.changes ∷ [])) p
  at_mix t p (mix_drops c) = tt
  at_mix t p (mix_puts reads heard v) = at_puts t.out v p

  at_pub : (t : PubPorts) (p : Place) (s : PubState) → HasTaskAt C (pub_asks t s p)
  at_pub t p pub_takes = tt
  at_pub t p (pub_sorts v) = tt
  at_pub t p (pub_finds topic v) = tt
  at_pub t p (pub_puts c v) = at_puts c v p
  at_pub t p pub_reads_last = tt
  at_pub t p (pub_closes c cs) = tt

  at_pipe : (t : PipePorts) (p : Place) (s : PipeState) → HasTaskAt C (pipe_asks t s p)
  at_pipe t p pipe_takes = tt
  at_pipe t p (pipe_puts v) = at_puts t.target v p
  at_pipe t p pipe_closes = tt

  at_merge : (t : ℕ) (p : Place) (s : MergeState) → HasTaskAt C (merge_asks t s p)
  at_merge t p (merge_chooses v vs) = at_chooses (item v vs) p
  at_merge t p (merge_puts vs v) = at_puts t v p
  at_merge t p merge_closes = tt

  at_onto : (t : OntoPorts) (p : Place) (s : OntoState) → HasTaskAt C (onto_asks t s p)
  at_onto t p (onto_puts v vs) = at_puts t.target v p
  at_onto t p onto_closes = tt
  at_onto t p onto_ends = tt

  at_feed : (t : FeedPorts) (p : Place) (s : FeedState) → HasTaskAt C (feed_asks t s p)
  at_feed t p feed_takes = tt
  at_feed t p (feed_makes v) = tt
  at_feed t p (feed_puts v q) = at_puts t.jobs (pair_of v (port q)) p
  at_feed t p (feed_queues q) = at_puts t.replies (port q) p
  at_feed t p feed_closes_jobs = tt
  at_feed t p feed_closes_replies = tt

  at_job : (t : ℕ) (p : Place) (s : JobState) → HasTaskAt C (job_asks t s p)
  at_job t p job_takes = tt
  at_job t p (job_works v q) = tt
  at_job t p (job_replies q ys) = at_puts q (vector ys) p

  at_collect : (t : CollectPorts) (p : Place) (s : CollectState) → HasTaskAt C (collect_asks t s p)
  at_collect t p collect_takes = tt
  at_collect t p (collect_opens q) = tt
  at_collect t p (collect_puts y ys) = at_puts t.target y p
  at_collect t p collect_closes = tt
  at_collect t p collect_ends = tt

  system_has : (b : SystemBody) → HasTaskAt C (system_at b)
  system_has (a_mult t p x) = at_next p (mult_asks t) x (at_mult t p)
  system_has (a_delivery t p x) = at_next p (deliver_asks t) x (at_delivery t p)
  system_has (a_mix t p x) = at_next p (mix_asks t) x (at_mix t p)
  system_has (a_pub t p x) = at_next p (pub_asks t) x (at_pub t p)
  system_has (a_pipe t p x) = at_next p (pipe_asks t) x (at_pipe t p)
  system_has (a_merge t p x) = at_next p (merge_asks t) x (at_merge t p)
  system_has (an_onto t p x) = at_next p (onto_asks t) x (at_onto t p)
  system_has (a_feed t p x) = at_next p (feed_asks t) x (at_feed t p)
  system_has (a_job j w x) = at_next w.place (job_asks j) x (at_job j w.place)
  system_has (a_collect t p x) = at_next p (collect_asks t) x (at_collect t p)

  -- so where its body is
  pub at_its : (p : At) (b : SystemBody) → p ≡ system_at b → HasTaskAt C p
  at_its p b e = subst (HasTaskAt C) (sym e) (system_has b)
