-- The values of a system task are values, and it asks with values.
use Rattle.std.proofs.Common.{◌≡◌, ℕ, zero, suc, ◌≤◌, List, [], ◌∷◌, ◌++◌, refl, sym, subst, arith, Bool, true, false, cond, Option, Some, None, Ok, Err, eqb}
use Rattle.std.specs.Prelude.{map as each_of}
use Rattle.ca_value.specs.Tree.{Tree, Trees, bool, vector, port, none as no_values, item as value_item}
use Rattle.ca_value.specs.Measure.{weight_of_items}
use Rattle.ca_value.specs.IsValue.{Scalars, IsValue, AreValues, IsRegular, AreRegular}
use Rattle.ca_value.specs.Outcome.{Outcome}
use Rattle.ca_value.specs.Builtins.{builtin_result}
use Rattle.ca_value.specs.declared.builtin.Builtin.{Builtin}
use Rattle.ca_value.proofs.SoundBuiltins.{result_is_value}
use Rattle.ca_term.specs.declared.place.Place.{Place}
use Rattle.ca_term.specs.declared.fault.Fault.{Fault}
use Rattle.ca_term.specs.declared.head.PlainFunction.{PlainFunction}
use Rattle.ca_term.specs.declared.head.SystemTask.{SystemTask}
use Rattle.ca_term.specs.declared.head.SystemTask.TheVariants.{Mult, Deliver, Mix, Pub, Pipe, Merge, Onto, Feed, Job, Collect}
use Rattle.ca_term.specs.declared.head.Transform.{Transform}
use Rattle.ca_term.specs.declared.head.Transform.TheVariants.{Map, Filter, Mapcat}
use Rattle.ca_term.specs.declared.head.Head.TheVariants.{Call}
use Rattle.ca_term.specs.Kernel.{const, apply, none as no_terms, item as term}
use Rattle.ca_term.specs.Operation.{putting, choosing}
use Rattle.ca_term.specs.Program.{ProgramView}
use Rattle.ca_meaning.specs.Operands.{is_nil, truth, first_of, second_of, third_of, port_of_value, values_in}
use Rattle.ca_meaning.specs.Asking.{too_large_branches}
use Rattle.ca_meaning.specs.Body.{At, local, at_op, ended, faulted, nowhere, at, new_body}
use Rattle.ca_meaning.specs.Asks.{Ask, Next, to, stop, fail, stands_at, follows, needing, closes_due, port_in, items_in, ports_in, value_and_port, taps_in, trees_in, one_of, two_of, pair_of, ask_to_put, ask_to_choose, too_large_here}
use Rattle.ca_meaning.specs.Applied.{Returned, Applied, returned_at, of_builtin, Outputs, outputs, no_outputs, has_nil, without_nil, items_output, outputs_of, outputs_by}
use Rattle.ca_meaning.specs.Registry.{TapView}
use Rattle.ca_meaning.specs.MultTable.{MultPorts, MultState, mult_takes, mult_reads, mult_spawns, mult_waits, mult_reads_last, mult_closes, acks_due, spawns_due, closing_of, mult_asks, mult_next, Delivery, DeliverState, deliver_puts, deliver_untaps, deliver_answers, deliver_asks}
use Rattle.ca_meaning.specs.MixTable.{MixPorts, MixState, mix_reads, mix_chooses, mix_drops, mix_puts, mix_asks, mix_next, modes_in, port_trees, any_of}
use Rattle.ca_meaning.specs.PubTable.{PubPorts, PubState, pub_takes, pub_sorts, pub_finds, pub_puts, pub_reads_last, pub_closes, pub_asks, pub_next, channel_of_pair, sorted_by}
use Rattle.ca_meaning.specs.PipeTable.{PipePorts, PipeState, pipe_takes, pipe_puts, pipe_closes, pipe_asks, pipe_next, MergeState, merge_chooses, merge_puts, merge_closes, is_port, without_port, inputs_left, merge_asks, merge_next, OntoPorts, OntoState, onto_puts, onto_closes, onto_ends, onto_over, items_left, onto_asks, onto_next}
use Rattle.ca_meaning.specs.PipelineTable.{FeedPorts, FeedState, feed_takes, feed_makes, feed_puts, feed_queues, feed_closes_jobs, feed_closes_replies, feed_asks, feed_next, JobState, job_takes, job_works, job_replies, job_asks, job_next, worked_by, CollectPorts, CollectState, collect_takes, collect_opens, collect_puts, collect_closes, collect_ends, outputs_left, collect_asks, collect_next}
use Rattle.ca_meaning.specs.System.{SystemBody, a_mult, a_delivery, a_mix, a_pub, a_pipe, a_merge, an_onto, a_feed, a_job, a_collect, fourth_of, new_system, system_at, system_fill, SystemRest}
use Rattle.ca_meaning.specs.Choice.{branch_of}
use Rattle.ca_meaning.specs.RunValues.{AreLight, AreInputs, AtHas, NextHas, MultHas, MixHas, PubHas, PipeHas, MergeHas, OntoHas, FeedHas, JobHas, CollectHas, SystemHas}
use Rattle.ca_meaning.proofs.ValueTerms.{IsWritten, nil_is_value, rested_has}
use Rattle.ca_meaning.proofs.ValuesAsked.{branches_light, vector_parts, are_distinct, first_is, second_is, third_is, here_offered, ports_judged, asks_with, at_has}

module _ (scalars : Scalars) where
  -- what follows

  next_choice : {S : Type 0} (P : S → Type 0) (b : Bool) (x y : Next S) → NextHas P x → NextHas P y → NextHas P (cond b x y)
  next_choice P true x y g h = g
  next_choice P false x y g h = h

  needs : {A S : Type 0} (P : S → Type 0) (o : Option A) (next : A → Next S) → ((x : A) → NextHas P (next x)) → NextHas P (needing o next)
  needs P None next h = tt
  needs P (Some x) next h = h x

  follows_has : {S : Type 0} (P : S → Type 0) (next : S → Next S) (x : Next S) → ((y : S) → P y → NextHas P (next y)) → NextHas P x → NextHas P (follows next x)
  follows_has P next (to y) k h = k y h
  follows_has P next stop k h = tt
  follows_has P next (fail f) k h = tt

  stands_has : {S : Type 0} (P : S → Type 0) (p : Place) (asks : S → Ask) (x : Next S) → ((y : S) → P y → AtHas scalars (asks y p)) → NextHas P x → AtHas scalars (stands_at p asks x)
  stands_has P p asks (to y) k h = k y h
  stands_has P p asks stop k h = nil_is_value scalars
  stands_has P p asks (fail f) k h = tt

  -- forms of answers
  needs_pair : {S : Type 0} (P : S → Type 0) (a : Tree) (next : Tree × ℕ → Next S) → IsValue scalars a → ((c : Tree × ℕ) → IsValue scalars c.0 → NextHas P (next c)) → NextHas P (needing (value_and_port a) next)
  needs_pair P (vector (value_item v (value_item (port p) no_values))) next h k = k (v, p) (vector_parts scalars (value_item v (value_item (port p) no_values)) h).0
  needs_pair P a next h k = tt

  needs_items : {S : Type 0} (P : S → Type 0) (a : Tree) (next : Trees → Next S) → IsValue scalars a → ((vs : Trees) → AreValues scalars vs → NextHas P (next vs)) → NextHas P (needing (items_in a) next)
  needs_items P (vector vs) next h k = k vs (vector_parts scalars vs h)
  needs_items P a next h k = tt

  pub trees_in_are : (a : Tree) → IsValue scalars a → AreValues scalars (trees_in a)
  trees_in_are (vector vs) h = vector_parts scalars vs h
  trees_in_are a h = tt

  due_has : {S : Type 0} (P : S → Type 0) (state : ℕ → List ℕ → S) (cs : List ℕ) → ((c : ℕ) (cs : List ℕ) → P (state c cs)) → NextHas P (closes_due state cs)
  due_has P state [] k = tt
  due_has P state (c ∷ cs) k = k c cs

  puts_here : (c : ℕ) (v : Tree) (p : Place) → IsRegular scalars v → AtHas scalars (ask_to_put c v p)
  puts_here c v p d = asks_with scalars p (too_large_here v) (putting (port c) v) (here_offered scalars v d)

  chooses_here : (vs : Trees) (p : Place) → AreRegular scalars vs → AreLight (each_of branch_of (values_in vs)) → AtHas scalars (ask_to_choose vs p)
  chooses_here vs p d l = asks_with scalars p (too_large_branches vs) (choosing vs false None) (λ e. (ports_judged scalars vs d e, l, tt))

  pub port_is_value : (n : ℕ) → IsValue scalars (port n)
  port_is_value n = record { regular = tt; light = omega arith; shallow = omega arith }

  pub bool_is_value : (b : Bool) → IsValue scalars (bool b)
  bool_is_value b = record { regular = tt; light = omega arith; shallow = omega arith }

  ports_distinct : (ns : List ℕ) → AreRegular scalars (port_trees ns)
  ports_distinct [] = tt
  ports_distinct (n ∷ ns) = (tt, ports_distinct ns)

  ports_light : (ns : List ℕ) → AreLight (each_of branch_of (values_in (port_trees ns)))
  ports_light [] = omega arith
  ports_light (n ∷ ns) = ports_light ns

  -- mult
  acks_has : (n : ℕ) → NextHas (MultHas scalars) (acks_due n)
  acks_has zero = tt
  acks_has (suc n) = tt

  spawns_has : (v : Tree) (ts : List TapView) (n : ℕ) → IsValue scalars v → NextHas (MultHas scalars) (spawns_due v ts n)
  spawns_has v [] n h = acks_has n
  spawns_has v (t ∷ ts) n h = h

  mult_asking : (t : MultPorts) (p : Place) (x : MultState) → MultHas scalars x → AtHas scalars (mult_asks t x p)
  mult_asking t p mult_takes h = tt
  mult_asking t p (mult_reads v) h = ((port_is_value t.mult, tt), omega arith)
  mult_asking t p (mult_spawns v x xs n) h = (port_is_value t.mult, (port_is_value x.channel, (h, (port_is_value t.acks, tt))))
  mult_asking t p (mult_waits n) h = tt
  mult_asking t p mult_reads_last h = ((port_is_value t.mult, tt), omega arith)
  mult_asking t p (mult_closes c cs) h = tt

  mult_goes : (a : Tree) → IsValue scalars a → (x : MultState) → MultHas scalars x → NextHas (MultHas scalars) (mult_next a x)
  mult_goes a i mult_takes h = next_choice (MultHas scalars) (is_nil a) (to mult_reads_last) (to (mult_reads a)) tt i
  mult_goes a i (mult_reads v) h = needs (MultHas scalars) (taps_in a) _ (λ ts. spawns_has v ts 0 h)
  mult_goes a i (mult_spawns v x xs n) h = spawns_has v xs (suc n) h
  mult_goes a i (mult_waits n) h = acks_has n
  mult_goes a i mult_reads_last h = needs (MultHas scalars) (taps_in a) _ (λ ts. due_has (MultHas scalars) mult_closes (closing_of ts) (λ c cs. tt))
  mult_goes a i (mult_closes c cs) h = due_has (MultHas scalars) mult_closes cs (λ c cs. tt)

  -- delivery
  deliver_asking : (d : Delivery) (p : Place) (x : DeliverState) → IsValue scalars d.value → AtHas scalars (deliver_asks d x p)
  deliver_asking d p deliver_puts h = puts_here d.channel d.value p h.regular
  deliver_asking d p deliver_untaps h = ((port_is_value d.mult, (port_is_value d.channel, tt)), omega arith)
  deliver_asking d p deliver_answers h = puts_here d.acks (bool true) p tt

  -- mix
  mix_asking : (t : MixPorts) (p : Place) (x : MixState) → MixHas scalars x → AtHas scalars (mix_asks t x p)
  mix_asking t p mix_reads h = ((port_is_value t.mix, tt), omega arith)
  mix_asking t p (mix_chooses reads heard) h = chooses_here (port_trees (reads ++ t.changes ∷ [])) p (ports_distinct (reads ++ t.changes ∷ [])) (ports_light (reads ++ t.changes ∷ []))
  mix_asking t p (mix_drops c) h = ((port_is_value t.mix, (port_is_value c, tt)), omega arith)
  mix_asking t p (mix_puts reads heard v) h = puts_here t.out v p h.regular

  mix_goes : (t : MixPorts) (a : Tree) → IsValue scalars a → (x : MixState) → MixHas scalars x → NextHas (MixHas scalars) (mix_next t a x)
  mix_goes t a i mix_reads h = needs (MixHas scalars) (modes_in a) _ (λ m. tt)
  mix_goes t a i (mix_chooses reads heard) h = needs_pair (MixHas scalars) a _ i (λ c k. next_choice (MixHas scalars) (eqb c.1 t.changes) _ _ tt (next_choice (MixHas scalars) (is_nil c.0) _ _ tt (next_choice (MixHas scalars) (any_of (eqb c.1) heard) _ _ k tt)))
  mix_goes t a i (mix_drops c) h = tt
  mix_goes t a i (mix_puts reads heard v) h = next_choice (MixHas scalars) (truth a) _ _ tt tt

  -- publication
  pub_asking : (t : PubPorts) (p : Place) (x : PubState) → PubHas scalars x → AtHas scalars (pub_asks t x p)
  pub_asking t p pub_takes h = tt
  pub_asking t p (pub_sorts v) h = tt
  pub_asking t p (pub_finds topic v) h = ((port_is_value t.publication, (h.0, tt)), omega arith)
  pub_asking t p (pub_puts c v) h = puts_here c v p h.regular
  pub_asking t p pub_reads_last h = ((port_is_value t.publication, tt), omega arith)
  pub_asking t p (pub_closes c cs) h = tt

  pub_goes : (a : Tree) → IsValue scalars a → (x : PubState) → PubHas scalars x → NextHas (PubHas scalars) (pub_next a x)
  pub_goes a i pub_takes h = next_choice (PubHas scalars) (is_nil a) (to pub_reads_last) (to (pub_sorts a)) tt i
  pub_goes a i (pub_sorts v) h = h
  pub_goes a i (pub_finds topic v) h = next_choice (PubHas scalars) (is_nil a) _ _ tt (needs (PubHas scalars) (channel_of_pair a) _ (λ c. h.1))
  pub_goes a i (pub_puts c v) h = tt
  pub_goes a i pub_reads_last h = needs (PubHas scalars) (ports_in a) _ (λ cs. due_has (PubHas scalars) pub_closes cs (λ c cs. tt))
  pub_goes a i (pub_closes c cs) h = due_has (PubHas scalars) pub_closes cs (λ c cs. tt)

  -- pipe
  pipe_asking : (t : PipePorts) (p : Place) (x : PipeState) → PipeHas scalars x → AtHas scalars (pipe_asks t x p)
  pipe_asking t p pipe_takes h = tt
  pipe_asking t p (pipe_puts v) h = puts_here t.target v p h.regular
  pipe_asking t p pipe_closes h = tt

  pipe_goes : (t : PipePorts) (a : Tree) → IsValue scalars a → (x : PipeState) → PipeHas scalars x → NextHas (PipeHas scalars) (pipe_next t a x)
  pipe_goes t a i pipe_takes h = next_choice (PipeHas scalars) (is_nil a) _ _ (next_choice (PipeHas scalars) t.closes (to pipe_closes) stop tt tt) i
  pipe_goes t a i (pipe_puts v) h = next_choice (PipeHas scalars) (truth a) _ _ tt tt
  pipe_goes t a i pipe_closes h = tt

  -- merge
  fewer_are : (b : Bool) (x y : Trees) → AreValues scalars x → AreValues scalars y → AreValues scalars (cond b x y)
  fewer_are true x y g h = g
  fewer_are false x y g h = h

  without_are : (n : ℕ) (vs : Trees) → AreValues scalars vs → AreValues scalars (without_port n vs)
  without_are n no_values h = tt
  without_are n (value_item v vs) h = fewer_are (is_port n v) (without_port n vs) (value_item v (without_port n vs)) (without_are n vs h.1) (h.0, without_are n vs h.1)

  without_light : (n : ℕ) (vs : Trees) → weight_of_items (without_port n vs) ≤ weight_of_items vs
  without_light n no_values = omega arith
  without_light n (value_item v vs) = by (is_port n v) (without_light n vs) where
    by : (b : Bool) → weight_of_items (without_port n vs) ≤ weight_of_items vs → weight_of_items (cond b (without_port n vs) (value_item v (without_port n vs))) ≤ weight_of_items (value_item v vs)
    by true k = omega (arith, k)
    by false k = omega (arith, k)

  without_inputs : (n : ℕ) (vs : Trees) → AreInputs scalars vs → AreInputs scalars (without_port n vs)
  without_inputs n vs h = let k = without_light n vs in let l = h.1 in (without_are n vs h.0, omega (arith, k, l))

  all_inputs : (a : Tree) → IsValue scalars a → AreInputs scalars (trees_in a)
  all_inputs (vector vs) h = let l = h.light in (trees_in_are (vector vs) h, omega (arith, l))
  all_inputs a h = (trees_in_are a h, omega arith)

  inputs_has : (vs : Trees) → AreInputs scalars vs → NextHas (MergeHas scalars) (inputs_left vs)
  inputs_has no_values h = tt
  inputs_has (value_item v vs) h = h

  merge_asking : (o : ℕ) (p : Place) (x : MergeState) → MergeHas scalars x → AtHas scalars (merge_asks o x p)
  merge_asking o p (merge_chooses v vs) h = let k = branches_light scalars (value_item v vs) in let l = h.1 in chooses_here (value_item v vs) p (are_distinct scalars (value_item v vs) h.0) (omega (arith, k, l))
  merge_asking o p (merge_puts vs v) h = puts_here o v p h.1.regular
  merge_asking o p merge_closes h = tt

  merge_goes : (a : Tree) → IsValue scalars a → (x : MergeState) → MergeHas scalars x → NextHas (MergeHas scalars) (merge_next a x)
  merge_goes a i (merge_chooses v vs) h = needs_pair (MergeHas scalars) a _ i (λ c k. next_choice (MergeHas scalars) (is_nil c.0) (inputs_left (without_port c.1 (value_item v vs))) (to (merge_puts (value_item v vs) c.0)) (inputs_has (without_port c.1 (value_item v vs)) (without_inputs c.1 (value_item v vs) h)) (h, k))
  merge_goes a i (merge_puts vs v) h = inputs_has vs h.0
  merge_goes a i merge_closes h = tt

  -- onto
  over_has : (t : OntoPorts) → NextHas (OntoHas scalars) (onto_over t)
  over_has t = next_choice (OntoHas scalars) t.closes (to onto_closes) (to onto_ends) tt tt

  items_has : (t : OntoPorts) (vs : Trees) → AreValues scalars vs → NextHas (OntoHas scalars) (items_left t vs)
  items_has t no_values h = over_has t
  items_has t (value_item v vs) h = h

  onto_asking : (t : OntoPorts) (p : Place) (x : OntoState) → OntoHas scalars x → AtHas scalars (onto_asks t x p)
  onto_asking t p (onto_puts v vs) h = puts_here t.target v p h.0.regular
  onto_asking t p onto_closes h = tt
  onto_asking t p onto_ends h = tt

  onto_goes : (t : OntoPorts) (a : Tree) → IsValue scalars a → (x : OntoState) → OntoHas scalars x → NextHas (OntoHas scalars) (onto_next t a x)
  onto_goes t a i (onto_puts v vs) h = next_choice (OntoHas scalars) (truth a) (items_left t vs) (onto_over t) (items_has t vs h.1) (over_has t)
  onto_goes t a i onto_closes h = tt
  onto_goes t a i onto_ends h = tt

  -- feed
  feed_asking : (t : FeedPorts) (p : Place) (x : FeedState) → FeedHas scalars x → AtHas scalars (feed_asks t x p)
  feed_asking t p feed_takes h = tt
  feed_asking t p (feed_makes v) h = tt
  feed_asking t p (feed_puts v q) h = puts_here t.jobs (pair_of v (port q)) p (h.regular, (tt, tt))
  feed_asking t p (feed_queues q) h = puts_here t.replies (port q) p tt
  feed_asking t p feed_closes_jobs h = tt
  feed_asking t p feed_closes_replies h = tt

  feed_goes : (a : Tree) → IsValue scalars a → (x : FeedState) → FeedHas scalars x → NextHas (FeedHas scalars) (feed_next a x)
  feed_goes a i feed_takes h = next_choice (FeedHas scalars) (is_nil a) (to feed_closes_jobs) (to (feed_makes a)) tt i
  feed_goes a i (feed_makes v) h = needs (FeedHas scalars) (port_in a) _ (λ p. h)
  feed_goes a i (feed_puts v p) h = tt
  feed_goes a i (feed_queues p) h = tt
  feed_goes a i feed_closes_jobs h = tt
  feed_goes a i feed_closes_replies h = tt

  -- job
  job_asking : (j : ℕ) (p : Place) (x : JobState) → JobHas scalars x → AtHas scalars (job_asks j x p)
  job_asking j p job_takes h = tt
  job_asking j p (job_works v q) h = tt
  job_asking j p (job_replies q ys) h = puts_here q (vector ys) p (are_distinct scalars ys h)

  job_goes : (a : Tree) → IsValue scalars a → (x : JobState) → JobHas scalars x → NextHas (JobHas scalars) (job_next a x)
  job_goes a i job_takes h = next_choice (JobHas scalars) (is_nil a) _ _ tt (needs_pair (JobHas scalars) a _ i (λ c k. k))
  job_goes a i (job_works v p) h = h
  job_goes a i (job_replies p ys) h = tt

  -- collect
  left_has : (ys : Trees) → AreValues scalars ys → NextHas (CollectHas scalars) (outputs_left ys)
  left_has no_values h = tt
  left_has (value_item y ys) h = h

  collect_asking : (t : CollectPorts) (p : Place) (x : CollectState) → CollectHas scalars x → AtHas scalars (collect_asks t x p)
  collect_asking t p collect_takes h = tt
  collect_asking t p (collect_opens q) h = tt
  collect_asking t p (collect_puts y ys) h = puts_here t.target y p h.0.regular
  collect_asking t p collect_closes h = tt
  collect_asking t p collect_ends h = tt

  collect_goes : (t : CollectPorts) (a : Tree) → IsValue scalars a → (x : CollectState) → CollectHas scalars x → NextHas (CollectHas scalars) (collect_next t a x)
  collect_goes t a i collect_takes h = next_choice (CollectHas scalars) (is_nil a) _ _ (next_choice (CollectHas scalars) t.closes (to collect_closes) (to collect_ends) tt tt) (needs (CollectHas scalars) (port_in a) _ (λ p. tt))
  collect_goes t a i (collect_opens p) h = needs_items (CollectHas scalars) a outputs_left i (λ vs k. left_has vs k)
  collect_goes t a i (collect_puts y ys) h = next_choice (CollectHas scalars) (truth a) (outputs_left ys) (to collect_ends) (left_has ys h.1) tt
  collect_goes t a i collect_closes h = tt
  collect_goes t a i collect_ends h = tt

  -- all of them
  pub system_asking : (b : SystemBody) → SystemHas scalars b → AtHas scalars (system_at b)
  system_asking (a_mult t p x) h = stands_has (MultHas scalars) p (mult_asks t) x (mult_asking t p) h
  system_asking (a_delivery d p x) h = stands_has (λ y. IsValue scalars d.value) p (deliver_asks d) x (λ y k. deliver_asking d p y h) (delivered x) where
    delivered : (x : Next DeliverState) → NextHas (λ y. IsValue scalars d.value) x
    delivered (to y) = h
    delivered stop = tt
    delivered (fail f) = tt
  system_asking (a_mix t p x) h = stands_has (MixHas scalars) p (mix_asks t) x (mix_asking t p) h
  system_asking (a_pub t p x) h = stands_has (PubHas scalars) p (pub_asks t) x (pub_asking t p) h.1
  system_asking (a_pipe t p x) h = stands_has (PipeHas scalars) p (pipe_asks t) x (pipe_asking t p) h
  system_asking (a_merge t p x) h = stands_has (MergeHas scalars) p (merge_asks t) x (merge_asking t p) h
  system_asking (an_onto t p x) h = stands_has (OntoHas scalars) p (onto_asks t) x (onto_asking t p) h
  system_asking (a_feed t p x) h = stands_has (FeedHas scalars) p (feed_asks t) x (feed_asking t p) h
  system_asking (a_job j w x) h = stands_has (JobHas scalars) w.place (job_asks j) x (job_asking j w.place) h.1
  system_asking (a_collect t p x) h = stands_has (CollectHas scalars) p (collect_asks t) x (collect_asking t p) h

  pub system_filled : (a : Tree) (b : SystemBody) → IsValue scalars a → SystemHas scalars b → SystemHas scalars (system_fill a b)
  system_filled a (a_mult t p x) i h = follows_has (MultHas scalars) (mult_next a) x (mult_goes a i) h
  system_filled a (a_delivery d p x) i h = h
  system_filled a (a_mix t p x) i h = follows_has (MixHas scalars) (mix_next t a) x (mix_goes t a i) h
  system_filled a (a_pub t p x) i h = (h.0, follows_has (PubHas scalars) (pub_next a) x (pub_goes a i) h.1)
  system_filled a (a_pipe t p x) i h = follows_has (PipeHas scalars) (pipe_next t a) x (pipe_goes t a i) h
  system_filled a (a_merge t p x) i h = follows_has (MergeHas scalars) (merge_next a) x (merge_goes a i) h
  system_filled a (an_onto t p x) i h = follows_has (OntoHas scalars) (onto_next t a) x (onto_goes t a i) h
  system_filled a (a_feed t p x) i h = follows_has (FeedHas scalars) (feed_next a) x (feed_goes a i) h
  system_filled a (a_job j w x) i h = (h.0, follows_has (JobHas scalars) (job_next a) x (job_goes a i) h.1)
  system_filled a (a_collect t p x) i h = follows_has (CollectHas scalars) (collect_next t a) x (collect_goes t a i) h

  pub new_system_has : (kind : SystemTask) (vs : Trees) (p : Place) → AreValues scalars vs → SystemHas scalars (new_system kind vs p)
  new_system_has Mult vs p h = tt
  new_system_has Deliver vs p h = third_is scalars vs h
  new_system_has Mix vs p h = tt
  new_system_has (Pub f) vs p h = (third_is scalars vs h, tt)
  new_system_has Pipe vs p h = tt
  new_system_has Merge vs p h = inputs_has (trees_in (first_of vs)) (all_inputs (first_of vs) (first_is scalars vs h))
  new_system_has Onto vs p h = items_has (record { target = port_of_value (first_of vs); closes = truth (third_of vs); result = port_of_value (fourth_of vs) }) (trees_in (second_of vs)) (trees_in_are (second_of vs) (second_is scalars vs h))
  new_system_has Feed vs p h = tt
  new_system_has (Job x f) vs p h = (second_is scalars vs h, tt)
  new_system_has Collect vs p h = tt

  -- what a function gives
  abbrev ReturnedHas : Returned → Type 0
  ReturnedHas (Ok v) = IsValue scalars v
  ReturnedHas (Err f) = Unit {0}

  returned_has : (a : At) → AtHas scalars a → ReturnedHas (returned_at a)
  returned_has (ended v) h = h
  returned_has (faulted f q) h = tt
  returned_has (at_op w) h = tt
  returned_has local h = tt
  returned_has nowhere h = tt

  builtin_has : (b : Builtin) (vs : Trees) (o : Outcome) → builtin_result b vs ≡ o → AreValues scalars vs → ReturnedHas (of_builtin o)
  builtin_has b vs (Ok v) e h = result_is_value scalars b vs v h e
  builtin_has b vs (Err f) e h = tt

  abbrev OutputsHave : Outputs → Type 0
  OutputsHave (outputs ys) = AreValues scalars ys
  OutputsHave (no_outputs f) = Unit {0}

  unless_nil : (ys : Trees) → AreValues scalars ys → OutputsHave (without_nil ys)
  unless_nil ys h = by (has_nil ys) where
    by : (b : Bool) → OutputsHave (cond b (no_outputs Fault.NilPut) (outputs ys))
    by true = tt
    by false = h

  items_have : (w : Tree) → IsValue scalars w → OutputsHave (items_output w)
  items_have (vector ys) h = unless_nil ys (trees_in_are (vector ys) h)
  items_have w h = tt

  outputs_have : (x : Transform) (v w : Tree) → IsValue scalars v → IsValue scalars w → OutputsHave (outputs_of x v w)
  outputs_have Map v w i j = unless_nil (one_of w) (j, tt)
  outputs_have Filter v w i j = unless_nil (cond (truth w) (one_of v) no_values) (fewer_are (truth w) (one_of v) no_values (i, tt) tt)
  outputs_have Mapcat v w i j = items_have w j

  outputs_given : (x : Transform) (v : Tree) (r : Returned) → IsValue scalars v → ReturnedHas r → OutputsHave (outputs_by x v r)
  outputs_given x v (Ok w) i h = outputs_have x v w i h
  outputs_given x v (Err f) i h = tt

  sorted_has : (v : Tree) (r : Returned) → IsValue scalars v → ReturnedHas r → NextHas (PubHas scalars) (sorted_by v r)
  sorted_has v (Ok topic) i h = (h, i)
  sorted_has v (Err f) i h = tt

  worked_has : (p : ℕ) (o : Outputs) → OutputsHave o → NextHas (JobHas scalars) (worked_by p o)
  worked_has p (outputs ys) h = h
  worked_has p (no_outputs f) h = tt

  module _ (program : ProgramView) (written : IsWritten scalars program) where
    applied_has : (f : PlainFunction) (keyword : Tree) (p : Place) (v : Tree) (r : Returned) → IsValue scalars keyword → IsValue scalars v → Applied program f keyword p v r → ReturnedHas r
    applied_has (PlainFunction.Defined n) keyword p v r k i x = subst ReturnedHas (sym x.2) (returned_has (at x.0) (at_has scalars x.0 (rested_has scalars program written {b = new_body (apply (Call n) (term (const v) no_terms) p)} {c = x.0} x.1.reached (tt, (i, tt)))))
    applied_has (PlainFunction.Builtin b) keyword p v r k i x = subst ReturnedHas (sym x) (builtin_has b (one_of v) (builtin_result b (one_of v)) refl (i, tt))
    applied_has PlainFunction.Keyword keyword p v r k i x = subst ReturnedHas (sym x) (builtin_has Builtin.Get (two_of v keyword) (builtin_result Builtin.Get (two_of v keyword)) refl (i, (k, tt)))

    same_has : (b c : SystemBody) → c ≡ b → SystemHas scalars b → SystemHas scalars c
    same_has b c e h = subst (SystemHas scalars) (sym e) h

    pub system_rested_has : (b c : SystemBody) → SystemHas scalars b → SystemRest program b c → SystemHas scalars c
    system_rested_has (a_pub t p (to (pub_sorts v))) c h x = same_has _ c x.2 (h.0, sorted_has v x.0 h.1 (applied_has t.topic t.keyword p v x.0 h.0 h.1 x.1))
    system_rested_has (a_job j w (to (job_works v q))) c h x = same_has _ c x.2 (h.0, worked_has q x.0 (subst OutputsHave (sym x.1.2) (outputs_given w.transform v x.1.0 h.1 (applied_has w.function w.keyword w.place v x.1.0 h.0 h.1 x.1.1))))
    system_rested_has b c h x = same_has b c x h
