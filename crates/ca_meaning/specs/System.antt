-- The tasks that the library starts for itself. Each is a table of states: of a state a row says what the task asks
-- for, and what follows on the answer. (core.async API reference: `mult`, `mix`, `pub`, `pipe`, `merge`,
-- `onto-chan!`, `pipeline`.)
use Rattle.std.specs.Prelude.{◌≡◌, ℕ}
use Rattle.ca_value.specs.Tree.{Tree, Trees}
use Rattle.ca_term.specs.declared.place.Place.{Place}
use Rattle.ca_term.specs.declared.head.SystemTask.{SystemTask}
use Rattle.ca_term.specs.Program.{ProgramView}
use Rattle.ca_meaning.specs.Operands.{port_of_value, truth, first_of, second_of, third_of, rest_of}
use Rattle.ca_meaning.specs.Body.{At}
use Rattle.ca_meaning.specs.Asks.{Next, to, stands_at, follows, trees_in}
use Rattle.ca_meaning.specs.Applied.{Returned, Applied, Work, Outputs, Outs}
use Rattle.ca_meaning.specs.MultTable.{MultPorts, MultState, mult_takes, mult_asks, mult_next, Delivery, DeliverState, deliver_puts, deliver_asks, deliver_next}
use Rattle.ca_meaning.specs.MixTable.{MixPorts, MixState, mix_reads, mix_asks, mix_next}
use Rattle.ca_meaning.specs.PubTable.{PubPorts, PubState, pub_takes, pub_sorts, pub_asks, pub_next, sorted_by}
use Rattle.ca_meaning.specs.PipeTable.{PipePorts, PipeState, pipe_takes, pipe_asks, pipe_next, MergeState, inputs_left, merge_asks, merge_next, OntoPorts, OntoState, items_left, onto_asks, onto_next}
use Rattle.ca_meaning.specs.PipelineTable.{FeedPorts, FeedState, feed_takes, feed_asks, feed_next, JobState, job_takes, job_works, job_asks, job_next, worked_by, CollectPorts, CollectState, collect_takes, collect_asks, collect_next}

-- its ports and values, which never change, the place of the form that started it, and its state
pub data SystemBody : Type 0 where
  a_mult : MultPorts → Place → Next MultState → SystemBody
  a_delivery : Delivery → Place → Next DeliverState → SystemBody
  a_mix : MixPorts → Place → Next MixState → SystemBody
  a_pub : PubPorts → Place → Next PubState → SystemBody
  a_pipe : PipePorts → Place → Next PipeState → SystemBody
  -- its output
  a_merge : ℕ → Place → Next MergeState → SystemBody
  an_onto : OntoPorts → Place → Next OntoState → SystemBody
  a_feed : FeedPorts → Place → Next FeedState → SystemBody
  -- the jobs' channel, and what is done, with its place
  a_job : ℕ → Work → Next JobState → SystemBody
  a_collect : CollectPorts → Place → Next CollectState → SystemBody

abbrev pub fourth_of : Trees → Tree
fourth_of vs = third_of (rest_of vs)

-- the first state of the table, with the values in the order in which the form has them
abbrev pub new_system : SystemTask → Trees → Place → SystemBody
new_system SystemTask.Mult vs p = a_mult (record { mult = port_of_value (first_of vs); source = port_of_value (second_of vs); acks = port_of_value (third_of vs) }) p (to mult_takes)
new_system SystemTask.Deliver vs p = a_delivery (record { mult = port_of_value (first_of vs); channel = port_of_value (second_of vs); value = third_of vs; acks = port_of_value (fourth_of vs) }) p (to deliver_puts)
new_system SystemTask.Mix vs p = a_mix (record { mix = port_of_value (first_of vs); out = port_of_value (second_of vs); changes = port_of_value (third_of vs) }) p (to mix_reads)
new_system (SystemTask.Pub f) vs p = a_pub (record { publication = port_of_value (first_of vs); source = port_of_value (second_of vs); topic = f; keyword = third_of vs }) p (to pub_takes)
new_system SystemTask.Pipe vs p = a_pipe (record { source = port_of_value (first_of vs); target = port_of_value (second_of vs); closes = truth (third_of vs) }) p (to pipe_takes)
new_system SystemTask.Merge vs p = a_merge (port_of_value (second_of vs)) p (inputs_left (trees_in (first_of vs)))
new_system SystemTask.Onto vs p =
    let o : OntoPorts = record { target = port_of_value (first_of vs); closes = truth (third_of vs); result = port_of_value (fourth_of vs) } in
    an_onto o p (items_left o (trees_in (second_of vs)))
new_system SystemTask.Feed vs p = a_feed (record { source = port_of_value (first_of vs); jobs = port_of_value (second_of vs); replies = port_of_value (third_of vs) }) p (to feed_takes)
new_system (SystemTask.Job x f) vs p = a_job (port_of_value (first_of vs)) (record { transform = x; function = f; keyword = second_of vs; place = p }) (to job_takes)
new_system SystemTask.Collect vs p = a_collect (record { replies = port_of_value (first_of vs); target = port_of_value (second_of vs); closes = truth (third_of vs); result = port_of_value (fourth_of vs) }) p (to collect_takes)

abbrev pub system_at : SystemBody → At
system_at (a_mult t p x) = stands_at p (mult_asks t) x
system_at (a_delivery t p x) = stands_at p (deliver_asks t) x
system_at (a_mix t p x) = stands_at p (mix_asks t) x
system_at (a_pub t p x) = stands_at p (pub_asks t) x
system_at (a_pipe t p x) = stands_at p (pipe_asks t) x
system_at (a_merge t p x) = stands_at p (merge_asks t) x
system_at (an_onto t p x) = stands_at p (onto_asks t) x
system_at (a_feed t p x) = stands_at p (feed_asks t) x
system_at (a_job j w x) = stands_at w.place (job_asks j) x
system_at (a_collect t p x) = stands_at p (collect_asks t) x

abbrev pub system_fill : Tree → SystemBody → SystemBody
system_fill a (a_mult t p x) = a_mult t p (follows (mult_next a) x)
system_fill a (a_delivery t p x) = a_delivery t p (follows (deliver_next a) x)
system_fill a (a_mix t p x) = a_mix t p (follows (mix_next t a) x)
system_fill a (a_pub t p x) = a_pub t p (follows (pub_next a) x)
system_fill a (a_pipe t p x) = a_pipe t p (follows (pipe_next t a) x)
system_fill a (a_merge t p x) = a_merge t p (follows (merge_next a) x)
system_fill a (an_onto t p x) = an_onto t p (follows (onto_next t a) x)
system_fill a (a_feed t p x) = a_feed t p (follows (feed_next a) x)
system_fill a (a_job j w x) = a_job j w (follows (job_next a) x)
system_fill a (a_collect t p x) = a_collect t p (follows (collect_next t a) x)

-- c is b after all that b does between two operations: a publication makes the topic of its value, a job the outputs
-- of its, and the others do nothing. It is a relation, since functions of the program are called.
abbrev pub SystemRest : ProgramView → SystemBody → SystemBody → Type 0
SystemRest program (a_pub t p (to (pub_sorts v))) c = (r : Returned) × Applied program t.topic t.keyword p v r × (c ≡ a_pub t p (sorted_by v r))
SystemRest program (a_job j w (to (job_works v r))) c = (o : Outputs) × Outs program w v o × (c ≡ a_job j w (worked_by r o))
SystemRest program b c = c ≡ b
