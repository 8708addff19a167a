-- A pipeline: its feed takes the values and queues a reply port for each, its jobs make the outputs and answer
-- there, and its collect takes the reply ports in order and passes the outputs on. (core.async API reference:
-- `pipeline`.)
use Rattle.std.specs.Prelude.{ℕ, Bool, cond}
use Rattle.ca_value.specs.Tree.{Tree, Trees, vector, port, none, item}
use Rattle.ca_term.specs.Operation.{fixed}
use Rattle.ca_meaning.specs.Operands.{is_nil, truth}
use Rattle.ca_meaning.specs.Asks.{Ask, ask_to_take, ask_to_put, ask_to_make, ask_to_close, applies, Next, to, stop, fail, needing, port_in, items_in, value_and_port, pair_of}
use Rattle.ca_meaning.specs.Applied.{Outputs, outputs, no_outputs}

-- the source, the jobs' channel, and the queue of reply ports
pub record FeedPorts : Type 0 where
  pub source : ℕ
  pub jobs : ℕ
  pub replies : ℕ

pub data FeedState : Type 0 where
  feed_takes : FeedState
  -- the value
  feed_makes : Tree → FeedState
  -- the value and its reply port
  feed_puts : Tree → ℕ → FeedState
  feed_queues : ℕ → FeedState
  feed_closes_jobs : FeedState
  feed_closes_replies : FeedState

abbrev pub feed_asks : FeedPorts → FeedState → Ask
feed_asks f feed_takes = ask_to_take f.source
feed_asks f (feed_makes v) = ask_to_make (fixed 1)
feed_asks f (feed_puts v p) = ask_to_put f.jobs (pair_of v (port p))
feed_asks f (feed_queues p) = ask_to_put f.replies (port p)
feed_asks f feed_closes_jobs = ask_to_close f.jobs
feed_asks f feed_closes_replies = ask_to_close f.replies

abbrev pub feed_next : Tree → FeedState → Next FeedState
feed_next a feed_takes = cond (is_nil a) (to feed_closes_jobs) (to (feed_makes a))
feed_next a (feed_makes v) = needing (port_in a) (λ p. to (feed_puts v p))
feed_next a (feed_puts v p) = to (feed_queues p)
feed_next a (feed_queues p) = to feed_takes
feed_next a feed_closes_jobs = to feed_closes_replies
feed_next a feed_closes_replies = stop

-- A job has one port, the jobs' channel.
pub data JobState : Type 0 where
  job_takes : JobState
  -- it makes the outputs of the value, for the reply port
  job_works : Tree → ℕ → JobState
  job_replies : ℕ → Trees → JobState

abbrev pub job_asks : ℕ → JobState → Ask
job_asks j job_takes = ask_to_take j
job_asks j (job_works v p) = applies
job_asks j (job_replies p ys) = ask_to_put p (vector ys)

abbrev pub job_next : Tree → JobState → Next JobState
job_next a job_takes = cond (is_nil a) stop (needing (value_and_port a) (λ c. to (job_works c.0 c.1)))
job_next a (job_works v p) = to (job_works v p)
job_next a (job_replies p ys) = to job_takes

-- where the outputs are made
abbrev pub worked_by : ℕ → Outputs → Next JobState
worked_by p (outputs ys) = to (job_replies p ys)
worked_by p (no_outputs f) = fail f

-- the queue of reply ports, the target, whether the target closes with the source, and the result port
pub record CollectPorts : Type 0 where
  pub replies : ℕ
  pub target : ℕ
  pub closes : Bool
  pub result : ℕ

pub data CollectState : Type 0 where
  collect_takes : CollectState
  -- the reply port
  collect_opens : ℕ → CollectState
  -- the output that is put, and those after it
  collect_puts : Tree → Trees → CollectState
  collect_closes : CollectState
  collect_ends : CollectState

abbrev pub outputs_left : Trees → Next CollectState
outputs_left none = to collect_takes
outputs_left (item y ys) = to (collect_puts y ys)

abbrev pub collect_asks : CollectPorts → CollectState → Ask
collect_asks c collect_takes = ask_to_take c.replies
collect_asks c (collect_opens p) = ask_to_take p
collect_asks c (collect_puts y ys) = ask_to_put c.target y
collect_asks c collect_closes = ask_to_close c.target
collect_asks c collect_ends = ask_to_close c.result

-- where the target is closed by somebody else, it ends at once
abbrev pub collect_next : CollectPorts → Tree → CollectState → Next CollectState
collect_next c a collect_takes = cond (is_nil a) (cond c.closes (to collect_closes) (to collect_ends)) (needing (port_in a) (λ p. to (collect_opens p)))
collect_next c a (collect_opens p) = needing (items_in a) outputs_left
collect_next c a (collect_puts y ys) = cond (truth a) (outputs_left ys) (to collect_ends)
collect_next c a collect_closes = to collect_ends
collect_next c a collect_ends = stop
