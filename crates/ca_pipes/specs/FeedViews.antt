-- Which body of the meaning a `Feed` is.
use Rattle.ca_value.specs.View.{view}
use Rattle.ca_term.specs.declared.place.Place.{Place}
use Rattle.ca_meaning.specs.PipelineTable.{FeedPorts, FeedState, feed_takes, feed_makes, feed_puts, feed_queues, feed_closes_jobs, feed_closes_replies}
use Rattle.ca_meaning.specs.System.{SystemBody, a_feed}
use Rattle.ca_system.specs.Stands.{next_view}
use Rattle.ca_system.specs.declared.stand.Next.{Next}
use Rattle.ca_pipes.specs.declared.feed.Ports.{Ports}
use Rattle.ca_pipes.specs.declared.feed.State.{State}
use Rattle.ca_pipes.specs.declared.feed.State.TheVariants.{Takes, Makes, Puts, Queues, ClosesJobs, ClosesReplies}

abbrev pub feed_ports_view : Ports → FeedPorts
feed_ports_view f = record { source = f.source.n; jobs = f.jobs.n; replies = f.replies.n }

abbrev pub feed_state : State → FeedState
feed_state Takes = feed_takes
feed_state (Makes v) = feed_makes (view v)
feed_state (Puts v p) = feed_puts (view v) p.n
feed_state (Queues p) = feed_queues p.n
feed_state ClosesJobs = feed_closes_jobs
feed_state ClosesReplies = feed_closes_replies

abbrev pub feed_body : Ports → Place → Next State → SystemBody
feed_body k p x = a_feed (feed_ports_view k) p (next_view feed_state x)
