-- The tables of a feed, a collect and a mult.
use Rattle.std.proofs.Common.{◌≡◌, refl, Option, None}
use Rattle.ca_value.specs.Tree.{port, item}
use Rattle.ca_term.specs.declared.place.Place.{Place}
use Rattle.ca_term.specs.declared.fault.Fault.{Fault}
use Rattle.ca_term.specs.declared.head.RegisterName.TheVariants.{Taps}
use Rattle.ca_term.specs.declared.head.SystemTask.TheVariants.{Deliver}
use Rattle.ca_term.specs.Operation.{OpView, taking, putting, making, closing, registering, spawning, system, fixed}
use Rattle.ca_term.specs.Program.{ProgramView}
use Rattle.ca_meaning.specs.Body.{asking}
use Rattle.ca_meaning.specs.Asks.{Next, too_large_here, pair_of, one_of, two_of}
use Rattle.ca_meaning.specs.MultTable.{MultPorts, MultState, mult_takes, mult_reads, mult_spawns, mult_waits, mult_reads_last, mult_closes, mult_asks, mult_next}
use Rattle.ca_meaning.specs.PipelineTable.{FeedPorts, FeedState, feed_takes, feed_makes, feed_puts, feed_queues, feed_closes_jobs, feed_closes_replies, feed_asks, feed_next, CollectPorts, CollectState, collect_takes, collect_opens, collect_puts, collect_closes, collect_ends, collect_asks, collect_next}
use Rattle.ca_meaning.specs.System.{SystemBody, a_mult, a_feed, a_collect}
use Rattle.ca_laws.proofs.Tables.{stands_only}
use Rattle.ca_networks.proofs.Standing.{Table}

module _ (f : FeedPorts) (place : Place) where
  abbrev pub feed_body : Next FeedState → SystemBody
  feed_body n = a_feed f place n

  abbrev pub feed_op : FeedState → OpView
  feed_op feed_takes = taking (port f.source)
  feed_op (feed_makes v) = making (fixed 1)
  feed_op (feed_puts v p) = putting (port f.jobs) (pair_of v (port p))
  feed_op (feed_queues p) = putting (port f.replies) (port p)
  feed_op feed_closes_jobs = closing (port f.jobs)
  feed_op feed_closes_replies = closing (port f.replies)

  abbrev feed_fault : FeedState → Option Fault
  feed_fault feed_takes = None
  feed_fault (feed_makes v) = None
  feed_fault (feed_puts v p) = too_large_here (pair_of v (port p))
  feed_fault (feed_queues p) = too_large_here (port p)
  feed_fault feed_closes_jobs = None
  feed_fault feed_closes_replies = None

  feed_rows : (s : FeedState) → feed_asks f s place ≡ asking place (feed_fault s) (feed_op s)
  feed_rows feed_takes = refl
  feed_rows (feed_makes v) = refl
  feed_rows (feed_puts v p) = refl
  feed_rows (feed_queues p) = refl
  feed_rows feed_closes_jobs = refl
  feed_rows feed_closes_replies = refl

  pub feed_table : (program : ProgramView) → Table program feed_body feed_op feed_next
  feed_table program = record { only = λ n op at. stands_only place (feed_asks f) feed_op feed_fault feed_rows n op at.0 at.1; fills = λ x a c r. r }

module _ (c : CollectPorts) (place : Place) where
  abbrev pub collect_body : Next CollectState → SystemBody
  collect_body n = a_collect c place n

  abbrev pub collect_op : CollectState → OpView
  collect_op collect_takes = taking (port c.replies)
  collect_op (collect_opens p) = taking (port p)
  collect_op (collect_puts y ys) = putting (port c.target) y
  collect_op collect_closes = closing (port c.target)
  collect_op collect_ends = closing (port c.result)

  abbrev collect_fault : CollectState → Option Fault
  collect_fault collect_takes = None
  collect_fault (collect_opens p) = None
  collect_fault (collect_puts y ys) = too_large_here y
  collect_fault collect_closes = None
  collect_fault collect_ends = None

  collect_rows : (s : CollectState) → collect_asks c s place ≡ asking place (collect_fault s) (collect_op s)
  collect_rows collect_takes = refl
  collect_rows (collect_opens p) = refl
  collect_rows (collect_puts y ys) = refl
  collect_rows collect_closes = refl
  collect_rows collect_ends = refl

  pub collect_table : (program : ProgramView) → Table program collect_body collect_op (collect_next c)
  collect_table program = record { only = λ n op at. stands_only place (collect_asks c) collect_op collect_fault collect_rows n op at.0 at.1; fills = λ x a b r. r }

module _ (x : MultPorts) (place : Place) where
  abbrev pub mult_body : Next MultState → SystemBody
  mult_body n = a_mult x place n

  abbrev pub mult_op : MultState → OpView
  mult_op mult_takes = taking (port x.source)
  mult_op (mult_reads v) = registering Taps (one_of (port x.mult))
  mult_op (mult_spawns v tap taps n) = spawning (system Deliver (item (port x.mult) (item (port tap.channel) (two_of v (port x.acks)))) place)
  mult_op (mult_waits n) = taking (port x.acks)
  mult_op mult_reads_last = registering Taps (one_of (port x.mult))
  mult_op (mult_closes c cs) = closing (port c)

  mult_rows : (s : MultState) → mult_asks x s place ≡ asking place None (mult_op s)
  mult_rows mult_takes = refl
  mult_rows (mult_reads v) = refl
  mult_rows (mult_spawns v tap taps n) = refl
  mult_rows (mult_waits n) = refl
  mult_rows mult_reads_last = refl
  mult_rows (mult_closes c cs) = refl

  pub mult_table : (program : ProgramView) → Table program mult_body mult_op mult_next
  mult_table program = record { only = λ n op at. stands_only place (mult_asks x) mult_op (λ s. None) mult_rows n op at.0 at.1; fills = λ s a c r. r }
