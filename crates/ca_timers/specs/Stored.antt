-- How timers are stored.
use Rattle.std.specs.Prelude.{◌≡◌, Option, Some, None, cond, option_map, slice_get}
use Rattle.ca_value.specs.Deadlines.{Deadline, is_before}
use Rattle.ca_timers.specs.Timers.{TimersView, AreOrdered, deadline_view}
use Rattle.ca_timers.specs.declared.timers.Timers.TheInside.{Inside}

abbrev pub timers_view : Inside → TimersView
timers_view t = record { deadlines = t.queue.deadlines; moment = t.moment; spare = t.queue.spare }

-- the deadlines are in order, and the first one is kept
abbrev pub IsStored : Inside → Type 0
IsStored t = AreOrdered t.queue.deadlines × (option_map deadline_view t.first ≡ slice_get t.queue.deadlines 0)

-- the earlier of two deadlines, the other where none stood there
abbrev pub earlier_deadline : Option Deadline → Deadline → Deadline
earlier_deadline None d = d
earlier_deadline (Some e) d = cond (is_before d e) d e
