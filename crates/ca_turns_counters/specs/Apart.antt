-- No event adds to a counter twice.
use Rattle.std.proofs.Common.{arith}
use Rattle.ca_turns.specs.Places.{IsDistinct}
use Rattle.ca_turns_counters.specs.declared.counters.Event.{Event}
use Rattle.ca_turns_counters.specs.declared.counters.Event.TheVariants.{One, Pair}
use Rattle.ca_turns_counters.specs.Adding.{counters_added}

pub added_distinct : (e : Event) → IsDistinct (counters_added e)
added_distinct (One p) = (tt, tt)
added_distinct (Pair p) = (((λ e. omega arith), tt), (tt, tt))
