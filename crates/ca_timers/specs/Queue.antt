-- What a queue of deadlines shows.
use Rattle.std.specs.Prelude.{ℕ, List}
use Rattle.ca_value.specs.Deadlines.{Deadline}

-- the deadlines in order, and how many more fit with no growth
pub record QueueView : Type 0 where
  pub deadlines : List Deadline
  pub spare : ℕ
