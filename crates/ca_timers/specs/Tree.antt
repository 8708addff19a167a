-- What a tree of deadlines shows.
use Rattle.std.specs.Prelude.{ℕ, List}
use Rattle.ca_value.specs.Deadlines.{Deadline}

-- the deadlines in a row, and how many levels they stand in
pub record TreeView : Type 0 where
  pub deadlines : List Deadline
  pub height : ℕ
