-- How a queue of deadlines is stored.
use Rattle.std.specs.Prelude.{ℕ, ◌+◌, ◌-◌, ◌≤◌, ◌++◌, length, map, vec_len, vec_capacity}
use Rattle.std.specs.VecDeque.{deque_len, deque_capacity}
use Rattle.ca_timers.specs.Timers.{AreOrdered, deadline_view}
use Rattle.ca_timers.specs.Queue.{QueueView}
use Rattle.ca_timers.specs.declared.queue.DeadlineQueue.TheInside.{Inside}

abbrev pub queue_view : Inside → QueueView
queue_view q = record { deadlines = q.tree.deadlines ++ map deadline_view q.row.items; spare = vec_len q.unused - deque_len q.row }

-- how many nodes there are
abbrev pub nodes : Inside → ℕ
nodes q = vec_len q.unused + length q.tree.deadlines

-- the deadlines are in order, each of the row has a node, and all nodes fit among the unused ones and their deadlines in the row
pub record IsQueue (q : Inside) : Type 0 where
  pub ordered : AreOrdered (queue_view q).deadlines
  pub row : deque_len q.row ≤ vec_len q.unused
  pub unused : nodes q ≤ vec_capacity q.unused
  pub places : nodes q ≤ deque_capacity q.row
