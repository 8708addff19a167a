use Rattle.std.proofs.Common.{◌≡◌, ◌+◌, ◌++◌, map, vec_len, vec_capacity}
use Rattle.std.specs.VecDeque.{deque_len, deque_capacity}
use Rattle.ca_timers.specs.Timers.{deadline_view}
use Rattle.ca_timers.proofs.queue.pour.Given as goal

abbrev pub invariant-loop-first : goal.invariant-loop-first
invariant-loop-first l = record {
  same : l.tree.deadlines ++ map deadline_view l.row.items ≡ l.fn.tree.deadlines ++ map deadline_view l.fn.row.items;
  unused : vec_len l.unused + deque_len l.fn.row ≡ vec_len l.fn.unused + deque_len l.row;
  capacity : vec_capacity l.unused ≡ vec_capacity l.fn.unused;
  row : deque_capacity l.row ≡ deque_capacity l.fn.row;
}

abbrev pub decreases-loop-first : goal.decreases-loop-first
decreases-loop-first l = deque_len l.row
