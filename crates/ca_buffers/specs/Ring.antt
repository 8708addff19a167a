-- What a ring of values shows.
use Rattle.std.specs.Prelude.{ℕ, ◌-◌, List, map}
use Rattle.std.specs.VecDeque.{deque_len, deque_capacity}
use Rattle.ca_value.specs.Tree.{Tree}
use Rattle.ca_value.specs.View.{view}
use Rattle.ca_buffers.specs.declared.ring.Ring.{Ring}

-- the oldest first
abbrev pub ring_values : Ring → List Tree
ring_values r = map view r.values.items

abbrev pub ring_capacity : Ring → ℕ
ring_capacity r = r.capacity

-- how many more values fit with no growth
abbrev pub ring_spare : Ring → ℕ
ring_spare r = deque_capacity r.values - deque_len r.values
