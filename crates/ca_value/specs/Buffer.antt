-- What a channel keeps of the values that it accepts. (core.async API reference: `buffer`,
-- `dropping-buffer`, `sliding-buffer`, `promise-chan`.)
use Rattle.std.specs.Prelude.{ℕ, List, [], ◌∷◌, ◌++◌, length, Option, Some, None, Bool, true, false, cond, not, nat_le, slice_get}
use Rattle.ca_value.specs.Tree.{Tree}

pub data Policy : Type 0 where
  no_buffer : Policy
  fixed_buffer : Policy
  dropping_buffer : Policy
  sliding_buffer : Policy
  promise_buffer : Policy

abbrev pub is_promise : Policy → Bool
is_promise promise_buffer = true
is_promise no_buffer = false
is_promise fixed_buffer = false
is_promise dropping_buffer = false
is_promise sliding_buffer = false

abbrev pub is_full : ℕ → List Tree → Bool
is_full capacity held = nat_le capacity (length held)

-- a channel without a buffer has no room, a fixed buffer has room until it is full, the others always
abbrev pub room_by : Policy → Bool → Bool
room_by no_buffer full = false
room_by fixed_buffer full = not full
room_by dropping_buffer full = true
room_by sliding_buffer full = true
room_by promise_buffer full = true

abbrev pub without_first : List Tree → List Tree
without_first [] = []
without_first (v ∷ vs) = vs

abbrev pub only_first : List Tree → Tree → List Tree
only_first [] v = v ∷ []
only_first (w ∷ ws) v = w ∷ ws

abbrev pub keep_by : Policy → Bool → List Tree → Tree → List Tree
keep_by no_buffer full vs v = vs ++ v ∷ []
keep_by fixed_buffer full vs v = vs ++ v ∷ []
keep_by dropping_buffer full vs v = cond full vs (vs ++ v ∷ [])
keep_by sliding_buffer full vs v = cond full (without_first (vs ++ v ∷ [])) (vs ++ v ∷ [])
keep_by promise_buffer full vs v = only_first vs v

-- the list after a value was accepted: it stands last; a full dropping buffer drops it, a full sliding
-- buffer drops the oldest, and a promise keeps its first
abbrev pub keep : Policy → ℕ → List Tree → Tree → List Tree
keep policy capacity vs v = keep_by policy (is_full capacity vs) vs v

abbrev pub drop_by : Policy → Bool → List Tree → Tree → Option Tree
drop_by no_buffer full vs v = None
drop_by fixed_buffer full vs v = None
drop_by dropping_buffer full vs v = cond full (Some v) None
drop_by sliding_buffer full vs v = cond full (slice_get (vs ++ v ∷ []) 0) None
drop_by promise_buffer full [] v = None
drop_by promise_buffer full (w ∷ ws) v = Some v

-- the value that is dropped then
abbrev pub value_dropped : Policy → ℕ → List Tree → Tree → Option Tree
value_dropped policy capacity vs v = drop_by policy (is_full capacity vs) vs v

-- the list after its first value was given; a promise gives it ever after
abbrev pub give_first : Policy → List Tree → List Tree
give_first no_buffer vs = without_first vs
give_first fixed_buffer vs = without_first vs
give_first dropping_buffer vs = without_first vs
give_first sliding_buffer vs = without_first vs
give_first promise_buffer vs = vs

-- the value that leaves then; none leaves a promise
abbrev pub value_given : Policy → List Tree → Option Tree
value_given policy vs = cond (is_promise policy) None (slice_get vs 0)
