-- A channel. (core.async API reference: `chan`, `close!`.)
use Rattle.std.specs.Prelude.{◌≡◌, ℕ, ◌<◌, zero, suc, List, [], Option, Some, None, Bool, true, false}
use Rattle.ca_value.specs.Tree.{Tree}
pub use Rattle.ca_value.specs.Buffer.{is_promise}
use Rattle.ca_value.specs.Buffer.{Policy, no_buffer, fixed_buffer, dropping_buffer, sliding_buffer, promise_buffer, is_full, room_by, keep, give_first}
use Rattle.ca_term.specs.Operation.{WhatView, unbuffered, fixed, dropping, sliding, promise, timeout, mult, mix, publication}

pub record Channel : Type 0 where
  pub policy : Policy
  pub capacity : ℕ
  -- the oldest first
  pub held : List Tree
  pub closed : Bool

abbrev pub has_room : Channel → Bool
has_room c = room_by c.policy (is_full c.capacity c.held)

-- the channel after it accepted the value
abbrev pub keeping : Channel → Tree → Channel
keeping c v = record c { held = keep c.policy c.capacity c.held v }

-- the channel after it gave its first value
abbrev pub giving : Channel → Channel
giving c = record c { held = give_first c.policy c.held }

-- closed; what it holds stays
abbrev pub shut : Channel → Channel
shut c = record c { closed = true }

abbrev pub is_fixed : Policy → Bool
is_fixed fixed_buffer = true
is_fixed no_buffer = false
is_fixed dropping_buffer = false
is_fixed sliding_buffer = false
is_fixed promise_buffer = false

abbrev pub new_channel : Policy → ℕ → Channel
new_channel policy n = record { policy = policy; capacity = n; held = []; closed = false }

-- a buffer of 0 is none
abbrev pub with_buffer : Policy → ℕ → Channel
with_buffer policy zero = new_channel no_buffer 0
with_buffer policy (suc n) = new_channel policy (suc n)

-- the new channel, where what is made is one; a timeout is a channel without a buffer
abbrev pub channel_made : WhatView → Option Channel
channel_made unbuffered = Some (new_channel no_buffer 0)
channel_made (fixed n) = Some (with_buffer fixed_buffer n)
channel_made (dropping n) = Some (with_buffer dropping_buffer n)
channel_made (sliding n) = Some (with_buffer sliding_buffer n)
channel_made promise = Some (new_channel promise_buffer 1)
channel_made (timeout n) = Some (new_channel no_buffer 0)
channel_made (mult source) = None
channel_made (mix out changes) = None
channel_made (publication source) = None

-- which capacities go with a policy
abbrev pub FitsPolicy : Policy → ℕ → Type 0
FitsPolicy no_buffer n = n ≡ 0
FitsPolicy fixed_buffer n = 0 < n
FitsPolicy dropping_buffer n = 0 < n
FitsPolicy sliding_buffer n = 0 < n
FitsPolicy promise_buffer n = n ≡ 1
