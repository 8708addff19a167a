-- What a channel in its bank shows.
use Rattle.std.specs.Prelude.{ℕ, ◌-◌, [], Option, Some, None, Bool, map}
use Rattle.std.specs.VecDeque.{deque_len, deque_capacity}
use Rattle.ca_value.specs.Tree.{Tree, nil}
use Rattle.ca_value.specs.View.{view}
use Rattle.ca_value.specs.Buffer.{no_buffer}
use Rattle.ca_value.specs.declared.value.Value.{Value}
use Rattle.ca_meaning.specs.Channel.{Channel}
use Rattle.ca_meaning.specs.Wait.{Handler as HandlerView}
use Rattle.ca_buffers.specs.declared.any.AnyBuffer.{AnyBuffer}
use Rattle.ca_buffers.specs.AnyBuffer.{any_policy, any_capacity, any_held, any_spare}
use Rattle.ca_bank.specs.Kept.{Kept, Spares, Buffered}
use Rattle.ca_bank.specs.declared.handler.Handler.{Handler}
use Rattle.ca_bank.specs.declared.room.Room.{Room}

-- a take brings nil
abbrev pub brought_by : Option Value → Tree
brought_by None = nil
brought_by (Some v) = view v

abbrev pub handler_view : Handler → HandlerView
handler_view h = record { wait = h.wait.n; branch = h.branch; value = brought_by h.value }

abbrev pub channel_with : Option AnyBuffer → Bool → Channel
channel_with None closed = record { policy = no_buffer; capacity = 0; held = []; closed = closed }
channel_with (Some b) closed = record { policy = any_policy b; capacity = any_capacity b; held = any_held b; closed = closed }

abbrev pub spare_of : Option AnyBuffer → ℕ
spare_of None = 0
spare_of (Some b) = any_spare b

abbrev pub room_buffered : AnyBuffer → Buffered
room_buffered b = record { policy = any_policy b; capacity = any_capacity b; held = any_held b }

abbrev pub kept_view : Room → Kept
kept_view r = record { channel = channel_with r.buffer r.closed; takes = map handler_view r.takes.items; puts = map handler_view r.puts.items }

abbrev pub spares_view : Room → Spares
spares_view r = record { takes = deque_capacity r.takes - deque_len r.takes; puts = deque_capacity r.puts - deque_len r.puts; buffer = spare_of r.buffer }
