-- A channel with its queues, as plain data, and what changes it.
use Rattle.std.specs.Prelude.{ℕ, suc, List, [], ◌∷◌, ◌++◌, Option, option_map, Bool, false, not, cond, eqb, filter, drop, nat_eq}
use Rattle.indexmap.specs.IndexMap.{get, IndexMap}
use Rattle.ca_value.specs.Tree.{Tree}
use Rattle.ca_term.specs.declared.event.Side.{Side}
use Rattle.ca_term.specs.declared.event.Side.TheVariants.{Take, Put}
use Rattle.ca_term.specs.Event.{BranchView, take_of, put_of}
use Rattle.ca_meaning.specs.Channel.{Channel, keeping, giving}
use Rattle.ca_meaning.specs.Wait.{Handler, side_of, port_of, brought}
use Rattle.ca_replay.specs.Changes.{mapped_at}
use Rattle.ca_scene.specs.declared.room.Room.{Room}
use Rattle.ca_scene.specs.Scene.{room_channel, room_queue}

pub record RoomView : Type 0 where
  pub channel : Channel
  pub takes : List Handler
  pub puts : List Handler

abbrev pub side_queue : Side → RoomView → List Handler
side_queue Take k = k.takes
side_queue Put k = k.puts

abbrev pub put_on_room : Side → List Handler → RoomView → RoomView
put_on_room Take q k = record { channel = k.channel; takes = q; puts = k.puts }
put_on_room Put q k = record { channel = k.channel; takes = k.takes; puts = q }

abbrev pub room_view : Room → RoomView
room_view r = record { channel = room_channel r; takes = room_queue Take r; puts = room_queue Put r }

-- the channels of a table
abbrev pub rooms_kept : {S : Type 0} → IndexMap ℕ Room S → ℕ → Option RoomView
rooms_kept m p = option_map room_view (get nat_eq m p)

-- The channel itself changes, and its queues stay.
abbrev pub by_channel : (Channel → Channel) → RoomView → RoomView
by_channel f k = record { channel = f k.channel; takes = k.takes; puts = k.puts }

-- a closed channel takes no value
abbrev pub accepting : Channel → Tree → Channel
accepting c v = cond c.closed c (keeping c v)

-- what a branch that is done at once makes of its channel
abbrev pub done_by : BranchView → Channel → Channel
done_by (take_of p) c = giving c
done_by (put_of p v) c = accepting c v

-- what a channel that serves a branch with a value makes of itself
abbrev pub served_by : Side → Tree → Channel → Channel
served_by Take v c = giving c
served_by Put v c = keeping c v

-- Waits leave and join the queues.
abbrev pub others : ℕ → Handler → Bool
others w h = not (eqb w h.wait)

-- the first one of the queue is of wait w
abbrev pub starts_with : ℕ → List Handler → Bool
starts_with w [] = false
starts_with w (h ∷ q) = eqb w h.wait

-- the queue that wait w left: its first one is gone where that is of w, else all of w are
abbrev pub queue_after_leaving : ℕ → List Handler → List Handler
queue_after_leaving w q = cond (starts_with w q) (drop 1 q) (filter (others w) q)

-- wait w leaves the queue of that side
abbrev pub leave : Side → ℕ → RoomView → RoomView
leave side w k = put_on_room side (queue_after_leaving w (side_queue side k)) k

-- wait w leaves the queues of its branches
abbrev pub leave_all : ℕ → List BranchView → (ℕ → Option RoomView) → ℕ → Option RoomView
leave_all w [] m = m
leave_all w (b ∷ bs) m = leave_all w bs (mapped_at m (port_of b) (leave (side_of b) w))

-- the last one of the queue is of wait w
abbrev pub ends_with : ℕ → List Handler → Bool
ends_with w [] = false
ends_with w (h ∷ []) = eqb w h.wait
ends_with w (h ∷ (g ∷ q)) = ends_with w (g ∷ q)

-- the handler joins, where its wait doesn't stand there already, which is last
abbrev pub handler_joined : Handler → List Handler → List Handler
handler_joined h q = cond (ends_with h.wait q) q (q ++ h ∷ [])

abbrev pub join : Side → Handler → RoomView → RoomView
join side h k = put_on_room side (handler_joined h (side_queue side k)) k

-- wait w joins the queues of its branches, which are numbered from k on
abbrev pub join_rooms : ℕ → ℕ → List BranchView → (ℕ → Option RoomView) → ℕ → Option RoomView
join_rooms w k [] m = m
join_rooms w k (b ∷ bs) m = join_rooms w (suc k) bs (mapped_at m (port_of b) (join (side_of b) (record { wait = w; branch = k; value = brought b })))
