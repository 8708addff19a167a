-- A channel as it stands in its bank: with a queue for each side, whose handlers may be stale.
use Rattle.std.specs.Prelude.{ℕ, ◌-◌, List, [], ◌++◌, ◌∷◌, Option, Some, None, option_map, Bool, false, eqb, remove}
use Rattle.std.specs.Map.{update}
use Rattle.ca_value.specs.Tree.{Tree}
use Rattle.ca_value.specs.Buffer.{Policy, no_buffer, fixed_buffer, dropping_buffer, sliding_buffer, promise_buffer, value_dropped, value_given}
use Rattle.ca_term.specs.declared.event.Side.{Side}
use Rattle.ca_term.specs.declared.event.Side.TheVariants.{Take, Put}
use Rattle.ca_meaning.specs.Channel.{Channel, shut, keeping, giving, has_room}
use Rattle.ca_meaning.specs.Wait.{Handler}

pub record Kept : Type 0 where
  pub channel : Channel
  pub takes : List Handler
  pub puts : List Handler

abbrev pub on : Side → Kept → List Handler
on Take k = k.takes
on Put k = k.puts

abbrev pub put_on : Side → List Handler → Kept → Kept
put_on Take q k = record { channel = k.channel; takes = q; puts = k.puts }
put_on Put q k = record { channel = k.channel; takes = k.takes; puts = q }

-- a new channel, where nothing waits
abbrev pub unattended : Channel → Kept
unattended c = record { channel = c; takes = []; puts = [] }

-- the map with f done at p
abbrev pub entry_changed : {X : Type 0} → (ℕ → Option X) → ℕ → (X → X) → ℕ → Option X
entry_changed m p f q = update eqb m p (option_map f (m p)) q

-- the handler stands last on its side
abbrev pub enqueued : Side → Handler → Kept → Kept
enqueued side h k = put_on side (on side k ++ h ∷ []) k

-- the handler at that place is gone, if there is one
abbrev pub pruned : Side → ℕ → Kept → Kept
pruned side place k = put_on side (remove (on side k) place) k

abbrev pub closed_channel : Kept → Kept
closed_channel k = record k { channel = shut k.channel }

-- the channel after its buffer got a value, and after it gave one
abbrev pub added : Tree → Kept → Kept
added v k = record k { channel = keeping k.channel v }

abbrev pub removed : Kept → Kept
removed k = record k { channel = giving k.channel }

-- the queue of one side; there is none where there is no channel
abbrev pub queue_at : Side → Option Kept → List Handler
queue_at side None = []
queue_at side (Some k) = on side k

abbrev pub is_closed_at : Option Kept → Bool
is_closed_at None = false
is_closed_at (Some k) = k.channel.closed

-- whether the channel has a buffer that takes one more value
abbrev pub takes_one_more : Option Kept → Bool
takes_one_more None = false
takes_one_more (Some k) = has_room k.channel

-- the value that is dropped where the buffer gets this one
abbrev pub dropped_at : Option Kept → Tree → Option Tree
dropped_at None v = None
dropped_at (Some k) v = value_dropped k.channel.policy k.channel.capacity k.channel.held v

-- the value that leaves the buffer
abbrev pub given_at : Option Kept → Option Tree
given_at None = None
given_at (Some k) = value_given k.channel.policy k.channel.held

-- what a buffer is: its policy, its capacity and its values
pub record Buffered : Type 0 where
  pub policy : Policy
  pub capacity : ℕ
  pub held : List Tree

abbrev pub buffered_by : Policy → ℕ → List Tree → Option Buffered
buffered_by no_buffer n vs = None
buffered_by fixed_buffer n vs = Some (record { policy = fixed_buffer; capacity = n; held = vs })
buffered_by dropping_buffer n vs = Some (record { policy = dropping_buffer; capacity = n; held = vs })
buffered_by sliding_buffer n vs = Some (record { policy = sliding_buffer; capacity = n; held = vs })
buffered_by promise_buffer n vs = Some (record { policy = promise_buffer; capacity = n; held = vs })

-- None where the channel has no buffer
abbrev pub buffer_at : Option Kept → Option Buffered
buffer_at None = None
buffer_at (Some k) = buffered_by k.channel.policy k.channel.capacity k.channel.held

-- how many more handlers each queue has room for, and how many values the buffer, with no growth
pub record Spares : Type 0 where
  pub takes : ℕ
  pub puts : ℕ
  pub buffer : ℕ

abbrev pub spare_on : Side → Spares → ℕ
spare_on Take x = x.takes
spare_on Put x = x.puts

abbrev pub spare_put_on : Side → ℕ → Spares → Spares
spare_put_on Take n x = record x { takes = n }
spare_put_on Put n x = record x { puts = n }

-- the room after one more handler joined
abbrev pub one_less : Side → Spares → Spares
one_less side x = spare_put_on side (spare_on side x - 1) x

abbrev pub spare_in_buffer : ℕ → Spares → Spares
spare_in_buffer n x = record x { buffer = n }

-- no channel, no room
abbrev pub queue_spare : Side → Option Spares → ℕ
queue_spare side None = 0
queue_spare side (Some x) = spare_on side x

abbrev pub buffer_spare : Option Spares → ℕ
buffer_spare None = 0
buffer_spare (Some x) = x.buffer
