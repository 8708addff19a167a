-- When the channels and waits of any number of banks and shards stand for those of a state. Handlers may be
-- stale: their waits are gone, and so they count for nothing.
use Rattle.std.specs.Prelude.{◌≡◌, ℕ, ◌+◌, List, [], ◌∷◌, ◌++◌, Option, Some, None, option_map, Bool, true, false, not, ◌&&◌, eqb, cond, filter}
use Rattle.ca_value.specs.Tree.{Tree}
use Rattle.ca_term.specs.declared.event.Side.{Side}
use Rattle.ca_term.specs.declared.event.Side.TheVariants.{Take, Put}
use Rattle.ca_term.specs.Event.{BranchView, take_of, put_of}
use Rattle.ca_meaning.specs.Channel.{Channel, has_room, is_promise, is_fixed}
use Rattle.ca_meaning.specs.Wait.{Wait, Handler, port_of, queue, handlers, head, front, without, is_live, is_among, pending}
use Rattle.ca_meaning.specs.Row.{Row, row_at, settle_row}
use Rattle.ca_meaning.specs.State.{State, Channels}
use Rattle.ca_meaning.specs.Choice.{row}
use Rattle.std.specs.Map.{update}
use Rattle.ca_bank.specs.Kept.{Kept, on, put_on, unattended}

abbrev pub with_channel : Channel → Kept → Kept
with_channel c k = record { channel = c; takes = k.takes; puts = k.puts }

abbrev pub channel_of : Option Kept → Option Channel
channel_of None = None
channel_of (Some k) = Some k.channel

-- the whole row, by the handlers that stand first, stale or not
abbrev pub row_raw : Kept → BranchView → Row
row_raw k b = row_at (Some k.channel) (head k.takes) (head k.puts) b

-- a handler that is asked is live
abbrev pub IsAskedLive : (ℕ → Bool) → Option Handler → Type 0
IsAskedLive alive None = Unit {0}
IsAskedLive alive (Some h) = alive h.wait ≡ true

abbrev pub AskedAfter : (ℕ → Bool) → Option Handler → Bool → Option Handler → Type 0
AskedAfter alive (Some h) room ps = Unit {0}
AskedAfter alive None true ps = IsAskedLive alive ps
AskedAfter alive None false ps = Unit {0}

abbrev pub PutAsks : (ℕ → Bool) → Channel → Bool → Bool → Option Handler → Option Handler → Type 0
PutAsks alive c true is ts ps = Unit {0}
PutAsks alive c false true ts ps = Unit {0}
PutAsks alive c false false ts ps = IsAskedLive alive ts × AskedAfter alive ts (has_room c) ps

abbrev pub TakeAsks : (ℕ → Bool) → List Tree → Option Handler → Type 0
TakeAsks alive (v ∷ vs) ps = Unit {0}
TakeAsks alive [] ps = IsAskedLive alive ps

-- each handler that the row of b asks is live
abbrev pub Asks : (ℕ → Bool) → BranchView → Kept → Type 0
Asks alive (take_of p) k = TakeAsks alive k.channel.held (head k.puts)
Asks alive (put_of p v) k = PutAsks alive k.channel k.channel.closed (is_promise k.channel.policy) (head k.takes) (head k.puts)

-- each handler that a Settle's rows ask is live
abbrev pub TakerAsks : (ℕ → Bool) → Bool → List Tree → Option Handler → Type 0
TakerAsks alive closed (v ∷ vs) ts = IsAskedLive alive ts
TakerAsks alive true [] ts = IsAskedLive alive ts
TakerAsks alive false [] ts = Unit {0}

abbrev pub NextAsks : (ℕ → Bool) → Bool → List Tree → Option Handler → Option Handler → Type 0
NextAsks alive closed vs ts (Some h) = Unit {0}
NextAsks alive closed vs ts None = TakerAsks alive closed vs ts

abbrev pub SettleAsks : (ℕ → Bool) → Bool → Channel → Option Handler → Option Handler → Type 0
SettleAsks alive true c ts ps = IsAskedLive alive ps × NextAsks alive c.closed c.held ts ps
SettleAsks alive false c ts ps = TakerAsks alive c.closed c.held ts

abbrev pub AsksSettle : (ℕ → Bool) → Kept → Type 0
AsksSettle alive k = SettleAsks alive (is_fixed k.channel.policy && has_room k.channel) k.channel (head k.takes) (head k.puts)

abbrev pub live_of : (ℕ → Bool) → List Handler → List Handler
live_of alive q = filter (λ h. alive h.wait) q

abbrev pub EachNamed : List ℕ → List Handler → Type 0
EachNamed used [] = Unit {0}
EachNamed used (h ∷ hs) = (is_among h.wait used ≡ true) × EachNamed used hs

-- no two waits have one number
abbrev pub WaitsDiffer : List Wait → Type 0
WaitsDiffer [] = Unit {0}
WaitsDiffer (x ∷ xs) = (is_live x.number xs ≡ false) × WaitsDiffer xs

-- how often the wait changes along a queue
abbrev pub changes_at : ℕ → Option Handler → ℕ
changes_at w None = 1
changes_at w (Some g) = cond (eqb w g.wait) 0 1

abbrev pub groups : List Handler → ℕ
groups [] = 0
groups (h ∷ q) = changes_at h.wait (head q) + groups q

-- ports and live waits stand for the channels, waits and given numbers of a state
pub record KeepsChannels (ports : ℕ → Option Kept) (alive : ℕ → Bool) (channels : Channels) (waits : List Wait) (used : List ℕ) : Type 0 where
  pub channels_are : (p : ℕ) → channels p ≡ channel_of (ports p)
  pub queues : (side : Side) (p : ℕ) (k : Kept) → ports p ≡ Some k → live_of alive (on side k) ≡ queue side p waits
  pub nowhere : (side : Side) (p : ℕ) → ports p ≡ None → queue side p waits ≡ []
  pub named : (side : Side) (p : ℕ) (k : Kept) → ports p ≡ Some k → EachNamed used (on side k)
  pub living : (w : ℕ) → alive w ≡ is_live w waits
  pub given : (w : ℕ) → is_live w waits ≡ true → is_among w used ≡ true
  pub differ : WaitsDiffer waits

-- a channel's queues once the wait w has joined with these branches
abbrev pub joined_queues : ℕ → List BranchView → ℕ → Kept → Kept
joined_queues w bs p k = record { channel = k.channel; takes = k.takes ++ handlers Take p w 0 bs; puts = k.puts ++ handlers Put p w 0 bs }

abbrev pub join_all : ℕ → List BranchView → (ℕ → Option Kept) → ℕ → Option Kept
join_all w bs ports p = option_map (joined_queues w bs p) (ports p)

-- the live waits with one more, and without one
abbrev pub and_wait : (ℕ → Bool) → ℕ → ℕ → Bool
and_wait alive w v = cond (eqb v w) true (alive v)

abbrev pub but_wait : (ℕ → Bool) → ℕ → ℕ → Bool
but_wait alive w v = alive v && not (eqb w v)

-- One wait is taken out of the list and its shard: the queues of every channel, left as they are, are right
-- for the shorter list.
abbrev pub WaitTakenOut : Type 0
WaitTakenOut = (ports : ℕ → Option Kept) (live : ℕ → Bool) (channels : Channels) (waits : List Wait) (used : List ℕ) (w : ℕ)
    → KeepsChannels ports live channels waits used → KeepsChannels ports (but_wait live w) channels (without w waits) used

-- A new wait, whose number was never given, joins the queues of its branches: no stale handler becomes live.
abbrev pub WaitParked : Type 0
WaitParked = (ports : ℕ → Option Kept) (live : ℕ → Bool) (channels : Channels) (waits : List Wait) (used : List ℕ) (x : Wait)
    → KeepsChannels ports live channels waits used → is_among x.number used ≡ false → ((side : Side) (p : ℕ) → ports p ≡ None → handlers side p x.number 0 x.branches ≡ [])
    → KeepsChannels (join_all x.number x.branches ports) (and_wait live x.number) channels (waits ++ x ∷ []) (x.number ∷ used)

-- A stale handler leaves its queue.
abbrev pub HandlerPruned : Type 0
HandlerPruned = (ports : ℕ → Option Kept) (live : ℕ → Bool) (channels : Channels) (waits : List Wait) (used : List ℕ) (p : ℕ) (k : Kept) (side : Side) (before : List Handler) (h : Handler) (after : List Handler)
    → KeepsChannels ports live channels waits used → ports p ≡ Some k → on side k ≡ before ++ h ∷ after → live h.wait ≡ false
    → KeepsChannels (update eqb ports p (Some (put_on side (before ++ after) k))) live channels waits used

-- A channel is made, where there was none of its number.
abbrev pub ChannelMade : Type 0
ChannelMade = (ports : ℕ → Option Kept) (live : ℕ → Bool) (channels : Channels) (waits : List Wait) (used : List ℕ) (p : ℕ) (c : Channel)
    → KeepsChannels ports live channels waits used → ports p ≡ None → KeepsChannels (update eqb ports p (Some (unattended c))) live (update eqb channels p (Some c)) waits used

-- A channel's values or its mark change, and its queues stay.
abbrev pub ChannelChanged : Type 0
ChannelChanged = (ports : ℕ → Option Kept) (live : ℕ → Bool) (channels : Channels) (waits : List Wait) (used : List ℕ) (p : ℕ) (k : Kept) (c : Channel)
    → KeepsChannels ports live channels waits used → ports p ≡ Some k → KeepsChannels (update eqb ports p (Some (with_channel c k))) live (update eqb channels p (Some c)) waits used

-- What becomes of a branch by the handlers that stand first is what becomes of it in the state, where those
-- that its row asks are live.
abbrev pub RowSeen : Type 0
RowSeen = (ports : ℕ → Option Kept) (live : ℕ → Bool) (s : State) (b : BranchView) (k : Kept)
    → KeepsChannels ports live s.channels s.waits s.used → ports (port_of b) ≡ Some k → Asks live b k → row s b ≡ row_raw k b

-- The same for what a channel settles by itself.
abbrev pub SettleSeen : Type 0
SettleSeen = (ports : ℕ → Option Kept) (live : ℕ → Bool) (s : State) (p : ℕ) (k : Kept)
    → KeepsChannels ports live s.channels s.waits s.used → ports p ≡ Some k → AsksSettle live k
    → settle_row k.channel (front Take p s.waits) (front Put p s.waits) ≡ settle_row k.channel (head k.takes) (head k.puts)

-- How many waits are pending on a side is how often the wait changes along its queue.
abbrev pub PendingCounted : Type 0
PendingCounted = (side : Side) (p : ℕ) (waits : List Wait) → WaitsDiffer waits → groups (queue side p waits) ≡ pending side p waits
