-- When banks and shards stand for a state's channels, registries and waits, and what stands after each call: the
-- equations are those of the calls' clauses.
use Rattle.std.specs.Prelude.{◌≡◌, ℕ, suc, ◌%◌, List, [], ◌∷◌, ◌++◌, Option, Some, None, Bool, false, slice_get, eqb}
use Rattle.std.specs.Map.{update}
use Rattle.ca_value.specs.Tree.{Tree, Trees}
use Rattle.ca_term.specs.declared.event.Side.{Side}
use Rattle.ca_term.specs.declared.fault.Fault.{Fault}
use Rattle.ca_term.specs.declared.head.RegisterName.{RegisterName}
use Rattle.ca_term.specs.Event.{BranchView}
use Rattle.ca_term.specs.Operation.{WhatView}
use Rattle.ca_meaning.specs.Channel.{channel_made, keeping, giving}
use Rattle.ca_meaning.specs.Registry.{Registry, registry_made, answers, refuses}
use Rattle.ca_meaning.specs.Wait.{Wait, Handler, side_of, port_of, brought, handlers, without, is_among}
use Rattle.ca_meaning.specs.State.{Channels, shut_at}
use Rattle.ca_bank.specs.Kept.{Kept, entry_changed, closed_channel, added, removed, enqueued, pruned, queue_at}
use Rattle.ca_bank.specs.Holds.{KeepsChannels, channel_of, join_all, and_wait, but_wait}
use Rattle.ca_registry.specs.Registry.{comes_to, registry_after}
use Rattle.ca_bank.specs.Bank.{with_made, kept_made, new_registry as registry_of_made}
use Rattle.ca_bank.specs.declared.bank.Made.{Made}

-- so many banks or shards as one map: number n stands in the part n % count
abbrev pub together : {X : Type 0} → ℕ → (ℕ → ℕ → Option X) → ℕ → Option X
together count parts n = parts (n % count) n

-- the entry n changes in its part, and no other part changes
pub record ChangesEntry {X : Type 0} (count n : ℕ) (x : Option X) (old new : ℕ → ℕ → Option X) : Type 0 where
  pub here : (q : ℕ) → new (n % count) q ≡ update eqb (old (n % count)) n x q
  pub others : (i : ℕ) → (i ≡ n % count → ⊥) → (q : ℕ) → new i q ≡ old i q

abbrev pub Registries : Type 0
Registries = ℕ → Option Registry

-- All banks together, and which waits are in a shard, stand for the channels, registries, waits and given numbers
-- of a state.
pub record BanksStand (ports : ℕ → Option Kept) (members : Registries) (live : ℕ → Bool) (channels : Channels) (registries : Registries) (waits : List Wait) (used : List ℕ) : Type 0 where
  pub holds : KeepsChannels ports live channels waits used
  pub registered : (p : ℕ) → registries p ≡ members p

-- a wait's handlers join their queues, branch by branch, from branch k on
abbrev pub enqueue_from : ℕ → ℕ → List BranchView → (ℕ → Option Kept) → ℕ → Option Kept
enqueue_from w k [] ports = ports
enqueue_from w k (b ∷ bs) ports = enqueue_from w (suc k) bs (entry_changed ports (port_of b) (enqueued (side_of b) (record { wait = w; branch = k; value = brought b })))

-- What changes nothing, as all calls that make room do.
abbrev pub SameStands : Type 0
SameStands = (ports ports2 : ℕ → Option Kept) (members members2 : Registries) (live live2 : ℕ → Bool) (channels : Channels) (registries : Registries) (waits : List Wait) (used : List ℕ)
    → BanksStand ports members live channels registries waits used → ((q : ℕ) → ports2 q ≡ ports q) → ((q : ℕ) → members2 q ≡ members q) → ((w : ℕ) → live2 w ≡ live w)
    → BanksStand ports2 members2 live2 channels registries waits used

-- `make`, at a number that no port has.
abbrev pub PortMade : Type 0
PortMade = (ports ports2 : ℕ → Option Kept) (members members2 : Registries) (live : ℕ → Bool) (channels : Channels) (registries : Registries) (waits : List Wait) (used : List ℕ) (p : ℕ) (what : WhatView) (made : Made)
    → BanksStand ports members live channels registries waits used → ports p ≡ None → members p ≡ None
    → channel_of (kept_made made) ≡ channel_made what → registry_of_made made ≡ registry_made what
    → ((q : ℕ) → ports2 q ≡ with_made p (kept_made made) ports q) → ((q : ℕ) → members2 q ≡ with_made p (registry_of_made made) members q)
    → BanksStand ports2 members2 live (update eqb channels p (channel_made what)) (update eqb registries p (registry_made what)) waits used

-- `close`.
abbrev pub ChannelClosed : Type 0
ChannelClosed = (ports ports2 : ℕ → Option Kept) (members : Registries) (live : ℕ → Bool) (channels : Channels) (registries : Registries) (waits : List Wait) (used : List ℕ) (p : ℕ)
    → BanksStand ports members live channels registries waits used → ((q : ℕ) → ports2 q ≡ entry_changed ports p closed_channel q)
    → BanksStand ports2 members live (shut_at p channels) registries waits used

-- `add`.
abbrev pub ValueAdded : Type 0
ValueAdded = (ports ports2 : ℕ → Option Kept) (members : Registries) (live : ℕ → Bool) (channels : Channels) (registries : Registries) (waits : List Wait) (used : List ℕ) (p : ℕ) (v : Tree)
    → BanksStand ports members live channels registries waits used → ((q : ℕ) → ports2 q ≡ entry_changed ports p (added v) q)
    → BanksStand ports2 members live (entry_changed channels p (λ c. keeping c v)) registries waits used

-- `remove`.
abbrev pub ValueRemoved : Type 0
ValueRemoved = (ports ports2 : ℕ → Option Kept) (members : Registries) (live : ℕ → Bool) (channels : Channels) (registries : Registries) (waits : List Wait) (used : List ℕ) (p : ℕ)
    → BanksStand ports members live channels registries waits used → ((q : ℕ) → ports2 q ≡ entry_changed ports p removed q)
    → BanksStand ports2 members live (entry_changed channels p giving) registries waits used

-- `prune`, where the handler at that place is stale.
abbrev pub StalePruned : Type 0
StalePruned = (ports ports2 : ℕ → Option Kept) (members : Registries) (live : ℕ → Bool) (channels : Channels) (registries : Registries) (waits : List Wait) (used : List ℕ) (p : ℕ) (side : Side) (place : ℕ) (h : Handler)
    → BanksStand ports members live channels registries waits used → slice_get (queue_at side (ports p)) place ≡ Some h → live h.wait ≡ false → ((q : ℕ) → ports2 q ≡ entry_changed ports p (pruned side place) q)
    → BanksStand ports2 members live channels registries waits used

-- `take_out`.
abbrev pub WaitLeaves : Type 0
WaitLeaves = (ports : ℕ → Option Kept) (members : Registries) (live live2 : ℕ → Bool) (channels : Channels) (registries : Registries) (waits : List Wait) (used : List ℕ) (w : ℕ)
    → BanksStand ports members live channels registries waits used → ((v : ℕ) → live2 v ≡ but_wait live w v)
    → BanksStand ports members live2 channels registries (without w waits) used

-- `put_in`, and `enqueue` for each branch in order, where the number is new.
abbrev pub WaitJoins : Type 0
WaitJoins = (ports ports2 : ℕ → Option Kept) (members : Registries) (live live2 : ℕ → Bool) (channels : Channels) (registries : Registries) (waits : List Wait) (used : List ℕ) (x : Wait)
    → BanksStand ports members live channels registries waits used → is_among x.number used ≡ false → ((side : Side) (p : ℕ) → ports p ≡ None → handlers side p x.number 0 x.branches ≡ [])
    → ((q : ℕ) → ports2 q ≡ enqueue_from x.number 0 x.branches ports q) → ((v : ℕ) → live2 v ≡ and_wait live x.number v)
    → BanksStand ports2 members live2 channels registries (waits ++ x ∷ []) (x.number ∷ used)

-- `register`, where the table answers.
abbrev pub RegistryChanged : Type 0
RegistryChanged = (ports : ℕ → Option Kept) (members members2 : Registries) (live : ℕ → Bool) (channels : Channels) (registries : Registries) (waits : List Wait) (used : List ℕ) (p : ℕ) (name : RegisterName) (args : Trees) (v : Tree) (r : Registry)
    → BanksStand ports members live channels registries waits used → comes_to (members p) name args ≡ answers v r → ((q : ℕ) → members2 q ≡ entry_changed members p (registry_after name args) q)
    → BanksStand ports members2 live channels (update eqb registries p (Some r)) waits used

-- `register`, where the table faults.
abbrev pub RegistryKept : Type 0
RegistryKept = (ports : ℕ → Option Kept) (members members2 : Registries) (live : ℕ → Bool) (channels : Channels) (registries : Registries) (waits : List Wait) (used : List ℕ) (p : ℕ) (name : RegisterName) (args : Trees) (f : Fault)
    → BanksStand ports members live channels registries waits used → comes_to (members p) name args ≡ refuses f → ((q : ℕ) → members2 q ≡ entry_changed members p (registry_after name args) q)
    → BanksStand ports members2 live channels registries waits used

-- Handlers that join their queues one by one stand where the new wait is to have them.
abbrev pub QueuesJoined : Type 0
QueuesJoined = (w : ℕ) (bs : List BranchView) (ports : ℕ → Option Kept) (q : ℕ) → enqueue_from w 0 bs ports q ≡ join_all w bs ports q
