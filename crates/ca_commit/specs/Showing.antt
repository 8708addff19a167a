-- What the held parts show.
use Rattle.std.specs.Prelude.{ℕ, Option, option_map}
use Rattle.ca_meaning.specs.Registry.{Registry}
use Rattle.ca_meaning.specs.State.{State}
use Rattle.ca_bank.specs.Bank.{kept_at, registry_at, spares_at}
use Rattle.ca_bank.specs.Kept.{Kept, Spares}
use Rattle.ca_bank.specs.Shard.{parked_in}
use Rattle.ca_bank.specs.declared.shard.Parked.{Parked as ParkedCode}
use Rattle.ca_bank.specs.declared.shard.Parked.TheVariants as C
use Rattle.ca_bank.specs.declared.shard.Shard.{Shard}
use Rattle.ca_commit.specs.Agents.{TaskAgent}
use Rattle.ca_commit.specs.Contents.{Parked, nobody, owner, whole}
use Rattle.ca_commit.specs.Finding.{Glance, glance}
use Rattle.ca_commit.specs.Listing.{listed}
use Rattle.ca_commit.specs.Listings.{parts}
use Rattle.ca_commit.specs.Numbers.{number_of_bank, number_of_shard}
use Rattle.ca_commit.specs.Planning.{Seen, state_of}
use Rattle.ca_commit.specs.Tasks.{agent_of}
use Rattle.ca_commit.specs.declared.held.HeldBank.{HeldBank}
use Rattle.ca_commit.specs.declared.held.HeldShard.{HeldShard}
use Rattle.ca_commit.specs.declared.listing.Listing.{Listing}
use Rattle.ca_commit.specs.declared.task.Task.{Task}

abbrev pub parked_view : {A : Type 0} → ParkedCode (Task A) → Parked (TaskAgent A)
parked_view (C.Owner t) = owner t.number (agent_of t)
parked_view C.Nobody = nobody

abbrev pub waits_of : {A : Type 0} → Shard (Task A) → ℕ → Option (Parked (TaskAgent A))
waits_of s w = option_map parked_view (parked_in s w)

abbrev pub bank_in : HeldBank → ℕ → Option Kept
bank_in b = kept_at b.bank.value

abbrev pub registries_in : HeldBank → ℕ → Option Registry
registries_in b = registry_at b.bank.value

abbrev pub shard_in : {A : Type 0} → HeldShard A → ℕ → Option (Parked (TaskAgent A))
shard_in s = waits_of s.shard.value

-- the channels, the registries and the waits of the parts that are held, by the numbers of these parts
abbrev pub channels_held : Listing HeldBank → ℕ → Option (ℕ → Option Kept)
channels_held b i = option_map bank_in (listed number_of_bank (parts b) i)

abbrev pub registries_held : Listing HeldBank → ℕ → Option (ℕ → Option Registry)
registries_held b i = option_map registries_in (listed number_of_bank (parts b) i)

abbrev pub waits_held : {A : Type 0} → Listing (HeldShard A) → ℕ → Option (ℕ → Option (Parked (TaskAgent A)))
waits_held s i = option_map shard_in (listed number_of_shard (parts s) i)

-- what they show all together
abbrev pub seen_by : Listing HeldBank → (ℕ → Glance) → Seen
seen_by banks see = record { ports = whole (channels_held banks); registries = whole (registries_held banks); see = see }

abbrev pub seen : {A : Type 0} → Listing HeldBank → Listing (HeldShard A) → Seen
seen banks shards = seen_by banks (glance (waits_held shards))

-- the state that has what the held banks have
abbrev pub state_held : Listing HeldBank → State
state_held banks = state_of (whole (channels_held banks)) (whole (registries_held banks))

abbrev pub spares_in : HeldBank → ℕ → Option Spares
spares_in b = spares_at b.bank.value

-- the room that a held channel has
abbrev pub spares_held : Listing HeldBank → ℕ → Option (ℕ → Option Spares)
spares_held b i = option_map spares_in (listed number_of_bank (parts b) i)
