-- What a bank shows: its channels, by number, and the room that each has.
use Rattle.std.specs.Prelude.{◌≡◌, ℕ, ◌≤◌, Option, Some, None, option_map, is_some, true, false, nat_eq, eqb, [], slice_get}
use Rattle.indexmap.specs.IndexMap.{get, spare}
use Rattle.ca_bank.specs.Kept.{Kept, Spares, unattended}
use Rattle.ca_bank.specs.Room.{kept_view, spares_view, channel_with}
use Rattle.ca_bank.specs.Shard.{belongs}
use Rattle.ca_meaning.specs.Registry.{Registry as RegistryView, a_mult, a_mix, a_publication}
use Rattle.ca_registry.specs.Kind.{kind_of_registry}
use Rattle.ca_registry.specs.Registry.{registry_view, members_spare}
use Rattle.std.specs.Map.{update}
use Rattle.ca_bank.specs.declared.bank.Bank.{Bank}
use Rattle.ca_bank.specs.declared.bank.Made.{Made}
use Rattle.ca_bank.specs.declared.bank.Made.TheVariants as M
use Rattle.ca_registry.specs.declared.kind.PortKind.{PortKind}
use Rattle.ca_registry.specs.declared.kind.PortKind.TheVariants.{Channel}

abbrev pub kept_at : Bank → ℕ → Option Kept
kept_at b p = option_map kept_view (get nat_eq b.rooms p)

-- the number of the channel at a place of the bank's own order
abbrev pub channel_at : Bank → ℕ → Option ℕ
channel_at b i = option_map (λ e. e.0) (slice_get b.rooms.entries i)

abbrev pub spares_at : Bank → ℕ → Option Spares
spares_at b p = option_map spares_view (get nat_eq b.rooms p)

abbrev pub bank_number : Bank → ℕ
bank_number b = b.number

abbrev pub bank_count : Bank → ℕ
bank_count b = b.count

abbrev pub registry_at : Bank → ℕ → Option RegistryView
registry_at b p = option_map registry_view (get nat_eq b.registries p)

-- how many more members the registry has room for with no growth
abbrev pub members_spare_at : Bank → ℕ → ℕ
members_spare_at b p = members_spare (get nat_eq b.registries p)

-- how many more channels, and registries, fit with no growth
abbrev pub channels_spare : Bank → ℕ
channels_spare b = spare b.rooms

abbrev pub registries_spare : Bank → ℕ
registries_spare b = spare b.registries

-- the bank is the same one, and has the room for ports that it had
abbrev pub SameBank : Bank → Bank → Type 0
SameBank old new = (bank_number new ≡ bank_number old) × (bank_count new ≡ bank_count old) × (channels_spare old ≤ channels_spare new) × (registries_spare old ≤ registries_spare new)

-- its channels are the same, with the room that they had
abbrev pub SameChannels : Bank → Bank → Type 0
SameChannels old new = ((p : ℕ) → kept_at new p ≡ kept_at old p) × ((p : ℕ) → spares_at new p ≡ spares_at old p)

-- its registries are the same, with the room that they had
abbrev pub SameRegistries : Bank → Bank → Type 0
SameRegistries old new = ((p : ℕ) → registry_at new p ≡ registry_at old p) × ((p : ℕ) → members_spare_at new p ≡ members_spare_at old p)

-- each port that is there belongs there
abbrev pub ArePlaced : Bank → Type 0
ArePlaced b = ((p : ℕ) → is_some (kept_at b p) ≡ true → belongs (bank_number b) (bank_count b) p ≡ true) × ((p : ℕ) → is_some (registry_at b p) ≡ true → belongs (bank_number b) (bank_count b) p ≡ true)

-- what a port is
abbrev pub kind_of_port : Option Kept → Option RegistryView → Option PortKind
kind_of_port (Some k) r = Some Channel
kind_of_port None r = kind_of_registry r

-- the map with what is made at p, where it is of this map's kind
abbrev pub with_made : {X : Type 0} → ℕ → Option X → (ℕ → Option X) → ℕ → Option X
with_made p None m q = m q
with_made p (Some x) m q = update eqb m p (Some x) q

-- the channel that is made, where it is one: open, with nothing waiting
abbrev pub kept_made : Made → Option Kept
kept_made (M.Channel buffer) = Some (unattended (channel_with buffer false))
kept_made (M.Mult source) = None
kept_made (M.Mix out changes) = None
kept_made (M.Pub source) = None

-- the registry that is made, where it is one: without a member
abbrev pub new_registry : Made → Option RegistryView
new_registry (M.Channel buffer) = None
new_registry (M.Mult source) = Some (a_mult source.n [])
new_registry (M.Mix out changes) = Some (a_mix out.n changes.n false [])
new_registry (M.Pub source) = Some (a_publication source.n [])
