-- What a shard shows: who waits, by the number of the wait.
use Rattle.std.specs.Prelude.{◌≡◌, ℕ, ◌%◌, Option, is_some, Bool, true, false, eqb, nat_eq}
use Rattle.indexmap.specs.IndexMap.{get, spare}
use Rattle.ca_bank.specs.declared.shard.Parked.{Parked}
use Rattle.ca_bank.specs.declared.shard.Probe.{Probe}
use Rattle.ca_bank.specs.declared.shard.Probe.TheVariants.{Live, Stale}
use Rattle.ca_bank.specs.declared.shard.Shard.{Shard}

-- a port or a wait stands only in the bank or shard of this number, of so many
abbrev pub belongs : ℕ → ℕ → ℕ → Bool
belongs number count n = eqb (n % count) number

abbrev pub parked_in : {A : Type 0} → Shard A → ℕ → Option (Parked A)
parked_in s w = get nat_eq s.waits w

abbrev pub shard_number : {A : Type 0} → Shard A → ℕ
shard_number s = s.number

abbrev pub shard_count : {A : Type 0} → Shard A → ℕ
shard_count s = s.count

-- how many more waits fit with no growth
abbrev pub shard_spare : {A : Type 0} → Shard A → ℕ
shard_spare s = spare s.waits

abbrev pub SameShard : {A : Type 0} → Shard A → Shard A → Type 0
SameShard old new = (shard_number new ≡ shard_number old) × (shard_count new ≡ shard_count old)

-- each wait that is there belongs there
abbrev pub WaitsArePlaced : {A : Type 0} → Shard A → Type 0
WaitsArePlaced s = (w : ℕ) → is_some (parked_in s w) ≡ true → belongs (shard_number s) (shard_count s) w ≡ true

abbrev pub probes_live : Probe → Bool
probes_live Live = true
probes_live Stale = false
