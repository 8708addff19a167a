-- What a follower has: the contents of the banks and shards, all of which it holds, the timers, the tasks that can go on,
-- and the numbers that were given to tasks and waits so far.
use Rattle.std.specs.Prelude.{◌≡◌, ℕ, ◌<◌, Option, Some, None, Bool, true, is_some}
use Rattle.ca_meaning.specs.Registry.{Registry}
use Rattle.ca_commit.specs.Agents.{TaskAgent}
use Rattle.ca_commit.specs.Contents.{Kept, Parked, Parts}
use Rattle.ca_commit.specs.NewPort.{Times}
use Rattle.ca_commit.specs.Running.{Placed}

pub record Has (A : Type 0) : Type 0 where
  pub bank : ℕ → Option (ℕ → Option Kept)
  pub registry : ℕ → Option (ℕ → Option Registry)
  pub shard : ℕ → Option (ℕ → Option (Parked (TaskAgent A)))
  pub times : Option Times
  pub running : ℕ → Option (TaskAgent A)
  pub known : ℕ → Bool
  pub used : ℕ → Bool

-- as the parts that a worker would hold, but for lanes, ready parts and the clock
abbrev pub parts_had : {A : Type 0} → Has A → Parts (TaskAgent A)
parts_had h = record { lane = λ w. None; bank = h.bank; registry = h.registry; shard = h.shard; ready = λ r. None; timers = None }

-- all sixteen of a kind are there
abbrev pub AreAll : {X : Type 0} → (ℕ → Option X) → Type 0
AreAll f = (i : ℕ) → i < 16 → is_some (f i) ≡ true

-- all banks and shards are held, and each number is in its own
pub record IsAll {A : Type 0} (h : Has A) : Type 0 where
  pub banks : AreAll h.bank
  pub registries : AreAll h.registry
  pub shards : AreAll h.shard
  pub bank_placed : Placed h.bank
  pub registry_placed : Placed h.registry
  pub shard_placed : Placed h.shard

-- sixteen of a kind are there, with nothing in them
abbrev pub AreEmpty : {X : Type 0} → (ℕ → Option (ℕ → Option X)) → Type 0
AreEmpty {X} f = ((i : ℕ) → i < 16 → is_some (f i) ≡ true) × ((i k : ℕ) (g : ℕ → Option X) → f i ≡ Some g → g k ≡ None)
