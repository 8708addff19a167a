-- What an event does to the counters.
use Rattle.std.specs.Prelude.{◌≡◌, ℕ, ◌+◌, ◌%◌, ◌^◌, ◌<◌, List, [], ◌∷◌, map}
use Rattle.ca_turns_counters.specs.declared.counters.Event.{Event}
use Rattle.ca_turns_counters.specs.declared.counters.Event.TheVariants.{One, Pair}

-- the counters that an event adds 1 to
abbrev pub counters_added : Event → List ℕ
counters_added (One p) = p ∷ []
counters_added (Pair p) = p ∷ (p + 1) ∷ []

-- a counter of 64 bits goes round
abbrev pub counter_after : ℕ → ℕ
counter_after n = (n + 1) % 2 ^ 64

abbrev pub Adds : Event → List ℕ → List ℕ → Type 0
Adds e before after = after ≡ map counter_after before

-- the counters of the event are among these many, of at most 256
abbrev pub AreCountersWithin : ℕ → Event → Type 0
AreCountersWithin slots (One p) = p < slots
AreCountersWithin slots (Pair p) = (p + 1 < slots) × (p < 255)
