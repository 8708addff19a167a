-- All banks, or all shards, that an event needs, moved out of a hand and back at once.
use Rattle.std.specs.Prelude.{◌≡◌, ℕ, ◌+◌, List, Option, Some, None, Bool, true, false, option_map}
use Rattle.ca_states.specs.declared.valid_code.ValidCode.{ValidCode}
use Rattle.ca_commit.specs.Gathered.{Kind, away_kind, bank_kind, lane_kind, ready_kind, shard_kind, timers_kind}
use Rattle.ca_commit.specs.Listing.{listed}
use Rattle.ca_table.specs.Carrying.{Carries, Place, bank_place, shard_place}
use Rattle.ca_table.specs.Parts.{part_away, part_of}
use Rattle.ca_table.specs.Seen.{PartSeen}
use Rattle.ca_table.specs.declared.part.Contents.{Contents}
use Rattle.ca_table.specs.declared.part.Contents.TheVariants as V
use Rattle.ca_table.specs.declared.part.Part.{Part}

-- the sixteen banks, or the sixteen shards
pub data PartRow : Type 0 where
  bank_row : PartRow
  shard_row : PartRow

abbrev pub row_place : PartRow → ℕ → Place
row_place bank_row i = bank_place i
row_place shard_row i = shard_place i

abbrev pub kind_of_row : PartRow → Kind
kind_of_row bank_row = bank_kind
kind_of_row shard_row = shard_kind

-- the number of the first of them, among n workers
abbrev pub first_part_number : PartRow → ℕ → ℕ
first_part_number bank_row n = n
first_part_number shard_row n = n + 16

module _ {X : Type 0} where
  abbrev pub all_of : PartRow → Carries X → ℕ → Option X
  all_of bank_row h = h.banks
  all_of shard_row h = h.shards

  -- the same with these in their place
  abbrev pub with_row : PartRow → (ℕ → Option X) → Carries X → Carries X
  with_row bank_row f h = record { lane = h.lane; banks = f; shards = h.shards; timers = h.timers; ready = h.ready }
  with_row shard_row f h = record { lane = h.lane; banks = h.banks; shards = f; timers = h.timers; ready = h.ready }

  -- none of them is carried
  abbrev pub HasNone : PartRow → Carries X → Type 0
  HasNone row h = (i : ℕ) → all_of row h i ≡ None

module _ {A C : Type 0} where
  abbrev pub contents_kind : Contents A C → Kind
  contents_kind (V.Lane l) = lane_kind
  contents_kind (V.Bank b) = bank_kind
  contents_kind (V.Shard s) = shard_kind
  contents_kind (V.Timers t) = timers_kind
  contents_kind (V.Ready r) = ready_kind
  contents_kind V.Away = away_kind

module _ {A C T : Type 0} (n : ℕ) (code : ValidCode) (as_contents : T → Contents A C) where
  -- what is carried of the parts in a list, which were moved out as they were settled
  abbrev pub lifted : (Part A C → PartSeen A) → (T → ℕ) → List T → ℕ → Option (Part A C × PartSeen A)
  lifted seen number xs i = option_map (λ x. (part_away n code, seen (part_of n code (as_contents x)))) (listed number xs i)

  -- what is carried of one that was settled so: the part as it is now, if it lies in the hand again
  abbrev pub laid_back : Option T → Option (PartSeen A) → Option (Part A C × PartSeen A)
  laid_back o None = None
  laid_back None (Some c) = Some (part_away n code, c)
  laid_back (Some x) (Some c) = Some (part_of n code (as_contents x), c)

module _ {A C : Type 0} (seen : Part A C → PartSeen A) where
  -- it is carried just where that is said, and settled as it is
  abbrev pub SettledIf : Bool → Option (Part A C × PartSeen A) → Type 0
  SettledIf false o = o ≡ None
  SettledIf true o = (x : Part A C) × (o ≡ Some (x, seen x))
