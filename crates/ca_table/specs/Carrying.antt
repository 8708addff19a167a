-- What a worker holds at an event, sorted as the parts of a run are.
use Rattle.std.specs.Prelude.{◌≡◌, ℕ, ◌+◌, ◌-◌, ◌<◌, ◌≤◌, Option, Some, None, option_map, cond, eqb, nat_lt}
use Rattle.std.specs.Map.{update}
use Rattle.ca_commit.specs.Contents.{Content, Parts}
use Rattle.ca_commit.specs.Gathered.{Kind, bank_kind, bank_of, channels_of, kind_of_part, lane_kind, lane_of, ready_kind, ready_of, registries_of, shard_kind, shard_of, sorted, timers_kind, timers_of}

-- a worker's lane, banks and shards by their numbers, the timers, and ready parts
pub record Carries (X : Type 0) : Type 0 where
  pub lane : Option X
  pub banks : ℕ → Option X
  pub shards : ℕ → Option X
  pub timers : Option X
  pub ready : ℕ → Option X

-- the same by the numbers of the parts, of worker w of n
abbrev pub at_places : {X : Type 0} → ℕ → ℕ → Carries X → ℕ → Option X
at_places n w h j = cond (nat_lt j n) (cond (eqb w j) h.lane None) (cond (nat_lt j (n + 16)) (h.banks (j - n)) (cond (nat_lt j (n + 32)) (h.shards (j - (n + 16))) (cond (nat_lt j (n + 33)) h.timers (h.ready (j - (n + 33))))))

-- where a part stands among them
pub data Place : Type 0 where
  lane_place : Place
  bank_place : (i : ℕ) → Place
  shard_place : (i : ℕ) → Place
  timers_place : Place
  ready_place : (r : ℕ) → Place

-- the number of that part, for worker w of n
abbrev pub number_at : ℕ → ℕ → Place → ℕ
number_at n w lane_place = w
number_at n w (bank_place i) = n + i
number_at n w (shard_place i) = n + 16 + i
number_at n w timers_place = n + 32
number_at n w (ready_place r) = n + 33 + r

-- there are sixteen banks and shards
abbrev pub IsPlace : Place → Type 0
IsPlace lane_place = Unit {0}
IsPlace (bank_place i) = i < 16
IsPlace (shard_place i) = i < 16
IsPlace timers_place = Unit {0}
IsPlace (ready_place r) = Unit {0}

abbrev pub kind_there : Place → Kind
kind_there lane_place = lane_kind
kind_there (bank_place i) = bank_kind
kind_there (shard_place i) = shard_kind
kind_there timers_place = timers_kind
kind_there (ready_place r) = ready_kind

module _ {X : Type 0} where
  abbrev pub nothing_carried : Carries X
  nothing_carried = record { lane = None; banks = λ i. None; shards = λ i. None; timers = None; ready = λ r. None }

  abbrev pub part_at : Place → Carries X → Option X
  part_at lane_place h = h.lane
  part_at (bank_place i) h = h.banks i
  part_at (shard_place i) h = h.shards i
  part_at timers_place h = h.timers
  part_at (ready_place r) h = h.ready r

  -- the same with this part there, or with none
  abbrev pub with_at : Place → Option X → Carries X → Carries X
  with_at lane_place o h = record { lane = o; banks = h.banks; shards = h.shards; timers = h.timers; ready = h.ready }
  with_at (bank_place i) o h = record { lane = h.lane; banks = update eqb h.banks i o; shards = h.shards; timers = h.timers; ready = h.ready }
  with_at (shard_place i) o h = record { lane = h.lane; banks = h.banks; shards = update eqb h.shards i o; timers = h.timers; ready = h.ready }
  with_at timers_place o h = record { lane = h.lane; banks = h.banks; shards = h.shards; timers = o; ready = h.ready }
  with_at (ready_place r) o h = record { lane = h.lane; banks = h.banks; shards = h.shards; timers = h.timers; ready = update eqb h.ready r o }

  -- all that is carried has the property
  pub record EachCarried (P : X → Type 0) (h : Carries X) : Type 0 where
    pub lane : (x : X) → h.lane ≡ Some x → P x
    pub banks : (i : ℕ) (x : X) → h.banks i ≡ Some x → P x
    pub shards : (i : ℕ) (x : X) → h.shards i ≡ Some x → P x
    pub timers : (x : X) → h.timers ≡ Some x → P x
    pub ready : (r : ℕ) (x : X) → h.ready r ≡ Some x → P x

abbrev pub each_by : {X Y : Type 0} → (Option X → Option Y) → Carries X → Carries Y
each_by f h = record { lane = f h.lane; banks = λ i. f (h.banks i); shards = λ i. f (h.shards i); timers = f h.timers; ready = λ r. f (h.ready r) }

module _ {A X : Type 0} (f : X → Content A) where
  abbrev pub IsKind : Kind → Option X → Type 0
  IsKind k o = (x : X) → o ≡ Some x → kind_of_part (f x).held ≡ k

  -- each is what it stands for, and there are sixteen banks and shards
  pub record AreSorted (h : Carries X) : Type 0 where
    pub lane : IsKind lane_kind h.lane
    pub banks : (i : ℕ) → IsKind bank_kind (h.banks i)
    pub shards : (i : ℕ) → IsKind shard_kind (h.shards i)
    pub timers : IsKind timers_kind h.timers
    pub ready : (r : ℕ) → IsKind ready_kind (h.ready r)
    pub few_banks : (i : ℕ) → 16 ≤ i → h.banks i ≡ None
    pub few_shards : (i : ℕ) → 16 ≤ i → h.shards i ≡ None

  -- as the definitions of a run have it
  abbrev pub carried : ℕ → Carries X → Parts A
  carried w h = record {
    lane = λ v. cond (eqb w v) (sorted lane_of (option_map f h.lane)) None;
    bank = λ i. channels_of (sorted bank_of (option_map f (h.banks i)));
    registry = λ i. registries_of (sorted bank_of (option_map f (h.banks i)));
    shard = λ i. sorted shard_of (option_map f (h.shards i));
    ready = λ r. sorted ready_of (option_map f (h.ready r));
    timers = sorted timers_of (option_map f h.timers);
  }
