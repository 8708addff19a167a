-- From the contents of the parts, in the order in which an event touches them, to held parts.
use Rattle.std.specs.Prelude.{◌≡◌, ℕ, ◌+◌, List, [], ◌∷◌, ◌++◌, Option, Some, None, true, cond, eqb, nat_lt}
use Rattle.ca_meaning.specs.Registry.{Registry}
use Rattle.ca_meaning.specs.Wait.{is_among}
use Rattle.ca_commit.specs.Contents.{BankView, Content, PartContents, Kept, LaneView, Parked, Parts, TimersPart, a_bank, a_lane, a_ready, a_shard, away, home, the_timers}
use Rattle.ca_commit.specs.Touched.{Drawn, NamedParts, touches}

-- what the list has for the part of that number
abbrev pub pick : {C : Type 0} → List ℕ → List C → ℕ → Option C
pick [] cs n = None
pick (i ∷ is) [] n = None
pick (i ∷ is) (c ∷ cs) n = cond (eqb i n) (Some c) (pick is cs n)

pub data Kind : Type 0 where
  lane_kind : Kind
  bank_kind : Kind
  shard_kind : Kind
  timers_kind : Kind
  ready_kind : Kind
  away_kind : Kind

module _ {A : Type 0} where
  abbrev pub lane_of : PartContents A → Option (LaneView A)
  lane_of (a_lane l) = Some l
  lane_of (a_bank b) = None
  lane_of (a_shard f) = None
  lane_of (the_timers t) = None
  lane_of (a_ready q) = None
  lane_of away = None

  abbrev pub bank_of : PartContents A → Option BankView
  bank_of (a_bank b) = Some b
  bank_of (a_lane l) = None
  bank_of (a_shard f) = None
  bank_of (the_timers t) = None
  bank_of (a_ready q) = None
  bank_of away = None

  abbrev pub shard_of : PartContents A → Option (ℕ → Option (Parked A))
  shard_of (a_shard f) = Some f
  shard_of (a_lane l) = None
  shard_of (a_bank b) = None
  shard_of (the_timers t) = None
  shard_of (a_ready q) = None
  shard_of away = None

  abbrev pub timers_of : PartContents A → Option TimersPart
  timers_of (the_timers t) = Some t
  timers_of (a_lane l) = None
  timers_of (a_bank b) = None
  timers_of (a_shard f) = None
  timers_of (a_ready q) = None
  timers_of away = None

  abbrev pub ready_of : PartContents A → Option (List (ℕ × A))
  ready_of (a_ready q) = Some q
  ready_of (a_lane l) = None
  ready_of (a_bank b) = None
  ready_of (a_shard f) = None
  ready_of (the_timers t) = None
  ready_of away = None

  abbrev pub kind_of_part : PartContents A → Kind
  kind_of_part (a_lane l) = lane_kind
  kind_of_part (a_bank b) = bank_kind
  kind_of_part (a_shard f) = shard_kind
  kind_of_part (the_timers t) = timers_kind
  kind_of_part (a_ready q) = ready_kind
  kind_of_part away = away_kind

  -- a part of that kind, if it is there
  abbrev pub sorted : {X : Type 0} → (PartContents A → Option X) → Option (Content A) → Option X
  sorted as_kind None = None
  sorted as_kind (Some c) = as_kind c.held

abbrev pub channels_of : Option BankView → Option (ℕ → Option Kept)
channels_of None = None
channels_of (Some b) = Some b.channels

abbrev pub registries_of : Option BankView → Option (ℕ → Option Registry)
registries_of None = None
registries_of (Some b) = Some b.registries

-- of n workers: the lanes, 16 banks, 16 shards, the timers, the ready parts
abbrev pub parts_of : {A : Type 0} → ℕ → (ℕ → Option (Content A)) → Parts A
parts_of {A} n f = record {
  lane = λ w. sorted lane_of (f w);
  bank = λ i. channels_of (sorted bank_of (f (n + i)));
  registry = λ i. registries_of (sorted bank_of (f (n + i)));
  shard = λ i. sorted shard_of (f (n + 16 + i));
  ready = λ r. sorted ready_of (f (n + 33 + r));
  timers = sorted timers_of (f (n + 32));
}

-- which kind of part has that number
abbrev pub kind_at : ℕ → ℕ → Kind
kind_at n i = cond (nat_lt i n) lane_kind (cond (nat_lt i (n + 16)) bank_kind (cond (nat_lt i (n + 32)) shard_kind (cond (nat_lt i (n + 33)) timers_kind ready_kind)))

-- what an event touches, as held parts
abbrev pub gather : {A : Type 0} → Drawn → List (Content A) → Parts A
gather d cs = parts_of d.workers (pick (touches d) cs)

module _ {A : Type 0} where
  -- a part stays of its kind; before and after it tells that there are n workers
  abbrev pub Alike : ℕ → Content A → Content A → Type 0
  Alike n x y = (x.workers ≡ n) × (y.workers ≡ n) × (kind_of_part y.held ≡ kind_of_part x.held)

  abbrev pub AllAlike : ℕ → List (Content A) → List (Content A) → Type 0
  AllAlike n [] [] = Unit {0}
  AllAlike n [] (y ∷ ys) = ⊥
  AllAlike n (x ∷ xs) [] = ⊥
  AllAlike n (x ∷ xs) (y ∷ ys) = Alike n x y × AllAlike n xs ys

-- the held parts have all that the event of worker w names, and what stands beside it
pub record HoldsNamed {A : Type 0} (w : ℕ) (ports looked : List ℕ) (x : NamedParts) (held all : Parts A) : Type 0 where
  pub lane : x.lane ≡ true → held.lane w ≡ all.lane w
  pub banks : (p : ℕ) → is_among p (x.ports ++ ports) ≡ true → (held.bank (home p) ≡ all.bank (home p)) × (held.registry (home p) ≡ all.registry (home p))
  pub shards : (v : ℕ) → is_among v (x.waits ++ looked) ≡ true → held.shard (home v) ≡ all.shard (home v)
  pub timers : x.timers ≡ true → held.timers ≡ all.timers
  pub ready : (r : ℕ) → x.ready ≡ Some r → held.ready r ≡ all.ready r
