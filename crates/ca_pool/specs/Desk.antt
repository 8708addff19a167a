-- A worker that has moved its lane and the parts of an event out of its hand, and that laid them back.
use Rattle.std.specs.Prelude.{◌≡◌, ℕ, ◌<◌, List, [], Option, Some, None, Bool, option_map, cond, eqb, is_some}
use Rattle.std.specs.declared.boxed.Box.{Box}
use Rattle.std.specs.declared.alloc.Global.{Global}
use Rattle.ca_value.specs.Tree.{Tree}
use Rattle.ca_term.specs.Operation.{SeedView}
use Rattle.ca_term.specs.Program.{ProgramView}
use Rattle.ca_meaning.specs.Body.{At}
use Rattle.ca_states.specs.Code.{CodeView}
use Rattle.ca_commit.specs.Listing.{listed}
use Rattle.ca_commit.specs.Listings.{parts}
use Rattle.ca_commit.specs.Numbers.{number_of_bank, number_of_shard}
use Rattle.ca_commit.specs.Touched as said
use Rattle.ca_commit.specs.declared.held.Held.{Held}
use Rattle.ca_pool.specs.declared.release.Laid.{Laid}
use Rattle.ca_states.specs.declared.valid_code.ValidCode.{ValidCode}
use Rattle.ca_table.specs.Carriers.{IsMoved, LaneBox}
use Rattle.ca_table.specs.Carrying.{Carries, lane_place, with_at}
use Rattle.ca_table.specs.Homes.{has_home}
use Rattle.ca_table.specs.Lifting.{SettledIf, laid_back, lifted}
use Rattle.ca_table.specs.Needing.{drawn_with}
use Rattle.ca_table.specs.Parts.{part_away, part_of}
use Rattle.ca_table.specs.Seen.{PartSeen}
use Rattle.ca_table.specs.Workers.{part_of_lane}
use Rattle.ca_table.specs.declared.part.Clockwork.{Clockwork}
use Rattle.ca_table.specs.declared.part.Contents.{Contents}
use Rattle.ca_table.specs.declared.part.Contents.TheVariants as V
use Rattle.ca_table.specs.declared.part.Lane.{Lane}
use Rattle.ca_table.specs.declared.part.Part.{Part}

abbrev pub ClockBox : Type 0 → Type 0
ClockBox C = Box (Clockwork C) Global

module _ {A C : Type 0} (seen : Part A C → PartSeen A) (n : ℕ) (code : ValidCode) where
  -- what was settled of a part that was such
  abbrev pub settled_as : Contents A C → PartSeen A
  settled_as x = seen (part_of n code x)

  -- Worker w carries its lane, which was settled as l, the clockwork if that is there, and what is held. All of it is
  -- moved out of the hand, and is as it was settled.
  abbrev pub desk_taken : ℕ → Lane A → Option (ClockBox C) → Held A → Carries (Part A C × PartSeen A)
  desk_taken w l clock held = record {
    lane = Some (part_away n code, part_of_lane n code l);
    banks = lifted n code V.Bank seen number_of_bank (parts held.banks);
    shards = lifted n code V.Shard seen number_of_shard (parts held.shards);
    timers = option_map (λ t. (part_away n code, settled_as (V.Timers t))) clock;
    ready = λ r. cond (eqb w r) (option_map (λ q. (part_away n code, settled_as (V.Ready q))) held.ready) None;
  }

  -- The same where the clockwork and what is held, settled as the first, lie in the hand again, as the second.
  abbrev pub laid_again : ℕ → Lane A → Option (ClockBox C) → Held A → Option (ClockBox C) → Held A → Carries (Part A C × PartSeen A)
  laid_again w l clock held clock2 held2 = record {
    lane = Some (part_away n code, part_of_lane n code l);
    banks = λ i. laid_back n code V.Bank (listed number_of_bank (parts held2.banks) i) (option_map (λ b. settled_as (V.Bank b)) (listed number_of_bank (parts held.banks) i));
    shards = λ i. laid_back n code V.Shard (listed number_of_shard (parts held2.shards) i) (option_map (λ s. settled_as (V.Shard s)) (listed number_of_shard (parts held.shards) i));
    timers = laid_back n code V.Timers clock2 (option_map (λ t. settled_as (V.Timers t)) clock);
    ready = λ r. cond (eqb w r) (laid_back n code V.Ready held2.ready (option_map (λ q. settled_as (V.Ready q)) held.ready)) None;
  }

  -- all but the lane, which an event beside it leaves alone
  abbrev pub laid_aside : ℕ → Lane A → Option (ClockBox C) → Held A → Option (ClockBox C) → Held A → Carries (Part A C × PartSeen A)
  laid_aside w l clock held clock2 held2 = with_at lane_place None (laid_again w l clock held clock2 held2)

  -- and the lane lies in the hand, too
  abbrev pub all_laid : ℕ → Lane A → LaneBox A → Option (ClockBox C) → Held A → Option (ClockBox C) → Held A → Carries (Part A C × PartSeen A)
  all_laid w l lane clock held clock2 held2 = with_at lane_place (Some (part_of n code (V.Lane lane), part_of_lane n code l)) (laid_again w l clock held clock2 held2)

-- which banks are held, and which shards, by their numbers
abbrev pub holds_banks : {A : Type 0} → Held A → ℕ → Bool
holds_banks held i = is_some (listed number_of_bank (parts held.banks) i)

abbrev pub holds_shards : {A : Type 0} → Held A → ℕ → Bool
holds_shards held i = is_some (listed number_of_shard (parts held.shards) i)

-- whichever ports and waits have these banks and shards, the event moves what worker w of n carries
abbrev pub IsMovedWith : {A C : Type 0} → (CodeView → A → Type 0) → (A → At) → (ProgramView → A → A → Type 0) → (A → Tree → A → Type 0) → (ProgramView → SeedView → A → Type 0) → (Part A C → PartSeen A) → ValidCode → (n w : ℕ) → (banks shards : ℕ → Bool) → said.Turn → Carries (Part A C × PartSeen A) → Type 0
IsMovedWith over place advances gives starts seen code n w banks shards what h = (ports looked : List ℕ) → ((i : ℕ) → i < 16 → said.homes ports i ≡ banks i) → ((i : ℕ) → i < 16 → said.homes looked i ≡ shards i)
    → IsMoved over place advances gives starts seen code n w (drawn_with w n what ports looked) h

-- nothing is held
pub record IsBare {A : Type 0} (held : Held A) : Type 0 where
  pub banks : parts held.banks ≡ []
  pub shards : parts held.shards ≡ []
  pub ready : held.ready ≡ None
  pub timers : held.timers ≡ None

-- the same parts are held, by their numbers
pub record SameHeld {A C : Type 0} (clock clock2 : Option (ClockBox C)) (held held2 : Held A) : Type 0 where
  pub banks : (i : ℕ) → is_some (listed number_of_bank (parts held2.banks) i) ≡ is_some (listed number_of_bank (parts held.banks) i)
  pub shards : (i : ℕ) → is_some (listed number_of_shard (parts held2.shards) i) ≡ is_some (listed number_of_shard (parts held.shards) i)
  pub ready : is_some held2.ready ≡ is_some held.ready
  pub timers : is_some clock2 ≡ is_some clock

-- the numbers that an event may give, and the clock's answer
pub record SameNumbers {A : Type 0} (old new : Held A) : Type 0 where
  pub task : new.new_task ≡ old.new_task
  pub port : new.new_port ≡ old.new_port
  pub wait : new.new_wait ≡ old.new_wait
  pub moment : new.moment ≡ old.moment

-- all is as before but the banks
pub record ButBanks {A : Type 0} (old new : Held A) : Type 0 where
  pub shards : new.shards ≡ old.shards
  pub ready : new.ready ≡ old.ready
  pub timers : new.timers ≡ old.timers
  pub numbers : SameNumbers old new

-- but the shards
pub record ButShards {A : Type 0} (old new : Held A) : Type 0 where
  pub banks : new.banks ≡ old.banks
  pub ready : new.ready ≡ old.ready
  pub timers : new.timers ≡ old.timers
  pub numbers : SameNumbers old new

-- but the ready part
pub record ButReady {A : Type 0} (old new : Held A) : Type 0 where
  pub banks : new.banks ≡ old.banks
  pub shards : new.shards ≡ old.shards
  pub timers : new.timers ≡ old.timers
  pub numbers : SameNumbers old new

module _ {X : Type 0} where
  -- a lane, banks, shards, the timers, and worker w's own ready part
  abbrev pub desk : ℕ → Option X → (ℕ → Option X) → (ℕ → Option X) → Option X → Option X → Carries X
  desk w lane banks shards timers ready = record { lane = lane; banks = banks; shards = shards; timers = timers; ready = λ r. cond (eqb w r) ready None }

-- those that are told are there, each settled as it is, and no other
pub record AreLaid {A C : Type 0} (seen : Part A C → PartSeen A) (told : Laid) (bs ss : ℕ → Option (Part A C × PartSeen A)) (t r : Option (Part A C × PartSeen A)) : Type 0 where
  pub banks : (i : ℕ) → i < 16 → SettledIf seen (has_home told.banks i) (bs i)
  pub shards : (i : ℕ) → i < 16 → SettledIf seen (has_home told.shards i) (ss i)
  pub timers : SettledIf seen told.timers t
  pub ready : SettledIf seen told.ready r

-- the banks and shards that are told are these
pub record TellsOf {A : Type 0} (told : Laid) (clocked : Bool) (held : Held A) : Type 0 where
  pub banks : (i : ℕ) → i < 16 → has_home told.banks i ≡ is_some (listed number_of_bank (parts held.banks) i)
  pub shards : (i : ℕ) → i < 16 → has_home told.shards i ≡ is_some (listed number_of_shard (parts held.shards) i)
  pub timers : told.timers ≡ clocked
  pub ready : told.ready ≡ is_some held.ready
