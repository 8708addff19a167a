-- What a worker carries, as the parts that it has moved out for an event show it.
use Rattle.std.specs.Prelude.{◌≡◌, ℕ, Option, Some, None, option_map, cond, eqb}
use Rattle.ca_commit.specs.Agents.{TaskAgent}
use Rattle.ca_commit.specs.Contents.{Content, PartContents as Part, LaneView, Parts, TimersPart, a_bank, a_lane, a_ready, a_shard, the_timers}
use Rattle.ca_commit.specs.Gathered.{bank_of, channels_of, lane_of, ready_of, registries_of, shard_of, sorted, timers_of}
use Rattle.ca_commit.specs.Listing.{listed}
use Rattle.ca_commit.specs.Listings.{parts}
use Rattle.ca_commit.specs.Numbers.{number_of_bank, number_of_shard}
use Rattle.ca_commit.specs.Showing.{bank_in, channels_held, registries_held, registries_in, shard_in, waits_held}
use Rattle.ca_commit.specs.Tasks.{tasks_in}
use Rattle.ca_commit.specs.Waking.{ready_in}
use Rattle.ca_commit.specs.declared.held.Held.{Held}
use Rattle.ca_commit.specs.declared.held.HeldBank.{HeldBank}
use Rattle.ca_commit.specs.declared.held.HeldShard.{HeldShard}
use Rattle.ca_commit.specs.declared.task.Ready.{Ready}
use Rattle.ca_table.specs.Carrying.{Carries}

module _ {A : Type 0} where
  -- worker w's lane, the timers, and what is held beside them, as the parts of a run; the ready part is its own
  abbrev pub parts_held : ℕ → Option (LaneView (TaskAgent A)) → Option TimersPart → Held A → Parts (TaskAgent A)
  parts_held w lane timers held = record {
    lane = λ v. cond (eqb w v) lane None;
    bank = channels_held held.banks;
    registry = registries_held held.banks;
    shard = waits_held held.shards;
    ready = λ r. cond (eqb w r) (ready_in held.ready) None;
    timers = timers;
  }

  -- these are what is carried
  pub record Bears {X : Type 0} (f : X → Content (TaskAgent A)) (w : ℕ) (h : Carries X) (lane : Option (LaneView (TaskAgent A))) (timers : Option TimersPart) (held : Held A) : Type 0 where
    pub lane_is : sorted lane_of (option_map f h.lane) ≡ lane
    pub channels : (i : ℕ) → channels_of (sorted bank_of (option_map f (h.banks i))) ≡ channels_held held.banks i
    pub registries : (i : ℕ) → registries_of (sorted bank_of (option_map f (h.banks i))) ≡ registries_held held.banks i
    pub waits : (i : ℕ) → sorted shard_of (option_map f (h.shards i)) ≡ waits_held held.shards i
    pub ready : (r : ℕ) → sorted ready_of (option_map f (h.ready r)) ≡ cond (eqb w r) (ready_in held.ready) None
    pub timers_are : sorted timers_of (option_map f h.timers) ≡ timers

  -- two that show the same
  pub record ShowSame (old new : Held A) : Type 0 where
    pub channels : (i : ℕ) → channels_held new.banks i ≡ channels_held old.banks i
    pub registries : (i : ℕ) → registries_held new.banks i ≡ registries_held old.banks i
    pub waits : (i : ℕ) → waits_held new.shards i ≡ waits_held old.shards i
    pub ready : ready_in new.ready ≡ ready_in old.ready

abbrev pub content : {A : Type 0} → ℕ → Part A → Content A
content n x = record { workers = n; held = x }

module _ {A : Type 0} (n : ℕ) where
  abbrev pub lane_content : LaneView (TaskAgent A) → Content (TaskAgent A)
  lane_content l = content n (a_lane l)

  abbrev pub bank_content : HeldBank → Content (TaskAgent A)
  bank_content b = content n (a_bank (record { channels = bank_in b; registries = registries_in b }))

  abbrev pub shard_content : HeldShard A → Content (TaskAgent A)
  shard_content s = content n (a_shard (shard_in s))

  abbrev pub timers_content : TimersPart → Content (TaskAgent A)
  timers_content c = content n (the_timers c)

  abbrev pub ready_content : Ready A → Content (TaskAgent A)
  ready_content r = content n (a_ready (tasks_in r))

  -- each part that is carried is one of n workers, and what of the lane, the timers and what is held stands there
  pub record IsMadeOf {X : Type 0} (f : X → Content (TaskAgent A)) (w : ℕ) (h : Carries X) (lane : Option (LaneView (TaskAgent A))) (timers : Option TimersPart) (held : Held A) : Type 0 where
    pub lane_part : option_map f h.lane ≡ option_map lane_content lane
    pub bank_parts : (i : ℕ) → option_map f (h.banks i) ≡ option_map bank_content (listed number_of_bank (parts held.banks) i)
    pub shard_parts : (i : ℕ) → option_map f (h.shards i) ≡ option_map shard_content (listed number_of_shard (parts held.shards) i)
    pub timers_part : option_map f h.timers ≡ option_map timers_content timers
    pub ready_parts : (r : ℕ) → option_map f (h.ready r) ≡ cond (eqb w r) (option_map ready_content held.ready) None

-- a part as it is now, with what was settled of it
abbrev pub paired_parts : {X Y : Type 0} → Option X → Option Y → Option (X × Y)
paired_parts None o = None
paired_parts (Some x) None = None
paired_parts (Some x) (Some y) = Some (x, y)
