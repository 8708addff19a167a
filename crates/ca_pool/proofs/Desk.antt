-- A worker's desk: what it has taken shows what was settled, lies in the hand again, and is what an event touches.
use Rattle.std.proofs.Common.{◌≡◌, ◌∙◌, ⊎_elim, ℕ, ◌+◌, ◌<◌, ◌≤◌, List, [], refl, sym, ap, arith, subst, Bool, true, false, cond, Option, Some, None, eqb, is_some}
use Rattle.std.specs.Prelude.{option_map}
use Rattle.std.proofs.lemmas.Bool.{cases_lt}
use Rattle.ca_value.specs.Tree.{Tree}
use Rattle.ca_term.specs.Operation.{SeedView}
use Rattle.ca_term.specs.Program.{ProgramView}
use Rattle.ca_meaning.specs.Body.{At}
use Rattle.ca_meaning.specs.Task.{TaskBody}
use Rattle.ca_registry.specs.Registry.{registry_view}
use Rattle.ca_bank.specs.Room.{kept_view}
use Rattle.ca_turns.specs.Hands.{Held as Hand, IsHolding, TableId}
use Rattle.ca_commit.specs.Agents.{TaskAgent}
use Rattle.ca_commit.specs.Contents.{Content, TimersPart}
use Rattle.ca_commit.specs.Listing.{listed}
use Rattle.ca_commit.specs.Listings.{parts}
use Rattle.ca_commit.specs.Numbers.{number_of_bank, number_of_shard}
use Rattle.ca_commit.specs.Showing.{bank_in, parked_view, registries_in, shard_in}
use Rattle.ca_commit.specs.Tasks.{tasks_in}
use Rattle.ca_commit.specs.Touched as said
use Rattle.ca_commit.specs.declared.held.Held.{Held}
use Rattle.ca_commit.specs.declared.held.HeldBank.{HeldBank}
use Rattle.ca_commit.specs.declared.held.HeldShard.{HeldShard}
use Rattle.ca_commit.specs.declared.task.Ready.{Ready}
use Rattle.ca_states.specs.Code.{CodeView}
use Rattle.ca_states.specs.ValidCode.{valid_code}
use Rattle.ca_states.specs.declared.valid_code.ValidCode.{ValidCode}
use Rattle.ca_table.specs.Bearing.{ShowSame, bank_content, ready_content, shard_content, timers_content}
use Rattle.ca_table.specs.Beside.{settled_beside}
use Rattle.ca_table.specs.Carriers.{IsCarrying, IsMoved, LaneBox, is_now, just_lane, was}
use Rattle.ca_table.specs.Carrying.{Carries, at_places, each_by, lane_place, ready_place, with_at}
use Rattle.ca_table.specs.Covering.{is_named_one}
use Rattle.ca_table.specs.DrawnEvents.{IsTurned}
use Rattle.ca_table.specs.Grips.{SameHand, settled_one}
use Rattle.ca_table.specs.Homes.{has_home, members}
use Rattle.ca_table.specs.Lifting.{SettledIf, laid_back, lifted}
use Rattle.ca_table.specs.Needing.{Brings, drawn_with, own_if}
use Rattle.ca_table.specs.Parts.{part_away, bank_seen, clockwork_seen, lane_seen, part_of, part_seen, shard_seen}
use Rattle.ca_table.specs.Seen.{PartSeen, content_of, lane_of_seen, seen_bank, seen_ready, seen_shard}
use Rattle.ca_table.specs.Workers.{part_of_lane}
use Rattle.ca_table.specs.declared.part.Contents.{Contents}
use Rattle.ca_table.specs.declared.part.Contents.TheVariants as V
use Rattle.ca_table.specs.declared.part.Lane.{Lane}
use Rattle.ca_table.specs.declared.part.Part.{Part}
use Rattle.ca_table.specs.declared.worker.Worker.{Worker}
use Rattle.ca_table.proofs.Carried.{everywhere}
use Rattle.ca_table.proofs.Carrying.{at_bank, at_ready, at_shard, at_timers}
use Rattle.ca_table.proofs.Finite.{same_finite}
use Rattle.ca_table.proofs.Gripping.{held_is}
use Rattle.ca_table.proofs.HomeMembers.{members_homes}
use Rattle.ca_table.proofs.Loaded.{bank_is, shard_is}
use Rattle.ca_table.proofs.MadeOf.{some_same}
use Rattle.ca_pool.specs.Desk.{AreLaid, ClockBox, IsBare, IsMovedWith, SameHeld, TellsOf, all_laid, desk, holds_banks, holds_shards, laid_again, laid_aside, settled_as, desk_taken}
use Rattle.ca_pool.specs.declared.release.Laid.{Laid}

-- what is there after a map is there before it
pub some_map : {X Y : Type 0} (f : X → Y) (o : Option X) → is_some (option_map f o) ≡ is_some o
some_map f None = refl
some_map f (Some x) = refl

map_twice : {X Y Z : Type 0} (f : X → Y) (g : Y → Z) (o : Option X) → option_map (λ x. g (f x)) o ≡ option_map g (option_map f o)
map_twice f g None = refl
map_twice f g (Some x) = refl

-- of a worker's own ready part, where there is none
pub none_own : {X : Type 0} (b : Bool) (o : Option X) → o ≡ None → cond b o None ≡ None
none_own true o e = e
none_own false o e = refl

-- the same hand, and then the same again
pub then_hand : {P C E : Type 0} (x y z : Hand P C E) → SameHand x y → SameHand y z → SameHand x z
then_hand x y z a b = record { table = b.table ∙ a.table; opening = b.opening ∙ a.opening; hands = b.hands ∙ a.hands; stands_for = b.stands_for ∙ a.stands_for }

module _ {A C : Type 0} (over : CodeView → A → Type 0) (stands_as : ProgramView → A → TaskBody → Type 0) (program : ProgramView) (code : ValidCode) (id : TableId) (n : ℕ) (w : Worker A C) (h : Carries (Part A C × PartSeen A)) (s : IsCarrying over stands_as program code id n w h) where
  -- a worker that carries nothing from part k on holds nothing there
  pub held_below : (k : ℕ) → n ≤ k → ((i : ℕ) → k ≤ n + i → h.banks i ≡ None) → ((i : ℕ) → k ≤ n + 16 + i → h.shards i ≡ None) → (k ≤ n + 32 → h.timers ≡ None) → ((r : ℕ) → h.ready r ≡ None) → (i : ℕ) → IsHolding w.hand i → i < k
  held_below k low banks shards timers ready i holds = ⊎_elim (λ lt. lt) (λ le. absurd (held_is w.hand (at_places n w.number h) i s.grips holds (none i le))) (cases_lt i k) where
    none : (j : ℕ) → k ≤ j → at_places n w.number h j ≡ None
    none j = everywhere n (λ (j : ℕ). k ≤ j → at_places n w.number h j ≡ None)
        (λ j lt le. absurd (omega (arith, low, lt, le)))
        (λ i lt le. at_bank n w.number h i lt ∙ banks i le)
        (λ i lt le. at_shard n w.number h i lt ∙ shards i le)
        (λ le. at_timers n w.number h ∙ timers le)
        (λ r le. at_ready n w.number h r ∙ ready r) j

module _ {A C T : Type 0} (seen : Part A C → PartSeen A) (n : ℕ) (code : ValidCode) (as_contents : T → Contents A C) where
  abbrev as_settled : T → PartSeen A
  as_settled x = seen (part_of n code (as_contents x))

  -- what was moved out as it was settled
  pub lies_away : (o : Option T) → laid_back n code as_contents None (option_map as_settled o) ≡ option_map (λ x. (part_away n code, as_settled x)) o
  lies_away None = refl
  lies_away (Some x) = refl

  -- what lies in the hand again is there where it was
  pub lies_there : (o z : Option T) → is_some z ≡ is_some o → is_some (laid_back n code as_contents z (option_map as_settled o)) ≡ is_some z
  lies_there None None e = refl
  lies_there None (Some y) e = absurd (let k : true ≡ false = e in cc)
  lies_there (Some x) None e = absurd (let k : false ≡ true = e in cc)
  lies_there (Some x) (Some y) e = refl

  module _ (whole : T → Content (TaskAgent A)) (is : (x : T) → content_of (as_settled x) ≡ whole x) where
    -- as it was settled, and as it is
    pub lies_was : (o z : Option T) → is_some z ≡ is_some o → option_map (was {A = A} {C = C}) (laid_back n code as_contents z (option_map as_settled o)) ≡ option_map whole o
    lies_was None None e = refl
    lies_was None (Some y) e = refl
    lies_was (Some x) None e = absurd (let k : false ≡ true = e in cc)
    lies_was (Some x) (Some y) e = ap Some (is x)

    pub lies_now : (o z : Option T) → is_some z ≡ is_some o → option_map (is_now seen) (laid_back n code as_contents z (option_map as_settled o)) ≡ option_map whole z
    lies_now None None e = refl
    lies_now None (Some y) e = absurd (let k : true ≡ false = e in cc)
    lies_now (Some x) None e = absurd (let k : false ≡ true = e in cc)
    lies_now (Some x) (Some y) e = ap Some (is y)

  -- what lies there unchanged is settled as it is
  pub settled_same : (b : Bool) (o : Option T) → b ≡ is_some o → SettledIf seen b (laid_back n code as_contents o (option_map as_settled o))
  settled_same false None e = refl
  settled_same true None e = absurd (let k : true ≡ false = e in cc)
  settled_same false (Some x) e = absurd (let k : false ≡ true = e in cc)
  settled_same true (Some x) e = (part_of n code (as_contents x), refl)

  -- and so is all once the event is drawn
  pub settled_after : (b : Bool) (o z : Option T) → b ≡ is_some z → is_some z ≡ is_some o → SettledIf seen b (settled_one seen (laid_back n code as_contents z (option_map as_settled o)))
  settled_after false None None e k = refl
  settled_after true None None e k = absurd (let f : true ≡ false = e in cc)
  settled_after b None (Some y) e k = absurd (let f : true ≡ false = k in cc)
  settled_after b (Some x) None e k = absurd (let f : false ≡ true = k in cc)
  settled_after false (Some x) (Some y) e k = absurd (let f : false ≡ true = e in cc)
  settled_after true (Some x) (Some y) e k = (part_of n code (as_contents y), refl)

module _ {A C : Type 0} (seen : Part A C → PartSeen A) (n : ℕ) (code : ValidCode) (w : ℕ) (l : Lane A) where
  -- what was settled of the parts that are held
  abbrev pub banks_were : Held A → ℕ → Option (PartSeen A)
  banks_were held i = option_map (λ b. settled_as seen n code (V.Bank b)) (listed number_of_bank (parts held.banks) i)

  abbrev pub shards_were : Held A → ℕ → Option (PartSeen A)
  shards_were held i = option_map (λ s. settled_as seen n code (V.Shard s)) (listed number_of_shard (parts held.shards) i)

  abbrev pub timers_were : Option (ClockBox C) → Option (PartSeen A)
  timers_were clock = option_map (λ t. settled_as seen n code (V.Timers t)) clock

  abbrev pub ready_were : Held A → Option (PartSeen A)
  ready_were held = option_map (λ q. settled_as seen n code (V.Ready q)) held.ready

  -- a part that was moved out as it was settled
  abbrev pub away_as : Contents A C → Part A C × PartSeen A
  away_as x = (part_away n code, settled_as seen n code x)

  abbrev pub ready_laid : Held A → Held A → Option (Part A C × PartSeen A)
  ready_laid held0 held = laid_back n code V.Ready held.ready (ready_were held0)

  abbrev pub lane_away : Option (Part A C × PartSeen A)
  lane_away = Some (part_away n code, part_of_lane n code l)

  -- what is taken, as what lies away
  pub taken_away : (clock : Option (ClockBox C)) (held : Held A) → desk_taken seen n code w l clock held
      ≡ desk w lane_away (λ i. laid_back n code V.Bank None (banks_were held i)) (λ i. laid_back n code V.Shard None (shards_were held i)) (laid_back n code V.Timers None (timers_were clock)) (laid_back n code V.Ready None (ready_were held))
  taken_away clock held = λ t. record {
    lane = lane_away;
    banks = λ i. sym (lies_away seen n code V.Bank (listed number_of_bank (parts held.banks) i)) t;
    shards = λ i. sym (lies_away seen n code V.Shard (listed number_of_shard (parts held.shards) i)) t;
    timers = sym (lies_away seen n code V.Timers clock) t;
    ready = λ r. cond (eqb w r) (sym (lies_away seen n code V.Ready held.ready) t) None;
  }

  module _ (clock0 clock : Option (ClockBox C)) (held0 held : Held A) where
    -- what is taken lies away: the banks come back, then the shards, the ready part, and the timers
    abbrev pub nothing_back : Carries (Part A C × PartSeen A)
    nothing_back = desk w lane_away (λ i. laid_back n code V.Bank None (banks_were held0 i)) (λ i. laid_back n code V.Shard None (shards_were held0 i)) (laid_back n code V.Timers None (timers_were clock0)) (laid_back n code V.Ready None (ready_were held0))

    abbrev pub banks_back : Carries (Part A C × PartSeen A)
    banks_back = desk w lane_away (λ i. laid_back n code V.Bank (listed number_of_bank (parts held.banks) i) (banks_were held0 i)) (λ i. laid_back n code V.Shard None (shards_were held0 i)) (laid_back n code V.Timers None (timers_were clock0)) (laid_back n code V.Ready None (ready_were held0))

    -- all of it, with the ready part of worker k
    abbrev pub desk_laid : ℕ → Carries (Part A C × PartSeen A)
    desk_laid k = let h = laid_again seen n code w l clock0 held0 clock held in desk k h.lane h.banks h.shards h.timers (laid_back n code V.Ready held.ready (ready_were held0))

    -- and once it is settled, with this lane
    abbrev pub desk_after : Option (Part A C × PartSeen A) → ℕ → Carries (Part A C × PartSeen A)
    desk_after lane k = let h = laid_again seen n code w l clock0 held0 clock held in
        desk k lane (λ i. settled_one seen (h.banks i)) (λ i. settled_one seen (h.shards i)) (settled_one seen h.timers) (settled_one seen (laid_back n code V.Ready held.ready (ready_were held0)))

    -- all but the ready part
    abbrev pub shards_back : Carries (Part A C × PartSeen A)
    shards_back = record {
      lane = lane_away;
      banks = λ i. laid_back n code V.Bank (listed number_of_bank (parts held.banks) i) (banks_were held0 i);
      shards = λ i. laid_back n code V.Shard (listed number_of_shard (parts held.shards) i) (shards_were held0 i);
      timers = laid_back n code V.Timers None (timers_were clock0);
      ready = λ r. None;
    }

    abbrev pub ready_back : Carries (Part A C × PartSeen A)
    ready_back = with_at (ready_place w) (laid_back n code V.Ready held.ready (ready_were held0)) shards_back

  -- where nothing is held the lane alone is taken
  pub bare_taken : (held : Held A) → IsBare held → desk_taken seen n code w l None held ≡ just_lane n code l
  bare_taken held b = λ t. record {
    lane = lane_away;
    banks = λ i. ap (λ (xs : List HeldBank). option_map (λ x. away_as (V.Bank x)) (listed number_of_bank xs i)) b.banks t;
    shards = λ i. ap (λ (xs : List (HeldShard A)). option_map (λ x. away_as (V.Shard x)) (listed number_of_shard xs i)) b.shards t;
    timers = None;
    ready = λ r. none_ready r t;
  } where
    none_ready : (r : ℕ) → cond (eqb w r) (option_map (λ q. away_as (V.Ready q)) held.ready) None ≡ None
    none_ready r = none_own (eqb w r) (option_map (λ q. away_as (V.Ready q)) held.ready) (ap (option_map (λ q. away_as (V.Ready q))) b.ready)

  -- none of a kind
  pub no_banks : (held : Held A) → parts held.banks ≡ [] → (i : ℕ) → lifted n code V.Bank seen number_of_bank (parts held.banks) i ≡ None
  no_banks held e i = ap (λ (xs : List HeldBank). lifted n code V.Bank seen number_of_bank xs i) e

  pub no_shards : (held : Held A) → parts held.shards ≡ [] → (i : ℕ) → lifted n code V.Shard seen number_of_shard (parts held.shards) i ≡ None
  no_shards held e i = ap (λ (xs : List (HeldShard A)). lifted n code V.Shard seen number_of_shard xs i) e

  pub no_shard : (held : Held A) (i : ℕ) → listed number_of_shard (parts held.shards) i ≡ None → lifted n code V.Shard seen number_of_shard (parts held.shards) i ≡ None
  no_shard held i e = ap (option_map (λ s. away_as (V.Shard s))) e

  pub no_ready : (held : Held A) (clock : Option (ClockBox C)) → held.ready ≡ None → (r : ℕ) → (desk_taken seen n code w l clock held).ready r ≡ None
  no_ready held clock e r = none_own (eqb w r) (option_map (λ q. away_as (V.Ready q)) held.ready) (ap (option_map (λ q. away_as (V.Ready q))) e)

  -- the same parts are taken where the room beside them changed
  pub taken_by : (clock : Option (ClockBox C)) (old new : Held A) → parts new.banks ≡ parts old.banks → parts new.shards ≡ parts old.shards → new.ready ≡ old.ready → desk_taken seen n code w l clock old ≡ desk_taken seen n code w l clock new
  taken_by clock old new banks shards ready = λ t. record {
    lane = lane_away;
    banks = λ i. lifted n code V.Bank seen number_of_bank (sym banks t) i;
    shards = λ i. lifted n code V.Shard seen number_of_shard (sym shards t) i;
    timers = option_map (λ t. away_as (V.Timers t)) clock;
    ready = λ r. cond (eqb w r) (option_map (λ q. away_as (V.Ready q)) (sym ready t)) None;
  }

  -- with a ready part more
  abbrev pub ready_too : Option (ClockBox C) → Held A → Ready A → Carries (Part A C × PartSeen A)
  ready_too clock held q = let h = desk_taken seen n code w l clock held in desk w h.lane h.banks h.shards h.timers (Some (away_as (V.Ready q)))

  pub with_own : (clock : Option (ClockBox C)) (held : Held A) (q : Ready A) → held.ready ≡ None → with_at (ready_place w) (Some (away_as (V.Ready q))) (desk_taken seen n code w l clock held) ≡ ready_too clock held q
  with_own clock held q none = λ t. let h = desk_taken seen n code w l clock held in record { lane = h.lane; banks = h.banks; shards = h.shards; timers = h.timers; ready = λ r. own (eqb w r) (h.ready r) (no_ready held clock none r) t } where
    own : (b : Bool) (o : Option (Part A C × PartSeen A)) → o ≡ None → cond b (Some (away_as (V.Ready q))) o ≡ cond b (Some (away_as (V.Ready q))) None
    own true o e = refl
    own false o e = e

  -- all of it settled as it is
  pub each_desk : (lane : Option (Part A C × PartSeen A)) (banks shards : ℕ → Option (Part A C × PartSeen A)) (timers ready : Option (Part A C × PartSeen A))
      → each_by (settled_one seen) (desk w lane banks shards timers ready) ≡ desk w (settled_one seen lane) (λ i. settled_one seen (banks i)) (λ i. settled_one seen (shards i)) (settled_one seen timers) (settled_one seen ready)
  each_desk lane banks shards timers ready = λ t. record { lane = settled_one seen lane; banks = λ i. settled_one seen (banks i); shards = λ i. settled_one seen (shards i); timers = settled_one seen timers; ready = λ r. own (eqb w r) t } where
    own : (b : Bool) → settled_one seen (cond b ready None) ≡ cond b (settled_one seen ready) None
    own true = refl
    own false = refl

  pub beside_desk : (lane : Option (Part A C × PartSeen A)) (banks shards : ℕ → Option (Part A C × PartSeen A)) (timers ready : Option (Part A C × PartSeen A))
      → settled_beside seen (desk w lane banks shards timers ready) ≡ desk w lane (λ i. settled_one seen (banks i)) (λ i. settled_one seen (shards i)) (settled_one seen timers) (settled_one seen ready)
  beside_desk lane banks shards timers ready = ap (with_at lane_place lane) (each_desk None banks shards timers ready)

  -- what lies in the hand unchanged, and what lies there once an event is drawn, is settled as it is
  pub laid_same : (told : Laid) (clock : Option (ClockBox C)) (held : Held A) → TellsOf told (is_some clock) held
      → AreLaid seen told (λ i. laid_back n code V.Bank (listed number_of_bank (parts held.banks) i) (banks_were held i)) (λ i. laid_back n code V.Shard (listed number_of_shard (parts held.shards) i) (shards_were held i)) (laid_back n code V.Timers clock (timers_were clock)) (laid_back n code V.Ready held.ready (ready_were held))
  laid_same told clock held tells = record {
    banks = λ i lt. settled_same seen n code V.Bank (has_home told.banks i) (listed number_of_bank (parts held.banks) i) (tells.banks i lt);
    shards = λ i lt. settled_same seen n code V.Shard (has_home told.shards i) (listed number_of_shard (parts held.shards) i) (tells.shards i lt);
    timers = settled_same seen n code V.Timers told.timers clock tells.timers;
    ready = settled_same seen n code V.Ready told.ready held.ready tells.ready;
  }

  pub laid_after : (told : Laid) (clock0 clock : Option (ClockBox C)) (held0 held : Held A) → SameHeld clock0 clock held0 held → TellsOf told (is_some clock) held
      → AreLaid seen told (λ i. settled_one seen (laid_back n code V.Bank (listed number_of_bank (parts held.banks) i) (banks_were held0 i))) (λ i. settled_one seen (laid_back n code V.Shard (listed number_of_shard (parts held.shards) i) (shards_were held0 i))) (settled_one seen (laid_back n code V.Timers clock (timers_were clock0))) (settled_one seen (laid_back n code V.Ready held.ready (ready_were held0)))
  laid_after told clock0 clock held0 held same tells = record {
    banks = λ i lt. settled_after seen n code V.Bank (has_home told.banks i) (listed number_of_bank (parts held0.banks) i) (listed number_of_bank (parts held.banks) i) (tells.banks i lt) (same.banks i);
    shards = λ i lt. settled_after seen n code V.Shard (has_home told.shards i) (listed number_of_shard (parts held0.shards) i) (listed number_of_shard (parts held.shards) i) (tells.shards i lt) (same.shards i);
    timers = settled_after seen n code V.Timers told.timers clock0 clock tells.timers same.timers;
    ready = settled_after seen n code V.Ready told.ready held0.ready held.ready tells.ready same.ready;
  }

  -- what is there was there
  pub banks_there : (clock0 clock : Option (ClockBox C)) (held0 held : Held A) → SameHeld clock0 clock held0 held → (i : ℕ) → is_some (banks_were held0 i) ≡ is_some (listed number_of_bank (parts held.banks) i)
  banks_there clock0 clock held0 held same i = some_map (λ b. settled_as seen n code (V.Bank b)) (listed number_of_bank (parts held0.banks) i) ∙ sym (same.banks i)

  pub shards_there : (clock0 clock : Option (ClockBox C)) (held0 held : Held A) → SameHeld clock0 clock held0 held → (i : ℕ) → is_some (shards_were held0 i) ≡ is_some (listed number_of_shard (parts held.shards) i)
  shards_there clock0 clock held0 held same i = some_map (λ s. settled_as seen n code (V.Shard s)) (listed number_of_shard (parts held0.shards) i) ∙ sym (same.shards i)

  pub timers_there : (clock0 clock : Option (ClockBox C)) (held0 held : Held A) → SameHeld clock0 clock held0 held → is_some (timers_were clock0) ≡ is_some clock
  timers_there clock0 clock held0 held same = some_map (λ t. settled_as seen n code (V.Timers t)) clock0 ∙ sym same.timers

  pub ready_there : (clock0 clock : Option (ClockBox C)) (held0 held : Held A) → SameHeld clock0 clock held0 held → is_some (ready_were held0) ≡ is_some held.ready
  ready_there clock0 clock held0 held same = some_map (λ q. settled_as seen n code (V.Ready q)) held0.ready ∙ sym same.ready

  -- an event's ports and waits are those of the parts that lie in the hand for it
  pub brings_laid : (clock0 clock : Option (ClockBox C)) (held0 held : Held A) (lane : Option (Part A C × PartSeen A)) (ports looked : List ℕ) (with_timers with_ready : Bool) → SameHeld clock0 clock held0 held
      → ((i : ℕ) → i < 16 → said.homes ports i ≡ holds_banks held i) → ((i : ℕ) → i < 16 → said.homes looked i ≡ holds_shards held i) → with_timers ≡ is_some clock → with_ready ≡ is_some held.ready
      → Brings ports looked with_timers (own_if with_ready w) (desk w lane (laid_again seen n code w l clock0 held0 clock held).banks (laid_again seen n code w l clock0 held0 clock held).shards (laid_again seen n code w l clock0 held0 clock held).timers (laid_back n code V.Ready held.ready (ready_were held0)))
  brings_laid clock0 clock held0 held lane ports looked with_timers with_ready same banks shards timers ready = record {
    banks = λ i lt. banks i lt ∙ sym (lies_there seen n code V.Bank (listed number_of_bank (parts held0.banks) i) (listed number_of_bank (parts held.banks) i) (same.banks i));
    shards = λ i lt. shards i lt ∙ sym (lies_there seen n code V.Shard (listed number_of_shard (parts held0.shards) i) (listed number_of_shard (parts held.shards) i) (same.shards i));
    timers = timers ∙ sym (lies_there seen n code V.Timers clock0 clock same.timers);
    ready = λ r. own (eqb w r) r refl with_ready (ready ∙ sym (lies_there seen n code V.Ready held0.ready held.ready same.ready));
  } where
    own : (b : Bool) (r : ℕ) → eqb w r ≡ b → (e : Bool) → e ≡ is_some (ready_laid held0 held) → is_named_one (own_if e w) r ≡ is_some (cond b (ready_laid held0 held) None)
    own true r is true e = is ∙ e
    own true r is false e = e
    own false r is true e = is
    own false r is false e = refl

module _ {A C : Type 0} (over : CodeView → A → Type 0) (place : A → At) (advances : ProgramView → A → A → Type 0) (gives : A → Tree → A → Type 0) (starts : ProgramView → SeedView → A → Type 0) (seen : Part A C → PartSeen A) (code : ValidCode) (n : ℕ) where
  -- what is told of an event by the parts that are held is told by those that lie in the hand
  pub moved_told : (v w : ℕ) (told : Laid) (clocked : Bool) (held : Held A) (what : said.Turn) (h : Carries (Part A C × PartSeen A)) → v ≡ w → TellsOf told clocked held
      → IsMovedWith over place advances gives starts seen code n w (holds_banks held) (holds_shards held) what h → IsMovedWith over place advances gives starts seen code n v (has_home told.banks) (has_home told.shards) what h
  moved_told v w told clocked held what h same tells moved = subst (λ (k : ℕ). IsMovedWith over place advances gives starts seen code n k (has_home told.banks) (has_home told.shards) what h) (sym same)
      (λ ports looked banks shards. moved ports looked (λ i lt. banks i lt ∙ tells.banks i lt) (λ i lt. shards i lt ∙ tells.shards i lt))

  -- and as it is drawn
  pub moved_drawn : (w k : ℕ) (told : Laid) (what : said.Turn) (d : said.Drawn) (h : Carries (Part A C × PartSeen A)) → k ≡ n → d ≡ drawn_with w k what (members told.banks) (members told.shards)
      → IsMovedWith over place advances gives starts seen code n w (has_home told.banks) (has_home told.shards) what h → IsMoved over place advances gives starts seen code n w d h
  moved_drawn w k told what d h of is moved = subst (λ (d : said.Drawn). IsMoved over place advances gives starts seen code n w d h) (sym (is ∙ ap (λ (k : ℕ). drawn_with w k what (members told.banks) (members told.shards)) of))
      (moved (members told.banks) (members told.shards) (members_homes told.banks) (members_homes told.shards))

-- what shows the same is settled the same
bank_same : (x y : HeldBank) → bank_in y ≡ bank_in x → registries_in y ≡ registries_in x → bank_seen x.bank.value ≡ bank_seen y.bank.value
bank_same x y c r = λ t. record {
  channels = same_finite kept_view x.bank.value.rooms y.bank.value.rooms (λ p. ap (λ f. f p) (sym c)) t;
  registries = same_finite registry_view x.bank.value.registries y.bank.value.registries (λ p. ap (λ f. f p) (sym r)) t;
}

shard_same : {A : Type 0} (x y : HeldShard A) → shard_in y ≡ shard_in x → shard_seen x.shard.value ≡ shard_seen y.shard.value
shard_same x y e = same_finite parked_view x.shard.value.waits y.shard.value.waits (λ p. ap (λ f. f p) (sym e))

-- what a clockwork shows
abbrev pub clock_seen : {C : Type 0} → (least faults : C → ℕ) → (readings : C → Option (List ℕ)) → Option (ClockBox C) → Option TimersPart
clock_seen least faults readings clock = option_map (λ c. clockwork_seen least faults readings c.value) clock

own_part : {X Y : Type 0} (f : X → Y) (b : Bool) (o : Option X) → option_map f (cond b o None) ≡ cond b (option_map f o) None
own_part f true o = refl
own_part f false o = refl

module _ {A C : Type 0} (least faults : C → ℕ) (readings : C → Option (List ℕ)) (n : ℕ) (code : ValidCode) where
  abbrev shows : Part A C → PartSeen A
  shows = part_seen least faults readings

  abbrev out : Contents A C → Part A C × PartSeen A
  out x = (part_away n code, settled_as shows n code x)

  same_banks : (o z : Option HeldBank) → option_map bank_in z ≡ option_map bank_in o → option_map registries_in z ≡ option_map registries_in o → option_map (λ b. out (V.Bank b)) o ≡ option_map (λ b. out (V.Bank b)) z
  same_banks None None a b = refl
  same_banks None (Some y) a b = absurd (let k : Some (bank_in y) ≡ None = a in cc)
  same_banks (Some x) None a b = absurd (let k : None ≡ Some (bank_in x) = a in cc)
  same_banks (Some x) (Some y) a b = ap (λ s. Some (part_away n code, record { workers = n; code = valid_code code; held = seen_bank s })) (bank_same x y (some_same (bank_in y) (bank_in x) a) (some_same (registries_in y) (registries_in x) b))

  same_shards : (o z : Option (HeldShard A)) → option_map shard_in z ≡ option_map shard_in o → option_map (λ s. out (V.Shard s)) o ≡ option_map (λ s. out (V.Shard s)) z
  same_shards None None a = refl
  same_shards None (Some y) a = absurd (let k : Some (shard_in y) ≡ None = a in cc)
  same_shards (Some x) None a = absurd (let k : None ≡ Some (shard_in x) = a in cc)
  same_shards (Some x) (Some y) a = ap (λ s. Some (part_away n code, record { workers = n; code = valid_code code; held = seen_shard s })) (shard_same x y (some_same (shard_in y) (shard_in x) a))

  same_ready : (o z : Option (Ready A)) → option_map tasks_in z ≡ option_map tasks_in o → option_map (λ q. out (V.Ready q)) o ≡ option_map (λ q. out (V.Ready q)) z
  same_ready None None a = refl
  same_ready None (Some y) a = absurd (let k : Some (tasks_in y) ≡ None = a in cc)
  same_ready (Some x) None a = absurd (let k : None ≡ Some (tasks_in x) = a in cc)
  same_ready (Some x) (Some y) a = ap (λ q. Some (part_away n code, record { workers = n; code = valid_code code; held = seen_ready q })) (sym (some_same (tasks_in y) (tasks_in x) a))

  -- a call that only reserves leaves what is taken as it was
  pub taken_same : (w : ℕ) (l : Lane A) (clock : Option (ClockBox C)) (old new : Held A) → ShowSame old new → desk_taken shows n code w l clock old ≡ desk_taken shows n code w l clock new
  taken_same w l clock old new same = λ t. record {
    lane = Some (part_away n code, part_of_lane n code l);
    banks = λ i. same_banks (listed number_of_bank (parts old.banks) i) (listed number_of_bank (parts new.banks) i) (same.channels i) (same.registries i) t;
    shards = λ i. same_shards (listed number_of_shard (parts old.shards) i) (listed number_of_shard (parts new.shards) i) (same.waits i) t;
    timers = option_map (λ c. out (V.Timers c)) clock;
    ready = λ r. cond (eqb w r) (same_ready old.ready new.ready same.ready t) None;
  }

  module _ (w : ℕ) (l : Lane A) (clock0 clock : Option (ClockBox C)) (held0 held : Held A) (same : SameHeld clock0 clock held0 held) where
    abbrev banks_was : (i : ℕ) → option_map was ((laid_again shows n code w l clock0 held0 clock held).banks i) ≡ option_map (bank_content n) (listed number_of_bank (parts held0.banks) i)
    banks_was i = lies_was shows n code V.Bank (bank_content n) (bank_is A n) (listed number_of_bank (parts held0.banks) i) (listed number_of_bank (parts held.banks) i) (same.banks i)

    abbrev banks_now : (i : ℕ) → option_map (is_now shows) ((laid_again shows n code w l clock0 held0 clock held).banks i) ≡ option_map (bank_content n) (listed number_of_bank (parts held.banks) i)
    banks_now i = lies_now shows n code V.Bank (bank_content n) (bank_is A n) (listed number_of_bank (parts held0.banks) i) (listed number_of_bank (parts held.banks) i) (same.banks i)

    abbrev shards_was : (i : ℕ) → option_map was ((laid_again shows n code w l clock0 held0 clock held).shards i) ≡ option_map (shard_content n) (listed number_of_shard (parts held0.shards) i)
    shards_was i = lies_was shows n code V.Shard (shard_content n) (shard_is n) (listed number_of_shard (parts held0.shards) i) (listed number_of_shard (parts held.shards) i) (same.shards i)

    abbrev shards_now : (i : ℕ) → option_map (is_now shows) ((laid_again shows n code w l clock0 held0 clock held).shards i) ≡ option_map (shard_content n) (listed number_of_shard (parts held.shards) i)
    shards_now i = lies_now shows n code V.Shard (shard_content n) (shard_is n) (listed number_of_shard (parts held0.shards) i) (listed number_of_shard (parts held.shards) i) (same.shards i)

    abbrev clock_content : ClockBox C → Content (TaskAgent A)
    clock_content c = timers_content n (clockwork_seen least faults readings c.value)

    timers_was : option_map was (laid_again shows n code w l clock0 held0 clock held).timers ≡ option_map (timers_content n) (clock_seen least faults readings clock0)
    timers_was = lies_was shows n code V.Timers clock_content (λ c. refl) clock0 clock same.timers ∙ map_twice (λ c. clockwork_seen least faults readings c.value) (timers_content n) clock0

    timers_now : option_map (is_now shows) (laid_again shows n code w l clock0 held0 clock held).timers ≡ option_map (timers_content n) (clock_seen least faults readings clock)
    timers_now = lies_now shows n code V.Timers clock_content (λ c. refl) clock0 clock same.timers ∙ map_twice (λ c. clockwork_seen least faults readings c.value) (timers_content n) clock

    ready_was : (r : ℕ) → option_map was ((laid_again shows n code w l clock0 held0 clock held).ready r) ≡ cond (eqb w r) (option_map (ready_content n) held0.ready) None
    ready_was r = own_part was (eqb w r) (laid_back n code V.Ready held.ready (ready_were shows n code w l held0)) ∙ ap (λ o. cond (eqb w r) o None) (lies_was shows n code V.Ready (ready_content n) (λ q. refl) held0.ready held.ready same.ready)

    ready_now : (r : ℕ) → option_map (is_now shows) ((laid_again shows n code w l clock0 held0 clock held).ready r) ≡ cond (eqb w r) (option_map (ready_content n) held.ready) None
    ready_now r = own_part (is_now shows) (eqb w r) (laid_back n code V.Ready held.ready (ready_were shows n code w l held0)) ∙ ap (λ o. cond (eqb w r) o None) (lies_now shows n code V.Ready (ready_content n) (λ q. refl) held0.ready held.ready same.ready)

    -- what lies in the hand for an event beside the lane
    pub aside_turned : IsTurned shows w n (laid_aside shows n code w l clock0 held0 clock held) None None (clock_seen least faults readings clock0) (clock_seen least faults readings clock) held0 held
    aside_turned = record {
      before = record { lane_part = refl; bank_parts = banks_was; shard_parts = shards_was; timers_part = timers_was; ready_parts = ready_was };
      after = record { lane_part = refl; bank_parts = banks_now; shard_parts = shards_now; timers_part = timers_now; ready_parts = ready_now };
    }

    -- and for one of the lane's task
    pub all_turned : (lane : LaneBox A) → IsTurned shows w n (all_laid shows n code w l lane clock0 held0 clock held) (Some (lane_of_seen (lane_seen l))) (Some (lane_of_seen (lane_seen lane.value))) (clock_seen least faults readings clock0) (clock_seen least faults readings clock) held0 held
    all_turned lane = record {
      before = record { lane_part = refl; bank_parts = banks_was; shard_parts = shards_was; timers_part = timers_was; ready_parts = ready_was };
      after = record { lane_part = refl; bank_parts = banks_now; shard_parts = shards_now; timers_part = timers_now; ready_parts = ready_now };
    }

    module _ (ports looked : List ℕ) (with_timers with_ready : Bool) (banks : (i : ℕ) → i < 16 → said.homes ports i ≡ holds_banks held i) (shards : (i : ℕ) → i < 16 → said.homes looked i ≡ holds_shards held i) (timers : with_timers ≡ is_some clock) (ready : with_ready ≡ is_some held.ready) where
      pub aside_brings : Brings ports looked with_timers (own_if with_ready w) (laid_aside shows n code w l clock0 held0 clock held)
      aside_brings = brings_laid shows n code w l clock0 clock held0 held None ports looked with_timers with_ready same banks shards timers ready

      pub all_brings : (lane : LaneBox A) → Brings ports looked with_timers (own_if with_ready w) (all_laid shows n code w l lane clock0 held0 clock held)
      all_brings lane = brings_laid shows n code w l clock0 clock held0 held (Some (part_of n code (V.Lane lane), part_of_lane n code l)) ports looked with_timers with_ready same banks shards timers ready
