-- What a worker carries at an event of its task at one channel, as the parts of a run: before the event, and after it.
use Rattle.std.proofs.Common.{◌≡◌, ◌∙◌, ℕ, ◌+◌, ◌<◌, List, [], ◌∷◌, refl, sym, ap, subst, arith, Bool, true, false, cond, Option, Some, None, eqb, eq-eqb, eqb-true, ne_eqb, is_some}
use Rattle.std.proofs.lemmas.Bool.{eqb-false}
use Rattle.std.proofs.lemmas.Map.{update_here, update_apart}
use Rattle.std.specs.Map.{update}
use Rattle.std.specs.Prelude.{option_map}
use Rattle.std.specs.FinMap as map
use Rattle.ca_meaning.specs.Body.{At}
use Rattle.ca_bank.specs.Bank.{kept_at, registry_at}
use Rattle.ca_states.specs.Code.{CodeView}
use Rattle.ca_states.specs.ValidCode.{valid_code}
use Rattle.ca_states.specs.declared.valid_code.ValidCode.{ValidCode}
use Rattle.ca_commit.specs.Agents.{TaskAgent}
use Rattle.ca_commit.specs.Contents.{BankView, Kept, Parked, Parts, home}
use Rattle.ca_commit.specs.Gathered.{Alike, bank_of, channels_of, registries_of, sorted}
use Rattle.ca_commit.specs.Moves.{Becomes, Stays}
use Rattle.ca_commit.specs.Running.{Placed}
use Rattle.ca_commit.specs.Showing.{waits_of}
use Rattle.ca_commit.specs.Tasks.{tasks_in}
use Rattle.ca_commit.specs.Touched as said
use Rattle.ca_commit.specs.declared.held.HeldBank.{HeldBank}
use Rattle.ca_commit.specs.declared.held.HeldShard.{HeldShard}
use Rattle.ca_commit.specs.declared.task.Ready.{Ready}
use Rattle.ca_table.specs.Carriers.{LaneBox, is_now, was}
use Rattle.ca_table.specs.Carrying.{Carries, EachCarried, bank_place, carried, lane_place, nothing_carried, ready_place, shard_place, with_at}
use Rattle.ca_table.specs.Parts.{bank_seen, contents_seen, lane_seen, part_of, part_seen, shard_seen}
use Rattle.ca_table.specs.Seen.{PartSeen, held_of, lane_of_seen}
use Rattle.ca_table.specs.Sound.{IsSound}
use Rattle.ca_table.specs.Workers.{part_of_lane}
use Rattle.ca_table.specs.declared.part.Contents.{Contents}
use Rattle.ca_table.specs.declared.part.Contents.TheVariants as V
use Rattle.ca_table.specs.declared.part.Lane.{Lane}
use Rattle.ca_table.specs.declared.part.Part.{Part}
use Rattle.ca_table.proofs.Bearing.{channels_seen, registries_seen, waits_seen}
use Rattle.ca_table.proofs.Becoming.{bank_becomes, lane_becomes, ready_becomes, shard_becomes}
use Rattle.ca_table.proofs.Carried.{each_nothing, each_with}
use Rattle.ca_table.proofs.MadeOf.{some_same}

module _ {X : Type 0} where
  none_some : (x : X) → None ≡ Some x → ⊥
  none_some x e = cc

  -- one that is there stands at its number alone
  alone_at : (k : ℕ) (v x : X) (j : ℕ) → (j ≡ k → ⊥) → update eqb (λ (i : ℕ). None) k (Some v) j ≡ Some x → ⊥
  alone_at k v x j ne e = none_some x (sym (update_apart (λ (i : ℕ). None) k (Some v) j ne) ∙ e)

  -- which is told by its number
  told_at : (k i : ℕ) (v : X) → cond (eqb i k) true false ≡ is_some (update eqb (λ (j : ℕ). None) k (Some v) i)
  told_at k i v = by (eqb k i) refl where
    by : (b : Bool) → eqb k i ≡ b → cond (eqb i k) true false ≡ is_some (cond b (Some v) None)
    by true e = ap (λ b. cond b true false) (eq-eqb i k (sym (eqb-true k i e)))
    by false e = ap (λ b. cond b true false) (ne_eqb i k (λ s. eqb-false k i e (sym s)))

module _ {A C : Type 0} (least faults : C → ℕ) (readings : C → Option (List ℕ)) (n : ℕ) (code : ValidCode) where
  abbrev pub shows : Part A C → PartSeen A
  shows = part_seen least faults readings

  -- a part that was settled as the first, and is the second now
  abbrev pub turned : Contents A C → Contents A C → Part A C × PartSeen A
  turned x y = (part_of n code y, shows (part_of n code x))

  -- the lane and the bank of a channel; that and the shard of a wait; these and a ready part
  abbrev pub at_bank : Lane A → LaneBox A → (k : ℕ) → HeldBank → HeldBank → Carries (Part A C × PartSeen A)
  at_bank l lane k b b2 = with_at lane_place (Some (part_of n code (V.Lane lane), part_of_lane n code l)) (with_at (bank_place k) (Some (turned (V.Bank b) (V.Bank b2))) nothing_carried)

  abbrev pub at_shard : Lane A → LaneBox A → (k : ℕ) → HeldBank → HeldBank → (j : ℕ) → HeldShard A → HeldShard A → Carries (Part A C × PartSeen A)
  at_shard l lane k b b2 j s s2 = with_at lane_place (Some (part_of n code (V.Lane lane), part_of_lane n code l)) (with_at (bank_place k) (Some (turned (V.Bank b) (V.Bank b2))) (with_at (shard_place j) (Some (turned (V.Shard s) (V.Shard s2))) nothing_carried))

  abbrev pub at_ready : Lane A → LaneBox A → (k : ℕ) → HeldBank → HeldBank → (j : ℕ) → HeldShard A → HeldShard A → (r : ℕ) → Ready A → Ready A → Carries (Part A C × PartSeen A)
  at_ready l lane k b b2 j s s2 r q q2 = with_at lane_place (Some (part_of n code (V.Lane lane), part_of_lane n code l)) (with_at (bank_place k) (Some (turned (V.Bank b) (V.Bank b2))) (with_at (shard_place j) (Some (turned (V.Shard s) (V.Shard s2))) (with_at (ready_place r) (Some (turned (V.Ready q) (V.Ready q2))) nothing_carried)))

  -- each stays of its kind
  abbrev KeepsKind : Part A C × PartSeen A → Type 0
  KeepsKind x = Alike n (was x) (is_now shows x)

  pub bank_alike : (l : Lane A) (lane : LaneBox A) (k : ℕ) (b b2 : HeldBank) → EachCarried KeepsKind (at_bank l lane k b b2)
  bank_alike l lane k b b2 = each_with KeepsKind lane_place (part_of n code (V.Lane lane), part_of_lane n code l) (with_at (bank_place k) (Some (turned (V.Bank b) (V.Bank b2))) nothing_carried) (refl, refl, refl)
      (each_with KeepsKind (bank_place k) (turned (V.Bank b) (V.Bank b2)) nothing_carried (refl, refl, refl) (each_nothing KeepsKind))

  pub shard_alike : (l : Lane A) (lane : LaneBox A) (k : ℕ) (b b2 : HeldBank) (j : ℕ) (s s2 : HeldShard A) → EachCarried KeepsKind (at_shard l lane k b b2 j s s2)
  shard_alike l lane k b b2 j s s2 =
      let beside : Carries (Part A C × PartSeen A) = with_at (shard_place j) (Some (turned (V.Shard s) (V.Shard s2))) nothing_carried in
      each_with KeepsKind lane_place (part_of n code (V.Lane lane), part_of_lane n code l) (with_at (bank_place k) (Some (turned (V.Bank b) (V.Bank b2))) beside) (refl, refl, refl)
      (each_with KeepsKind (bank_place k) (turned (V.Bank b) (V.Bank b2)) beside (refl, refl, refl)
      (each_with KeepsKind (shard_place j) (turned (V.Shard s) (V.Shard s2)) nothing_carried (refl, refl, refl) (each_nothing KeepsKind)))

  pub ready_alike : (l : Lane A) (lane : LaneBox A) (k : ℕ) (b b2 : HeldBank) (j : ℕ) (s s2 : HeldShard A) (r : ℕ) (q q2 : Ready A) → EachCarried KeepsKind (at_ready l lane k b b2 j s s2 r q q2)
  ready_alike l lane k b b2 j s s2 r q q2 =
      let last : Carries (Part A C × PartSeen A) = with_at (ready_place r) (Some (turned (V.Ready q) (V.Ready q2))) nothing_carried in
      let beside : Carries (Part A C × PartSeen A) = with_at (shard_place j) (Some (turned (V.Shard s) (V.Shard s2))) last in
      each_with KeepsKind lane_place (part_of n code (V.Lane lane), part_of_lane n code l) (with_at (bank_place k) (Some (turned (V.Bank b) (V.Bank b2))) beside) (refl, refl, refl)
      (each_with KeepsKind (bank_place k) (turned (V.Bank b) (V.Bank b2)) beside (refl, refl, refl)
      (each_with KeepsKind (shard_place j) (turned (V.Shard s) (V.Shard s2)) last (refl, refl, refl)
      (each_with KeepsKind (ready_place r) (turned (V.Ready q) (V.Ready q2)) nothing_carried (refl, refl, refl) (each_nothing KeepsKind))))

  -- what is carried beside the lane and the bank
  module _ (w : ℕ) (l : Lane A) (lane : LaneBox A) (k : ℕ) (b b2 : HeldBank) (shards readys : ℕ → Option (Part A C × PartSeen A)) where
    abbrev pub spot : Carries (Part A C × PartSeen A)
    spot = record { lane = Some (part_of n code (V.Lane lane), part_of_lane n code l); banks = update eqb (λ (i : ℕ). None) k (Some (turned (V.Bank b) (V.Bank b2))); shards = shards; timers = None; ready = readys }

    abbrev pub before : Parts (TaskAgent A)
    before = carried was w spot

    abbrev pub after : Parts (TaskAgent A)
    after = carried (is_now shows) w spot

    abbrev view_of : HeldBank → BankView
    view_of x = record { channels = map.get (bank_seen x.bank.value).channels; registries = map.get (bank_seen x.bank.value).registries }

    pub lane_goes_on : Becomes before.lane after.lane w (lane_of_seen (lane_seen l)) (lane_of_seen (lane_seen lane.value))
    lane_goes_on = lane_becomes was (is_now shows) w spot (part_of n code (V.Lane lane), part_of_lane n code l) (lane_of_seen (lane_seen l)) (lane_of_seen (lane_seen lane.value)) refl refl refl

    pub bank_turns : Becomes before.bank after.bank k (kept_at b.bank.value) (kept_at b2.bank.value)
    bank_turns = subst (λ (f : ℕ → Option Kept). Becomes before.bank after.bank k f (kept_at b2.bank.value)) (channels_seen b.bank.value)
        (subst (λ (g : ℕ → Option Kept). Becomes before.bank after.bank k (map.get (bank_seen b.bank.value).channels) g) (channels_seen b2.bank.value)
        (bank_becomes was (is_now shows) w spot k (turned (V.Bank b) (V.Bank b2)) (view_of b) (view_of b2) (update_here (λ (i : ℕ). None) k (Some (turned (V.Bank b) (V.Bank b2)))) refl refl
        (λ j x ne e. absurd (alone_at k (turned (V.Bank b) (V.Bank b2)) x j ne e))))

    pub registries_stay : ((p : ℕ) → registry_at b2.bank.value p ≡ registry_at b.bank.value p) → Stays before.registry after.registry
    registries_stay same i = by (eqb k i) where
      by : (z : Bool) → registries_of (sorted bank_of (option_map (is_now shows) (cond z (Some (turned (V.Bank b) (V.Bank b2))) None))) ≡ registries_of (sorted bank_of (option_map was (cond z (Some (turned (V.Bank b) (V.Bank b2))) None)))
      by true = ap Some (registries_seen b2.bank.value ∙ (λ t p. same p t) ∙ sym (registries_seen b.bank.value))
      by false = refl

    pub bank_placed : (over : CodeView → A → Type 0) (place : A → At) → IsSound over place (valid_code code) n (n + k) (held_of (contents_seen least faults readings (V.Bank b))) → Placed before.bank
    bank_placed over place sound i p f x there is = by (eqb k i) refl there where
      by : (z : Bool) → eqb k i ≡ z → channels_of (sorted bank_of (option_map was (cond z (Some (turned (V.Bank b) (V.Bank b2))) None))) ≡ Some f → home p ≡ i
      by true e there = let h : n + home p ≡ n + k = sound.channels (view_of b) p x refl (ap (λ (g : ℕ → Option Kept). g p) (some_same (map.get (bank_seen b.bank.value).channels) f there) ∙ is) in
          let at : home p ≡ k = omega (arith, h) in at ∙ eqb-true k i e
      by false e there = absurd (none_some f there)

    -- the bank of that channel alone
    pub brings_bank : (p : ℕ) → k ≡ home p → (i : ℕ) → i < 16 → said.homes (p ∷ []) i ≡ is_some (spot.banks i)
    brings_bank p e i lt = ap (λ (h : ℕ). cond (eqb i h) true false) (sym e) ∙ told_at k i (turned (V.Bank b) (V.Bank b2))

  module _ (w : ℕ) (l : Lane A) (lane : LaneBox A) (k : ℕ) (b b2 : HeldBank) (j : ℕ) (s s2 : HeldShard A) (readys : ℕ → Option (Part A C × PartSeen A)) where
    abbrev pub waits : ℕ → Option (Part A C × PartSeen A)
    waits = update eqb (λ (i : ℕ). None) j (Some (turned (V.Shard s) (V.Shard s2)))

    pub shard_turns : Becomes (before w l lane k b b2 waits readys).shard (after w l lane k b b2 waits readys).shard j (waits_of s.shard.value) (waits_of s2.shard.value)
    shard_turns = subst (λ (f : ℕ → Option (Parked (TaskAgent A))). Becomes (before w l lane k b b2 waits readys).shard (after w l lane k b b2 waits readys).shard j f (waits_of s2.shard.value)) (waits_seen s.shard.value)
        (subst (λ (g : ℕ → Option (Parked (TaskAgent A))). Becomes (before w l lane k b b2 waits readys).shard (after w l lane k b b2 waits readys).shard j (map.get (shard_seen s.shard.value)) g) (waits_seen s2.shard.value)
        (shard_becomes was (is_now shows) w (spot w l lane k b b2 waits readys) j (turned (V.Shard s) (V.Shard s2)) (map.get (shard_seen s.shard.value)) (map.get (shard_seen s2.shard.value)) (update_here (λ (i : ℕ). None) j (Some (turned (V.Shard s) (V.Shard s2)))) refl refl
        (λ i x ne e. absurd (alone_at j (turned (V.Shard s) (V.Shard s2)) x i ne e))))

    -- the shard of that wait alone
    pub brings_shard : (v : ℕ) → j ≡ home v → (i : ℕ) → i < 16 → said.homes (v ∷ []) i ≡ is_some (waits i)
    brings_shard v e i lt = ap (λ (h : ℕ). cond (eqb i h) true false) (sym e) ∙ told_at j i (turned (V.Shard s) (V.Shard s2))

  module _ (w : ℕ) (l : Lane A) (lane : LaneBox A) (k : ℕ) (b b2 : HeldBank) (shards : ℕ → Option (Part A C × PartSeen A)) (q q2 : Ready A) where
    abbrev pub own : ℕ → Option (Part A C × PartSeen A)
    own = update eqb (λ (i : ℕ). None) w (Some (turned (V.Ready q) (V.Ready q2)))

    pub ready_turns : Becomes (before w l lane k b b2 shards own).ready (after w l lane k b b2 shards own).ready w (tasks_in q) (tasks_in q2)
    ready_turns = ready_becomes was (is_now shows) w (spot w l lane k b b2 shards own) w (turned (V.Ready q) (V.Ready q2)) (tasks_in q) (tasks_in q2) (update_here (λ (i : ℕ). None) w (Some (turned (V.Ready q) (V.Ready q2)))) refl refl
        (λ i x ne e. absurd (alone_at w (turned (V.Ready q) (V.Ready q2)) x i ne e))

    -- the own ready part alone
    pub brings_own : (r : ℕ) → eqb w r ≡ is_some (own r)
    brings_own r = by (eqb w r) where
      by : (z : Bool) → z ≡ is_some (cond z (Some (turned (V.Ready q) (V.Ready q2))) None)
      by true = refl
      by false = refl
