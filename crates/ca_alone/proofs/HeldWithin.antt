-- What a lone worker has moved out of its hand lies among all parts as it was settled.
use Rattle.std.proofs.Common.{◌≡◌, ◌∙◌, ⊎_elim, ℕ, ◌+◌, ◌<◌, ◌≤◌, List, refl, sym, ap, subst, arith, Bool, true, false, cond, Option, Some, None, eqb, eqb-true}
use Rattle.std.specs.Prelude.{option_map}
use Rattle.std.specs.Map.{update}
use Rattle.std.proofs.lemmas.Bool.{cases_lt}
use Rattle.std.proofs.lemmas.Map.{update_here}
use mathlib.Core.Option as core
use lib.ListN.{get_elem?}
use Rattle.ca_term.specs.Program.{ProgramView}
use Rattle.ca_meaning.specs.Task.{TaskBody}
use Rattle.ca_states.specs.Code.{CodeView}
use Rattle.ca_states.specs.declared.valid_code.ValidCode.{ValidCode}
use Rattle.ca_turns.specs.Hands.{TableId}
use Rattle.ca_turns.specs.declared.rule.View.{View}
use Rattle.ca_commit.specs.Agents.{TaskAgent}
use Rattle.ca_commit.specs.Contents.{Content, LaneView, Parts}
use Rattle.ca_commit.specs.Gathered.{bank_of, channels_of, lane_of, ready_of, registries_of, shard_of, sorted, timers_of}
use Rattle.ca_commit.specs.Listing.{listed}
use Rattle.ca_commit.specs.Listings.{parts}
use Rattle.ca_commit.specs.Numbers.{number_of_bank, number_of_shard}
use Rattle.ca_commit.specs.Showing.{bank_in, channels_held, registries_held, registries_in, shard_in, waits_held}
use Rattle.ca_commit.specs.declared.held.Held.{Held}
use Rattle.ca_commit.specs.declared.held.HeldBank.{HeldBank}
use Rattle.ca_commit.specs.declared.held.HeldShard.{HeldShard}
use Rattle.ca_commit.proofs.Laid.{IsPart, Within}
use Rattle.ca_table.specs.Carriers.{IsCarrying, was}
use Rattle.ca_table.specs.Carrying.{Carries, IsPlace, Place, bank_place, carried, lane_place, number_at, part_at, ready_place, shard_place, timers_place}
use Rattle.ca_table.specs.Draws.{drawn_touches}
use Rattle.ca_table.specs.Grips.{no_grip as nothing_held}
use Rattle.ca_table.specs.Lifting.{lifted}
use Rattle.ca_table.specs.LoneHands.{HoldsLeft, left_now}
use Rattle.ca_table.specs.Running.{contents_at}
use Rattle.ca_table.specs.Parts.{part_away, bank_seen, part_of, part_seen, shard_seen}
use Rattle.ca_table.specs.Seen.{HeldSeen, PartSeen, held_of, seen_bank, seen_shard}
use Rattle.ca_table.specs.declared.drawn.Drawn.{Drawn}
use Rattle.ca_table.specs.Workers.{IsSeated, part_of_lane}
use Rattle.ca_table.specs.declared.part.Contents.TheVariants as V
use Rattle.ca_table.specs.declared.part.Lane.{Lane}
use Rattle.ca_table.specs.declared.part.Part.{Part}
use Rattle.ca_table.specs.declared.worker.Worker.{Worker}
use Rattle.ca_table.proofs.Bearing.{channels_seen, registries_seen, waits_seen}
use Rattle.ca_table.proofs.Carried.{at_place}
use Rattle.ca_table.proofs.Gripping.{fit}
use Rattle.ca_alone.proofs.HeldDesk.{held_there, parts_now}

-- the held banks and shards are as they lie among these parts
pub record LiesIn {A : Type 0} (held : Held A) (now : Parts (TaskAgent A)) : Type 0 where
  pub banks : Within (channels_held held.banks) now.bank
  pub registries : Within (registries_held held.banks) now.registry
  pub shards : Within (waits_held held.shards) now.shard

-- these alone, as parts
abbrev pub shown_parts : {A : Type 0} → Held A → Parts (TaskAgent A)
shown_parts held = record { lane = λ w. None; bank = channels_held held.banks; registry = registries_held held.banks; shard = waits_held held.shards; ready = λ r. None; timers = None }

nothing : {X : Type 0} (now : Option X) (x : X) → None ≡ Some x → now ≡ Some x
nothing now x e = absurd (let k : None ≡ Some x = e in cc)

pub lies_part : {A : Type 0} (held : Held A) (now : Parts (TaskAgent A)) → LiesIn held now → IsPart (shown_parts held) now
lies_part held now l = record {
  lanes = λ w x k. nothing (now.lane w) x k;
  banks = l.banks;
  shards = l.shards;
  readys = λ r q k. nothing (now.ready r) q k;
  registries = l.registries;
  clocks = λ c k. nothing now.timers c k;
}

-- what is shown of a part that is listed
within_by : {T X : Type 0} (show : T → X) (o : Option T) (now : Option X) → ((t : T) → o ≡ Some t → now ≡ Some (show t)) → (x : X) → option_map show o ≡ Some x → now ≡ Some x
within_by show None now f x e = absurd (let k : None ≡ Some x = e in cc)
within_by show (Some t) now f x e = f t refl ∙ e

module _ {A : Type 0} (v : View (PartSeen A) Drawn) (h : HoldsLeft drawn_touches v) where
  -- each held bank and shard was settled as it is
  pub lies_by : (held : Held A) → ((i : ℕ) (b : HeldBank) → listed number_of_bank (parts held.banks) i ≡ Some b → (c : PartSeen A) × (get_elem? v.held (1 + i) ≡ core.some (Some c)) × (c.held ≡ seen_bank (bank_seen b.bank.value)))
      → ((i : ℕ) (s : HeldShard A) → listed number_of_shard (parts held.shards) i ≡ Some s → (c : PartSeen A) × (get_elem? v.held (1 + 16 + i) ≡ core.some (Some c)) × (c.held ≡ seen_shard (shard_seen s.shard.value))) → LiesIn held (parts_now v)
  lies_by held bs ss = record {
    banks = λ i x e. within_by bank_in (listed number_of_bank (parts held.banks) i) ((parts_now v).bank i) (λ b there. let k = bs i b there in
        ap (λ o. channels_of (sorted bank_of o)) (held_there v h (1 + i) k.0 k.1) ∙ ap (λ (z : HeldSeen A). channels_of (bank_of (held_of z))) k.2 ∙ ap Some (channels_seen b.bank.value)) x e;
    registries = λ i x e. within_by registries_in (listed number_of_bank (parts held.banks) i) ((parts_now v).registry i) (λ b there. let k = bs i b there in
        ap (λ o. registries_of (sorted bank_of o)) (held_there v h (1 + i) k.0 k.1) ∙ ap (λ (z : HeldSeen A). registries_of (bank_of (held_of z))) k.2 ∙ ap Some (registries_seen b.bank.value)) x e;
    shards = λ i x e. within_by shard_in (listed number_of_shard (parts held.shards) i) ((parts_now v).shard i) (λ s there. let k = ss i s there in
        ap (sorted shard_of) (held_there v h (1 + 16 + i) k.0 k.1) ∙ ap (λ (z : HeldSeen A). shard_of (held_of z)) k.2 ∙ ap Some (waits_seen s.shard.value)) x e;
  }

module _ {A C : Type 0} (over : CodeView → A → Type 0) (stands_as : ProgramView → A → TaskBody → Type 0) (program : ProgramView) (code : ValidCode) (id : TableId) (w : Worker A C) (h : Carries (Part A C × PartSeen A)) (c : IsCarrying over stands_as program code id 1 w h) where
  -- what the only worker carries is settled in its hand
  pub carried_settled : (z : Place) (x : Part A C × PartSeen A) → IsPlace z → part_at z h ≡ Some x → get_elem? w.hand.view.held (number_at 1 0 z) ≡ core.some (Some x.1)
  carried_settled z x is e = let first : w.number ≡ 0 = omega (arith, c.one.below) in
      subst (λ (k : ℕ). get_elem? w.hand.view.held (number_at 1 k z) ≡ core.some (Some x.1)) first (fit w.hand _ (number_at 1 w.number z) x c.grips (at_place 1 w.number c.one.below z is h ∙ e)).1

  few : {X : Type 0} (f : ℕ → Option X) (i : ℕ) (x : X) → ((i : ℕ) → 16 ≤ i → f i ≡ None) → f i ≡ Some x → i < 16
  few f i x none e = ⊎_elim (λ lt. lt) (λ ge. absurd (let k : None ≡ Some x = sym (none i ge) ∙ e in cc)) (cases_lt i 16)

  module _ (least faults : C → ℕ) (readings : C → Option (List ℕ)) where
    -- the banks and shards that it has moved out
    pub carried_lies : (held : Held A) → HoldsLeft drawn_touches w.hand.view → h.banks ≡ lifted 1 code V.Bank (part_seen least faults readings) number_of_bank (parts held.banks)
        → h.shards ≡ lifted 1 code V.Shard (part_seen least faults readings) number_of_shard (parts held.shards) → LiesIn held (parts_now w.hand.view)
    carried_lies held left bs ss = lies_by w.hand.view left held bank_settled shard_settled where
      bank_settled : (i : ℕ) (b : HeldBank) → listed number_of_bank (parts held.banks) i ≡ Some b → (d : PartSeen A) × (get_elem? w.hand.view.held (1 + i) ≡ core.some (Some d)) × (d.held ≡ seen_bank (bank_seen b.bank.value))
      bank_settled i b e =
          let x : Part A C × PartSeen A = (part_away 1 code, part_seen least faults readings (part_of 1 code (V.Bank b))) in
          let there : h.banks i ≡ Some x = ap (λ (f : ℕ → Option (Part A C × PartSeen A)). f i) bs ∙ ap (option_map _) e in
          (x.1, carried_settled (bank_place i) x (few h.banks i x c.sorted.few_banks there) there, refl)

      shard_settled : (i : ℕ) (s : HeldShard A) → listed number_of_shard (parts held.shards) i ≡ Some s → (d : PartSeen A) × (get_elem? w.hand.view.held (1 + 16 + i) ≡ core.some (Some d)) × (d.held ≡ seen_shard (shard_seen s.shard.value))
      shard_settled i s e =
          let x : Part A C × PartSeen A = (part_away 1 code, part_seen least faults readings (part_of 1 code (V.Shard s))) in
          let there : h.shards i ≡ Some x = ap (λ (f : ℕ → Option (Part A C × PartSeen A)). f i) ss ∙ ap (option_map _) e in
          (x.1, carried_settled (shard_place i) x (few h.shards i x c.sorted.few_shards there) there, refl)

-- all that the only worker carries lies among all parts as it was settled
module _ {A C : Type 0} (over : CodeView → A → Type 0) (stands_as : ProgramView → A → TaskBody → Type 0) (program : ProgramView) (code : ValidCode) (id : TableId) (w : Worker A C) (h : Carries (Part A C × PartSeen A)) (c : IsCarrying over stands_as program code id 1 w h) (left : HoldsLeft drawn_touches w.hand.view) where
  abbrev Carried : Type 0
  Carried = Part A C × PartSeen A

  abbrev all : Parts (TaskAgent A)
  all = parts_now w.hand.view

  -- a part that is carried, as one of its kind
  shown_by : {Y : Type 0} (z : Place) → IsPlace z → (as_kind : Option (Content (TaskAgent A)) → Option Y) → as_kind None ≡ None → (o : Option Carried) → part_at z h ≡ o → (y : Y) → as_kind (option_map was o) ≡ Some y → as_kind (contents_at (left_now drawn_touches w.hand.view) (number_at 1 0 z)) ≡ Some y
  shown_by z is as_kind none None there y e = absurd (let k : None ≡ Some y = sym none ∙ e in cc)
  shown_by z is as_kind none (Some x) there y e = ap as_kind (held_there w.hand.view left (number_at 1 0 z) x.1 (carried_settled over stands_as program code id w h c z x is there)) ∙ e

  in_few : {Y : Type 0} (f : ℕ → Option Carried) (as_kind : Option (Content (TaskAgent A)) → Option Y) → as_kind None ≡ None → ((i : ℕ) → 16 ≤ i → f i ≡ None) → (i : ℕ) (y : Y) → as_kind (option_map was (f i)) ≡ Some y → i < 16
  in_few f as_kind none few i y e = ⊎_elim (λ lt. lt) (λ ge. absurd (let k : None ≡ Some y = sym none ∙ sym (ap (λ o. as_kind (option_map was o)) (few i ge)) ∙ e in cc)) (cases_lt i 16)

  lane_shown : (b : Bool) (v : ℕ) → eqb w.number v ≡ b → (y : LaneView (TaskAgent A)) → cond b (sorted lane_of (option_map was h.lane)) None ≡ Some y → all.lane v ≡ Some y
  lane_shown true v e y is = let first : w.number ≡ 0 = omega (arith, c.one.below) in let at : v ≡ 0 = sym (eqb-true w.number v e) ∙ first in
      ap all.lane at ∙ shown_by lane_place tt (sorted lane_of) refl h.lane refl y is
  lane_shown false v e y is = absurd (let k : None ≡ Some y = is in cc)

  pub carried_part : IsPart (carried was w.number h) all
  carried_part = record {
    lanes = λ v y e. lane_shown (eqb w.number v) v refl y e;
    banks = λ i y e. shown_by (bank_place i) (in_few h.banks (λ o. channels_of (sorted bank_of o)) refl c.sorted.few_banks i y e) (λ o. channels_of (sorted bank_of o)) refl (h.banks i) refl y e;
    registries = λ i y e. shown_by (bank_place i) (in_few h.banks (λ o. registries_of (sorted bank_of o)) refl c.sorted.few_banks i y e) (λ o. registries_of (sorted bank_of o)) refl (h.banks i) refl y e;
    shards = λ i y e. shown_by (shard_place i) (in_few h.shards (sorted shard_of) refl c.sorted.few_shards i y e) (sorted shard_of) refl (h.shards i) refl y e;
    readys = λ r y e. shown_by (ready_place r) tt (sorted ready_of) refl (h.ready r) refl y e;
    clocks = λ y e. shown_by timers_place tt (sorted timers_of) refl h.timers refl y e;
  }

-- and the lane of one that has moved out no other part
pub seated_settled : {A C : Type 0} (over : CodeView → A → Type 0) (stands_as : ProgramView → A → TaskBody → Type 0) (program : ProgramView) (code : ValidCode) (id : TableId) (w : Worker A C) (lane : Lane A) → IsSeated over stands_as program code id 1 w lane → get_elem? w.hand.view.held 0 ≡ core.some (Some (part_of_lane 1 code lane))
seated_settled {A} {C} over stands_as program code id w lane s =
    let x : Part A C × PartSeen A = (part_away 1 code, part_of_lane 1 code lane) in
    let first : w.number ≡ 0 = omega (arith, s.one.below) in
    subst (λ (k : ℕ). get_elem? w.hand.view.held k ≡ core.some (Some (part_of_lane 1 code lane))) first (fit w.hand (update eqb nothing_held w.number (Some x)) w.number x s.grips (update_here nothing_held w.number (Some x))).1
