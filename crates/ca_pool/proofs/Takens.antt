-- What a worker carries at its calls, told of what shows the same, or of a worker with the same number.
use Rattle.std.proofs.Common.{◌≡◌, ◌∙◌, ℕ, List, refl, sym, ap, ap₂, subst, Option, Some, None, Result, Ok, Err, IfOk, OnErr, OnOk, true, is_some}
use Rattle.ca_term.specs.Program.{ProgramView}
use Rattle.ca_meaning.specs.Task.{TaskBody}
use Rattle.ca_journal.specs.Merge.{entries}
use Rattle.ca_commit.specs.Contents.{whole}
use Rattle.ca_commit.specs.Finding.{glance, settle_at}
use Rattle.ca_commit.specs.Settling.{served_in}
use Rattle.ca_commit.specs.Showing.{channels_held, registries_held, waits_held}
use Rattle.ca_commit.specs.Tasks.{tasks_in}
use Rattle.ca_commit.specs.Waking.{ready_in}
use Rattle.ca_commit.specs.declared.held.Held.{Held}
use Rattle.ca_states.specs.Code.{CodeView}
use Rattle.ca_states.specs.ValidCode.{valid_code}
use Rattle.ca_states.specs.declared.valid_code.ValidCode.{ValidCode}
use Rattle.ca_turns.specs.Hands.{TableId}
use Rattle.ca_table.specs.Bearing.{ShowSame}
use Rattle.ca_table.specs.Carriers.{IsCarrying, just_lane}
use Rattle.ca_table.specs.Carrying.{Carries}
use Rattle.ca_table.specs.Parts.{part_away, clockwork_seen, part_seen}
use Rattle.ca_table.specs.Seen.{PartSeen, seen_timers}
use Rattle.ca_table.specs.Workers.{SameWorker}
use Rattle.ca_table.specs.declared.part.Lane.{Lane}
use Rattle.ca_table.specs.declared.part.Part.{Part}
use Rattle.ca_table.specs.declared.worker.Worker.{Worker}
use Rattle.ca_pool.specs.Desk.{ClockBox, IsBare, desk_taken}
use Rattle.ca_pool.proofs.Desk.{bare_taken, some_map, taken_same}
use Rattle.ca_pool.proofs.Stays.{still_carries}

-- a clockwork that shows the same is taken as the same
clock_taken : {A C : Type 0} (least faults : C → ℕ) (readings : C → Option (List ℕ)) (n : ℕ) (code : ValidCode) (w : ℕ) (l : Lane A) (a b : ClockBox C) (held : Held A) → clockwork_seen least faults readings b.value ≡ clockwork_seen least faults readings a.value
    → desk_taken (part_seen least faults readings) n code w l (Some a) held ≡ desk_taken (part_seen least faults readings) n code w l (Some b) held
clock_taken least faults readings n code w l a b held e = λ t. record {
  lane = (desk_taken (part_seen least faults readings) n code w l (Some a) held).lane;
  banks = (desk_taken (part_seen least faults readings) n code w l (Some a) held).banks;
  shards = (desk_taken (part_seen least faults readings) n code w l (Some a) held).shards;
  timers = Some (part_away n code, record { workers = n; code = valid_code code; held = seen_timers (sym e t) });
  ready = (desk_taken (part_seen least faults readings) n code w l (Some a) held).ready;
}

module _ {A C : Type 0} (over : CodeView → A → Type 0) (stands_as : ProgramView → A → TaskBody → Type 0) (least faults : C → ℕ) (readings : C → Option (List ℕ)) (program : ProgramView) (code : ValidCode) (id : TableId) (n : ℕ) (w : Worker A C) (l : Lane A) where
  abbrev Has : Carries (Part A C × PartSeen A) → Type 0
  Has = IsCarrying over stands_as program code id n w

  abbrev Takes : ℕ → Option (ClockBox C) → Held A → Carries (Part A C × PartSeen A)
  Takes k clock held = desk_taken (part_seen least faults readings) n code k l clock held

  -- where nothing is held
  pub bare_in : (k : ℕ) (held : Held A) → IsBare held → Has (just_lane n code l) → Has (Takes k None held)
  bare_in k held bare h = subst Has (sym (bare_taken (part_seen least faults readings) n code k l held bare)) h

  -- the same worker by another name
  pub as_number : (a b : ℕ) (clock : Option (ClockBox C)) (held : Held A) → b ≡ a → Has (Takes a clock held) → Has (Takes b clock held)
  as_number a b clock held e h = subst (λ (k : ℕ). Has (Takes k clock held)) (sym e) h

  -- what is held shows the same
  pub as_shown : (k : ℕ) (clock : Option (ClockBox C)) (old new : Held A) → ShowSame old new → Has (Takes k clock old) → Has (Takes k clock new)
  as_shown k clock old new show h = subst Has (taken_same least faults readings n code k l clock old new show) h

  -- the clockwork shows the same
  pub as_clocked : (k : ℕ) (a b : ClockBox C) (held : Held A) → clockwork_seen least faults readings b.value ≡ clockwork_seen least faults readings a.value → Has (Takes k (Some a) held) → Has (Takes k (Some b) held)
  as_clocked k a b held e h = subst Has (clock_taken least faults readings n code k l a b held e) h

  pub bare_out : (k : ℕ) (held : Held A) → IsBare held → Has (Takes k None held) → Has (just_lane n code l)
  bare_out k held bare h = subst Has (bare_taken (part_seen least faults readings) n code k l held bare) h

module _ {A C : Type 0} (over : CodeView → A → Type 0) (stands_as : ProgramView → A → TaskBody → Type 0) (least faults : C → ℕ) (readings : C → Option (List ℕ)) (program : ProgramView) (code : ValidCode) (id : TableId) (n : ℕ) (t p : Worker A C) (l : Lane A) where
  -- room was made for what is to come, and what is held shows the same
  pub made_room : (k : ℕ) (clock : Option (ClockBox C)) (old new : Held A) → SameWorker t p → p.hand ≡ t.hand → entries p.entries ≡ entries t.entries → p.number ≡ k → ShowSame old new
      → IsCarrying over stands_as program code id n t (desk_taken (part_seen least faults readings) n code k l clock old) → IsCarrying over stands_as program code id n p (desk_taken (part_seen least faults readings) n code p.number l clock new)
  made_room k clock old new same hand entries number show s = as_number over stands_as least faults readings program code id n p l k p.number clock new number
      (still_carries over stands_as program id n t p same entries code (desk_taken (part_seen least faults readings) n code k l clock new) hand (as_shown over stands_as least faults readings program code id n t l k clock old new show s))

-- what shows the same settles the same
pub served_same : {A : Type 0} (old new : Held A) (p : ℕ) → ShowSame old new → served_in new p ≡ served_in old p
served_same old new p show = ap₂ (λ see ports. settle_at (glance see) (whole ports p)) (λ t i. show.waits i t) (λ t i. show.channels i t)

pub ready_same : {A : Type 0} (old new : Held A) → ShowSame old new → is_some old.ready ≡ true → is_some new.ready ≡ true
ready_same old new show e = sym (some_map tasks_in new.ready) ∙ ap is_some show.ready ∙ some_map tasks_in old.ready ∙ e

-- what only got a ready part more settles the same
pub served_ready : {A : Type 0} (old new : Held A) (p : ℕ) → new.banks ≡ old.banks → new.shards ≡ old.shards → served_in new p ≡ served_in old p
served_ready old new p banks shards = ap₂ (λ b s. settle_at (glance (waits_held s)) (whole (channels_held b) p)) banks shards

-- what holds anyway holds of what was refused
pub refused_or : {T E P : Type 0} (r : Result T E) → P → OnErr r P
refused_or (Ok t) p = tt
refused_or (Err e) p = p

pub same_show : {A : Type 0} (h : Held A) → ShowSame h h
same_show h = record { channels = λ i. refl; registries = λ i. refl; waits = λ i. refl; ready = refl }

-- what follows where a call succeeds
pub if_ok : {T E : Type 0} (P Q : T → Type 0) (r : Result T E) → ((x : T) → P x → Q x) → IfOk r P → IfOk r Q
if_ok P Q (Ok x) f p = f x p
if_ok P Q (Err e) f p = tt

-- where only what is spare changed
pub show_kept : {A : Type 0} (old new : Held A) → new.banks ≡ old.banks → new.shards ≡ old.shards → new.ready ≡ old.ready → ShowSame old new
show_kept old new banks shards ready = record { channels = λ i. ap (λ b. channels_held b i) banks; registries = λ i. ap (λ b. registries_held b i) banks; waits = λ i. ap (λ z. waits_held z i) shards; ready = ap ready_in ready }

pub for_ok : {T E P : Type 0} (r : Result T E) (x : T) → r ≡ Ok x → OnOk r P → P
for_ok (Ok t) x e p = p
for_ok (Err e) x is p = absurd (let z : Err e ≡ Ok x = is in cc)

pub for_answer : {T E : Type 0} (P : T → Type 0) (r : Result T E) (x : T) → r ≡ Ok x → IfOk r P → P x
for_answer P (Ok t) x e p = let z : t ≡ x = cc in subst P z p
for_answer P (Err e) x is p = absurd (let z : Err e ≡ Ok x = is in cc)

pub for_err : {T E P : Type 0} (r : Result T E) (e : E) → r ≡ Err e → OnErr r P → P
for_err (Ok t) e is p = absurd (let z : Ok t ≡ Err e = is in cc)
for_err (Err f) e is p = p
