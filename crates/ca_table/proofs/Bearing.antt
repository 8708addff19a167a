-- What is carried is what is held, as the parts of a run.
use Rattle.std.proofs.Common.{◌≡◌, ◌∙◌, ℕ, refl, sym, ap, subst, true, cond, Option, Some, None, eqb, is_some}
use Rattle.std.specs.Prelude.{option_map}
use Rattle.std.specs.FinMap as map
use Rattle.ca_bank.specs.Bank.{kept_at, registry_at}
use Rattle.ca_registry.specs.Registry.{registry_view}
use Rattle.ca_bank.specs.Room.{kept_view}
use Rattle.ca_bank.specs.declared.bank.Bank.{Bank}
use Rattle.ca_bank.specs.declared.shard.Shard.{Shard}
use Rattle.ca_commit.specs.Agents.{TaskAgent}
use Rattle.ca_commit.specs.Contents.{Content, LaneView, Parts, TimersPart}
use Rattle.ca_commit.specs.Gathered.{bank_of, channels_of, lane_of, sorted}
use Rattle.ca_commit.specs.Showing.{channels_held, parked_view, waits_of}
use Rattle.ca_commit.specs.declared.held.Held.{Held}
use Rattle.ca_commit.specs.declared.task.Task.{Task}
use Rattle.ca_table.specs.Bearing.{Bears, ShowSame, parts_held}
use Rattle.ca_table.specs.Carrying.{Carries, carried}
use Rattle.ca_table.specs.Parts.{bank_seen, shard_seen}
use Rattle.ca_table.proofs.Finite.{get_finite}

-- what a part shows to contracts has all that `ca_commit` sees of it
pub channels_seen : (b : Bank) → map.get (bank_seen b).channels ≡ kept_at b
channels_seen b = λ t p. get_finite kept_view b.rooms p t

pub registries_seen : (b : Bank) → map.get (bank_seen b).registries ≡ registry_at b
registries_seen b = λ t p. get_finite registry_view b.registries p t

pub waits_seen : {A : Type 0} (s : Shard (Task A)) → map.get (shard_seen s) ≡ waits_of s
waits_seen s = λ t p. get_finite parked_view s.waits p t

module _ {A X : Type 0} (f : X → Content (TaskAgent A)) (w : ℕ) (h : Carries X) (lane : Option (LaneView (TaskAgent A))) (timers : Option TimersPart) where
  pub carried_is : (held : Held A) → Bears f w h lane timers held → carried f w h ≡ parts_held w lane timers held
  carried_is held b = λ t. record {
    lane = λ v. cond (eqb w v) (b.lane_is t) None;
    bank = λ i. b.channels i t;
    registry = λ i. b.registries i t;
    shard = λ i. b.waits i t;
    ready = λ r. b.ready r t;
    timers = b.timers_are t;
  }

  -- of what shows the same, too
  pub bears_same : (old new : Held A) → ShowSame old new → Bears f w h lane timers old → Bears f w h lane timers new
  bears_same old new same b = record {
    lane_is = b.lane_is;
    channels = λ i. b.channels i ∙ sym (same.channels i);
    registries = λ i. b.registries i ∙ sym (same.registries i);
    waits = λ i. b.waits i ∙ sym (same.waits i);
    ready = λ r. b.ready r ∙ ap (λ o. cond (eqb w r) o None) (sym same.ready);
    timers_are = b.timers_are;
  }

module _ {A X : Type 0} (f : X → Content (TaskAgent A)) (w : ℕ) (h : Carries X) where
  -- a bank that is held is carried, and so is the lane
  pub has_bank : (lane : Option (LaneView (TaskAgent A))) (timers : Option TimersPart) (held : Held A) → Bears f w h lane timers held → (i : ℕ) → is_some (channels_held held.banks i) ≡ true → is_some (h.banks i) ≡ true
  has_bank lane timers held b i e = by (h.banks i) (ap is_some (b.channels i) ∙ e) where
    by : (o : Option X) → is_some (channels_of (sorted bank_of (option_map f o))) ≡ true → is_some o ≡ true
    by None e = e
    by (Some x) e = refl

  pub has_lane : (lane : LaneView (TaskAgent A)) (timers : Option TimersPart) (held : Held A) → Bears f w h (Some lane) timers held → is_some h.lane ≡ true
  has_lane lane timers held b = by h.lane (ap is_some b.lane_is) where
    by : (o : Option X) → is_some (sorted lane_of (option_map f o)) ≡ true → is_some o ≡ true
    by None e = e
    by (Some x) e = refl

module _ {A X : Type 0} (f g : X → Content (TaskAgent A)) (w : ℕ) (h : Carries X) (lane lane2 : Option (LaneView (TaskAgent A))) (timers timers2 : Option TimersPart) (held held2 : Held A) where
  -- what is true of these parts is true of what is carried
  pub both_carried : Bears f w h lane timers held → Bears g w h lane2 timers2 held2 → (P : Parts (TaskAgent A) → Parts (TaskAgent A) → Type 0) → P (parts_held w lane timers held) (parts_held w lane2 timers2 held2) → P (carried f w h) (carried g w h)
  both_carried a b P p = subst (λ (x : Parts (TaskAgent A)). P x (carried g w h)) (sym (carried_is f w h lane timers held a)) (subst (λ (x : Parts (TaskAgent A)). P (parts_held w lane timers held) x) (sym (carried_is g w h lane2 timers2 held2 b)) p)
