-- What is carried is made of what is held, as it was loaded and as it is now; reserving leaves that as it is.
use Rattle.std.proofs.Common.{◌≡◌, ◌∙◌, ℕ, refl, sym, ap, cond, Option, Some, None, eqb, is_some}
use Rattle.std.specs.Prelude.{option_map}
use Rattle.ca_commit.specs.Agents.{TaskAgent}
use Rattle.ca_commit.specs.Contents.{Content, LaneView, TimersPart, a_bank, a_ready, a_shard}
use Rattle.ca_commit.specs.Listing.{listed}
use Rattle.ca_commit.specs.Listings.{parts}
use Rattle.ca_commit.specs.Numbers.{number_of_bank, number_of_shard}
use Rattle.ca_commit.specs.Showing.{bank_in, registries_in, shard_in}
use Rattle.ca_commit.specs.Tasks.{tasks_in}
use Rattle.ca_commit.specs.declared.held.Held.{Held}
use Rattle.ca_commit.specs.declared.held.HeldBank.{HeldBank}
use Rattle.ca_commit.specs.declared.held.HeldShard.{HeldShard}
use Rattle.ca_commit.specs.declared.task.Ready.{Ready}
use Rattle.ca_table.specs.Bearing.{IsMadeOf, ShowSame, bank_content, content, paired_parts, ready_content, shard_content}
use Rattle.ca_table.specs.Carrying.{Carries}
use Rattle.ca_table.specs.Parts.{bank_seen, shard_seen}
use Rattle.ca_table.specs.Seen.{PartSeen, content_of, held_of, seen_bank, seen_shard}
use Rattle.ca_table.proofs.Bearing.{channels_seen, registries_seen, waits_seen}
use Rattle.ca_table.proofs.MadeOf.{paired_first, paired_second, some_same}

-- a bank and a shard as contracts see them
pub bank_is : (A : Type 0) (n : ℕ) (b : HeldBank) → content n (held_of {A = A} (seen_bank (bank_seen b.bank.value))) ≡ bank_content n b
bank_is A n b = λ t. content n (a_bank (record { channels = channels_seen b.bank.value t; registries = registries_seen b.bank.value t }))

pub shard_is : {A : Type 0} (n : ℕ) (s : HeldShard A) → content n (held_of (seen_shard (shard_seen s.shard.value))) ≡ shard_content n s
shard_is n s = λ t. content n (a_shard (waits_seen s.shard.value t))

module _ (A : Type 0) (n : ℕ) where
  same_banks : (o z : Option HeldBank) → option_map bank_in z ≡ option_map bank_in o → option_map registries_in z ≡ option_map registries_in o → option_map (bank_content {A = A} n) o ≡ option_map (bank_content {A = A} n) z
  same_banks None None a b = refl
  same_banks None (Some y) a b = absurd (let k : Some (bank_in y) ≡ None = a in cc)
  same_banks (Some x) None a b = absurd (let k : None ≡ Some (bank_in x) = a in cc)
  same_banks (Some x) (Some y) a b = let c = some_same (bank_in y) (bank_in x) a in let r = some_same (registries_in y) (registries_in x) b in
      sym (λ t. Some (content n (a_bank (record { channels = c t; registries = r t }))))

  same_shards : (o z : Option (HeldShard A)) → option_map shard_in z ≡ option_map shard_in o → option_map (shard_content n) o ≡ option_map (shard_content n) z
  same_shards None None a = refl
  same_shards None (Some y) a = absurd (let k : Some (shard_in y) ≡ None = a in cc)
  same_shards (Some x) None a = absurd (let k : None ≡ Some (shard_in x) = a in cc)
  same_shards (Some x) (Some y) a = ap (λ s. Some (content n (a_shard s))) (sym (some_same (shard_in y) (shard_in x) a))

  same_ready : (o z : Option (Ready A)) → option_map tasks_in z ≡ option_map tasks_in o → option_map (ready_content n) o ≡ option_map (ready_content n) z
  same_ready None None a = refl
  same_ready None (Some y) a = absurd (let k : Some (tasks_in y) ≡ None = a in cc)
  same_ready (Some x) None a = absurd (let k : None ≡ Some (tasks_in x) = a in cc)
  same_ready (Some x) (Some y) a = ap (λ q. Some (content n (a_ready q))) (sym (some_same (tasks_in y) (tasks_in x) a))

-- what is made of what is held is made of what shows the same
pub made_same : {A X : Type 0} (n w : ℕ) (f : X → Content (TaskAgent A)) (h : Carries X) (lane : Option (LaneView (TaskAgent A))) (timers : Option TimersPart) (old new : Held A) → ShowSame old new → IsMadeOf n f w h lane timers old → IsMadeOf n f w h lane timers new
made_same {A} n w f h lane timers old new same m = record {
  lane_part = m.lane_part;
  bank_parts = λ i. m.bank_parts i ∙ same_banks A n (listed number_of_bank (parts old.banks) i) (listed number_of_bank (parts new.banks) i) (same.channels i) (same.registries i);
  shard_parts = λ i. m.shard_parts i ∙ same_shards A n (listed number_of_shard (parts old.shards) i) (listed number_of_shard (parts new.shards) i) (same.waits i);
  timers_part = m.timers_part;
  ready_parts = λ r. m.ready_parts r ∙ ap (λ o. cond (eqb w r) o None) (same_ready A n old.ready new.ready same.ready);
}

module _ {Z S V : Type 0} (view : S → V) (show : Z → S) (whole : Z → V) (is : (z : Z) → view (show z) ≡ whole z) where
  over_both : (o : Option Z) → option_map view (option_map show o) ≡ option_map whole o
  over_both None = refl
  over_both (Some z) = ap Some (is z)

module _ {A P Z : Type 0} (seen : P → PartSeen A) (as_part : Z → P) (whole : Z → Content (TaskAgent A)) (is : (z : Z) → content_of (seen (as_part z)) ≡ whole z) where
  -- a part as it is now, with what was settled of it, where it is there before and after or neither
  abbrev pub kept : Option Z → Option Z → Option (P × PartSeen A)
  kept old new = paired_parts (option_map as_part new) (option_map (λ z. seen (as_part z)) old)

  both_there : (o z : Option Z) → is_some z ≡ is_some o → is_some (option_map as_part z) ≡ is_some (option_map (λ z. seen (as_part z)) o)
  both_there None None e = refl
  both_there None (Some y) e = e
  both_there (Some x) None e = e
  both_there (Some x) (Some y) e = refl

  pub kept_was : (o z : Option Z) → is_some z ≡ is_some o → option_map (λ (x : P × PartSeen A). content_of x.1) (kept o z) ≡ option_map whole o
  kept_was o z e = paired_second content_of (option_map as_part z) (option_map (λ z. seen (as_part z)) o) (both_there o z e) ∙ over_both content_of (λ z. seen (as_part z)) whole is o

  pub kept_is : (o z : Option Z) → is_some z ≡ is_some o → option_map (λ (x : P × PartSeen A). content_of (seen x.0)) (kept o z) ≡ option_map whole z
  kept_is o z e = paired_first (λ x. content_of (seen x)) (option_map as_part z) (option_map (λ z. seen (as_part z)) o) (both_there o z e) ∙ over_both (λ x. content_of (seen x)) as_part whole is z
