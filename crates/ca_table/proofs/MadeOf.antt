-- What each carried part is made of tells what all of them bear, and that each stays of its kind.
use Rattle.std.proofs.Common.{◌≡◌, ◌∙◌, ℕ, refl, sym, ap, subst, Bool, true, false, cond, Option, Some, None, eqb, is_some}
use Rattle.std.specs.Prelude.{option_map}
use Rattle.ca_commit.specs.Agents.{TaskAgent}
use Rattle.ca_commit.specs.Contents.{Content, LaneView, TimersPart}
use Rattle.ca_commit.specs.Gathered.{Alike, Kind, bank_kind, bank_of, channels_of, kind_of_part, lane_kind, lane_of, ready_kind, ready_of, registries_of, shard_kind, shard_of, sorted, timers_kind, timers_of}
use Rattle.ca_commit.specs.Listing.{listed}
use Rattle.ca_commit.specs.Listings.{parts}
use Rattle.ca_commit.specs.Numbers.{number_of_bank, number_of_shard}
use Rattle.ca_commit.specs.Showing.{bank_in, registries_in, shard_in}
use Rattle.ca_commit.specs.Waking.{ready_in}
use Rattle.ca_commit.specs.declared.held.Held.{Held}
use Rattle.ca_commit.specs.declared.held.HeldBank.{HeldBank}
use Rattle.ca_commit.specs.declared.held.HeldShard.{HeldShard}
use Rattle.ca_commit.specs.declared.task.Ready.{Ready}
use Rattle.ca_table.specs.Bearing.{Bears, IsMadeOf, bank_content, lane_content, paired_parts, ready_content, shard_content, timers_content}
use Rattle.ca_table.specs.Carrying.{Carries, EachCarried}

pub some_same : {X : Type 0} (x y : X) → Some x ≡ Some y → x ≡ y
some_same x y e = cc

module _ (A : Type 0) (n : ℕ) where
  channels_there : (o : Option HeldBank) → channels_of (sorted bank_of (option_map (bank_content {A = A} n) o)) ≡ option_map bank_in o
  channels_there None = refl
  channels_there (Some b) = refl

  registries_there : (o : Option HeldBank) → registries_of (sorted bank_of (option_map (bank_content {A = A} n) o)) ≡ option_map registries_in o
  registries_there None = refl
  registries_there (Some b) = refl

  waits_there : (o : Option (HeldShard A)) → sorted shard_of (option_map (shard_content n) o) ≡ option_map shard_in o
  waits_there None = refl
  waits_there (Some s) = refl

  lane_there : (o : Option (LaneView (TaskAgent A))) → sorted lane_of (option_map (lane_content n) o) ≡ o
  lane_there None = refl
  lane_there (Some l) = refl

  timers_there : (o : Option TimersPart) → sorted timers_of (option_map (timers_content {A = A} n) o) ≡ o
  timers_there None = refl
  timers_there (Some c) = refl

  ready_there : (b : Bool) (o : Option (Ready A)) → sorted ready_of (cond b (option_map (ready_content n) o) None) ≡ cond b (ready_in o) None
  ready_there true None = refl
  ready_there true (Some r) = refl
  ready_there false o = refl

module _ {A X : Type 0} (n w : ℕ) (f : X → Content (TaskAgent A)) (h : Carries X) (lane : Option (LaneView (TaskAgent A))) (timers : Option TimersPart) (held : Held A) where
  pub bears : IsMadeOf n f w h lane timers held → Bears f w h lane timers held
  bears m = record {
    lane_is = ap (sorted lane_of) m.lane_part ∙ lane_there A n lane;
    channels = λ i. ap (λ o. channels_of (sorted bank_of o)) (m.bank_parts i) ∙ channels_there A n (listed number_of_bank (parts held.banks) i);
    registries = λ i. ap (λ o. registries_of (sorted bank_of o)) (m.bank_parts i) ∙ registries_there A n (listed number_of_bank (parts held.banks) i);
    waits = λ i. ap (sorted shard_of) (m.shard_parts i) ∙ waits_there A n (listed number_of_shard (parts held.shards) i);
    ready = λ r. ap (sorted ready_of) (m.ready_parts r) ∙ ready_there A n (eqb w r) held.ready;
    timers_are = ap (sorted timers_of) m.timers_part ∙ timers_there A n timers;
  }

abbrev Tells : {A : Type 0} → ℕ → Kind → Content A → Type 0
Tells n k c = (c.workers ≡ n) × (kind_of_part c.held ≡ k)

module _ {A Z : Type 0} (n : ℕ) (k : Kind) (content : Z → Content A) (is : (z : Z) → Tells n k (content z)) where
  tells : (c : Content A) (o : Option Z) → Some c ≡ option_map content o → Tells n k c
  tells c None e = absurd (let z : Some c ≡ None = e in cc)
  tells c (Some z) e = subst (Tells n k) (sym (some_same c (content z) e)) (is z)

module _ {A X Z : Type 0} (n : ℕ) (k : Kind) (content : Z → Content A) (is : (z : Z) → Tells n k (content z)) where
  alike_by : (f g : X → Content A) (o : Option X) (a b : Option Z) → option_map f o ≡ option_map content a → option_map g o ≡ option_map content b → (x : X) → o ≡ Some x → Alike n (f x) (g x)
  alike_by f g o a b e r x there =
      let p = tells n k content is (f x) a (sym (ap (option_map f) there) ∙ e) in
      let q = tells n k content is (g x) b (sym (ap (option_map g) there) ∙ r) in
      (p.0, q.0, q.1 ∙ sym p.1)

module _ {X Y Z : Type 0} where
  -- what is told of either half of a pair, where both are there or neither
  pub paired_first : (g : X → Z) (a : Option X) (b : Option Y) → is_some a ≡ is_some b → option_map (λ (x : X × Y). g x.0) (paired_parts a b) ≡ option_map g a
  paired_first g None b e = refl
  paired_first g (Some x) None e = absurd (let z : true ≡ false = e in cc)
  paired_first g (Some x) (Some y) e = refl

  pub paired_second : (f : Y → Z) (a : Option X) (b : Option Y) → is_some a ≡ is_some b → option_map (λ (x : X × Y). f x.1) (paired_parts a b) ≡ option_map f b
  paired_second f None None e = refl
  paired_second f None (Some y) e = absurd (let z : false ≡ true = e in cc)
  paired_second f (Some x) None e = absurd (let z : true ≡ false = e in cc)
  paired_second f (Some x) (Some y) e = refl

module _ {A X : Type 0} (n w : ℕ) (f g : X → Content (TaskAgent A)) (h : Carries X) (lane lane2 : Option (LaneView (TaskAgent A))) (timers timers2 : Option TimersPart) (held held2 : Held A) where
  ready_alike : (r : ℕ) (b : Bool) → option_map f (h.ready r) ≡ cond b (option_map (ready_content n) held.ready) None → option_map g (h.ready r) ≡ cond b (option_map (ready_content n) held2.ready) None → (x : X) → h.ready r ≡ Some x → Alike n (f x) (g x)
  ready_alike r true a b x there = alike_by n ready_kind (ready_content n) (λ z. (refl, refl)) f g (h.ready r) held.ready held2.ready a b x there
  ready_alike r false a b x there = absurd (let z : Some (f x) ≡ None = sym (ap (option_map f) there) ∙ a in cc)

  -- each part stays of its kind
  pub all_alike : IsMadeOf n f w h lane timers held → IsMadeOf n g w h lane2 timers2 held2 → EachCarried (λ x. Alike n (f x) (g x)) h
  all_alike a b = record {
    lane = alike_by n lane_kind (lane_content n) (λ z. (refl, refl)) f g h.lane lane lane2 a.lane_part b.lane_part;
    banks = λ i. alike_by n bank_kind (bank_content n) (λ z. (refl, refl)) f g (h.banks i) (listed number_of_bank (parts held.banks) i) (listed number_of_bank (parts held2.banks) i) (a.bank_parts i) (b.bank_parts i);
    shards = λ i. alike_by n shard_kind (shard_content n) (λ z. (refl, refl)) f g (h.shards i) (listed number_of_shard (parts held.shards) i) (listed number_of_shard (parts held2.shards) i) (a.shard_parts i) (b.shard_parts i);
    timers = alike_by n timers_kind (timers_content n) (λ z. (refl, refl)) f g h.timers timers timers2 a.timers_part b.timers_part;
    ready = λ r. ready_alike r (eqb w r) (a.ready_parts r) (b.ready_parts r);
  }
