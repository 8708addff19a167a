-- What is carried, with one part more or another in its place.
use Rattle.std.proofs.Common.{◌≡◌, ◌∙◌, ⊎_elim, ℕ, ◌+◌, ◌-◌, ◌<◌, refl, sym, ap, subst, arith, Bool, true, false, cond, Option, Some, None, eqb, eqb-true, ne_eqb, eq-eqb}
use Rattle.std.proofs.lemmas.Bool.{cases_lt}
use Rattle.std.specs.Map.{update}
use mathlib.Core.Logic.{dite}
use native.Mathlib.Decide.{ℕ_discrete}
use Rattle.ca_commit.specs.Contents.{Content}
use Rattle.ca_commit.specs.Gathered.{Kind, bank_kind, kind_of_part, lane_kind, ready_kind, shard_kind, timers_kind}
use Rattle.ca_table.specs.Carrying.{AreSorted, Carries, EachCarried, IsPlace, Place, at_places, bank_place, each_by, kind_there, lane_place, nothing_carried, number_at, part_at, ready_place, shard_place, timers_place, with_at}
use Rattle.ca_table.specs.Grips.{settled_one}
use Rattle.ca_table.proofs.Carrying.{at_bank, at_lane, at_ready, at_shard, at_timers, below_n}

-- each number is that of a lane, a bank, a shard, the timers or a ready part
pub everywhere : (n : ℕ) (P : ℕ → Type 0) → ((j : ℕ) → j < n → P j) → ((i : ℕ) → i < 16 → P (n + i)) → ((i : ℕ) → i < 16 → P (n + 16 + i)) → P (n + 32) → ((r : ℕ) → P (n + 33 + r)) → (j : ℕ) → P j
everywhere n P a b c d e j = ⊎_elim (λ lt. a j lt)
    (λ ge. ⊎_elim (λ lt. let k = j - n in let s : j ≡ n + k = omega (arith, ge) in subst P (sym s) (b k (omega (arith, lt, ge))))
    (λ ge. ⊎_elim (λ lt. let k = j - (n + 16) in let s : j ≡ n + 16 + k = omega (arith, ge) in subst P (sym s) (c k (omega (arith, lt, ge))))
    (λ ge. ⊎_elim (λ lt. let s : j ≡ n + 32 = omega (arith, ge, lt) in subst P (sym s) d)
    (λ ge. let k = j - (n + 33) in let s : j ≡ n + 33 + k = omega (arith, ge) in subst P (sym s) (e k))
    (cases_lt j (n + 33))) (cases_lt j (n + 32))) (cases_lt j (n + 16))) (cases_lt j n)

pub shifted : (b i j : ℕ) → eqb (b + i) (b + j) ≡ eqb i j
shifted b i j = dite (ℕ_discrete i j)
    (λ e. eq-eqb (b + i) (b + j) (ap (λ (k : ℕ). b + k) e) ∙ sym (eq-eqb i j e))
    (λ ne. ne_eqb (b + i) (b + j) (λ e. ne (let k : i ≡ j = omega (arith, e) in k)) ∙ sym (ne_eqb i j ne))

some_same : {X : Type 0} (x y : X) → Some x ≡ Some y → x ≡ y
some_same x y e = cc

module _ {X : Type 0} where
  stays : (p j : ℕ) (o x : Option X) → (p ≡ j → ⊥) → x ≡ cond (eqb p j) o x
  stays p j o x ne = sym (ap (λ b. cond b o x) (ne_eqb p j ne))

  module _ (n w : ℕ) (h k : Carries X) (p : ℕ) (o : Option X) where
    changed_by : ((j : ℕ) → j < n → cond (eqb w j) k.lane None ≡ cond (eqb p j) o (cond (eqb w j) h.lane None)) → ((i : ℕ) → i < 16 → k.banks i ≡ cond (eqb p (n + i)) o (h.banks i)) → ((i : ℕ) → i < 16 → k.shards i ≡ cond (eqb p (n + 16 + i)) o (h.shards i))
        → k.timers ≡ cond (eqb p (n + 32)) o h.timers → ((r : ℕ) → k.ready r ≡ cond (eqb p (n + 33 + r)) o (h.ready r)) → at_places n w k ≡ update eqb (at_places n w h) p o
    changed_by a b c d e = λ t j. everywhere n (λ (j : ℕ). at_places n w k j ≡ update eqb (at_places n w h) p o j)
        (λ j lt. below_n n w k j lt ∙ a j lt ∙ ap (λ x. cond (eqb p j) o x) (sym (below_n n w h j lt)))
        (λ i lt. at_bank n w k i lt ∙ b i lt ∙ ap (λ x. cond (eqb p (n + i)) o x) (sym (at_bank n w h i lt)))
        (λ i lt. at_shard n w k i lt ∙ c i lt ∙ ap (λ x. cond (eqb p (n + 16 + i)) o x) (sym (at_shard n w h i lt)))
        (at_timers n w k ∙ d ∙ ap (λ x. cond (eqb p (n + 32)) o x) (sym (at_timers n w h)))
        (λ r. at_ready n w k r ∙ e r ∙ ap (λ x. cond (eqb p (n + 33 + r)) o x) (sym (at_ready n w h r)))
        j t

  over_lane : (b : Bool) (o x : Option X) → cond b o None ≡ cond b o (cond b x None)
  over_lane true o x = refl
  over_lane false o x = refl

  -- another part at one place changes what is at its number
  pub placed : (n w : ℕ) → w < n → (z : Place) → IsPlace z → (o : Option X) (h : Carries X) → at_places n w (with_at z o h) ≡ update eqb (at_places n w h) (number_at n w z) o
  placed n w lt lane_place is o h = changed_by n w h (with_at lane_place o h) w o (λ j l. over_lane (eqb w j) o h.lane) (λ i l. stays w (n + i) o (h.banks i) (λ e. omega (arith, e, lt))) (λ i l. stays w (n + 16 + i) o (h.shards i) (λ e. omega (arith, e, lt)))
      (stays w (n + 32) o h.timers (λ e. omega (arith, e, lt))) (λ r. stays w (n + 33 + r) o (h.ready r) (λ e. omega (arith, e, lt)))
  placed n w lt (bank_place p) is o h = changed_by n w h (with_at (bank_place p) o h) (n + p) o (λ j l. stays (n + p) j o (cond (eqb w j) h.lane None) (λ e. omega (arith, e, l))) (λ i l. ap (λ b. cond b o (h.banks i)) (sym (shifted n p i))) (λ i l. stays (n + p) (n + 16 + i) o (h.shards i) (λ e. omega (arith, e, is)))
      (stays (n + p) (n + 32) o h.timers (λ e. omega (arith, e, is))) (λ r. stays (n + p) (n + 33 + r) o (h.ready r) (λ e. omega (arith, e, is)))
  placed n w lt (shard_place p) is o h = changed_by n w h (with_at (shard_place p) o h) (n + 16 + p) o (λ j l. stays (n + 16 + p) j o (cond (eqb w j) h.lane None) (λ e. omega (arith, e, l))) (λ i l. stays (n + 16 + p) (n + i) o (h.banks i) (λ e. omega (arith, e, l))) (λ i l. ap (λ b. cond b o (h.shards i)) (sym (shifted (n + 16) p i)))
      (stays (n + 16 + p) (n + 32) o h.timers (λ e. omega (arith, e, is))) (λ r. stays (n + 16 + p) (n + 33 + r) o (h.ready r) (λ e. omega (arith, e, is)))
  placed n w lt timers_place is o h = changed_by n w h (with_at timers_place o h) (n + 32) o (λ j l. stays (n + 32) j o (cond (eqb w j) h.lane None) (λ e. omega (arith, e, l))) (λ i l. stays (n + 32) (n + i) o (h.banks i) (λ e. omega (arith, e, l))) (λ i l. stays (n + 32) (n + 16 + i) o (h.shards i) (λ e. omega (arith, e, l)))
      (ap (λ b. cond b o h.timers) (sym (eq-eqb (n + 32) (n + 32) refl))) (λ r. stays (n + 32) (n + 33 + r) o (h.ready r) (λ e. omega (arith, e)))
  placed n w lt (ready_place p) is o h = changed_by n w h (with_at (ready_place p) o h) (n + 33 + p) o (λ j l. stays (n + 33 + p) j o (cond (eqb w j) h.lane None) (λ e. omega (arith, e, l))) (λ i l. stays (n + 33 + p) (n + i) o (h.banks i) (λ e. omega (arith, e, l))) (λ i l. stays (n + 33 + p) (n + 16 + i) o (h.shards i) (λ e. omega (arith, e, l)))
      (stays (n + 33 + p) (n + 32) o h.timers (λ e. omega (arith, e))) (λ r. ap (λ b. cond b o (h.ready r)) (sym (shifted (n + 33) p r)))

  pub at_place : (n w : ℕ) → w < n → (z : Place) → IsPlace z → (h : Carries X) → at_places n w h (number_at n w z) ≡ part_at z h
  at_place n w lt lane_place is h = at_lane n w h lt
  at_place n w lt (bank_place i) is h = at_bank n w h i is
  at_place n w lt (shard_place i) is h = at_shard n w h i is
  at_place n w lt timers_place is h = at_timers n w h
  at_place n w lt (ready_place r) is h = at_ready n w h r

  -- a place that had none has none again
  unchanged : (f : ℕ → Option X) (i : ℕ) → f i ≡ None → (j : ℕ) → cond (eqb i j) None (f j) ≡ f j
  unchanged f i none j = by (eqb i j) refl where
    by : (b : Bool) → eqb i j ≡ b → cond b None (f j) ≡ f j
    by true e = sym none ∙ ap f (eqb-true i j e)
    by false e = refl

  pub with_none : (z : Place) (h : Carries X) → part_at z h ≡ None → with_at z None h ≡ h
  with_none lane_place h e = λ t. record { lane = sym e t; banks = h.banks; shards = h.shards; timers = h.timers; ready = h.ready }
  with_none (bank_place i) h e = λ t. record { lane = h.lane; banks = λ j. unchanged h.banks i e j t; shards = h.shards; timers = h.timers; ready = h.ready }
  with_none (shard_place i) h e = λ t. record { lane = h.lane; banks = h.banks; shards = λ j. unchanged h.shards i e j t; timers = h.timers; ready = h.ready }
  with_none timers_place h e = λ t. record { lane = h.lane; banks = h.banks; shards = h.shards; timers = sym e t; ready = h.ready }
  with_none (ready_place r) h e = λ t. record { lane = h.lane; banks = h.banks; shards = h.shards; timers = h.timers; ready = λ j. unchanged h.ready r e j t }

  twice_at : (f : ℕ → Option X) (i : ℕ) (a b : Option X) (j : ℕ) → cond (eqb i j) b (cond (eqb i j) a (f j)) ≡ cond (eqb i j) b (f j)
  twice_at f i a b j = by (eqb i j) where
    by : (c : Bool) → cond c b (cond c a (f j)) ≡ cond c b (f j)
    by true = refl
    by false = refl

  pub with_twice : (z : Place) (a b : Option X) (h : Carries X) → with_at z b (with_at z a h) ≡ with_at z b h
  with_twice lane_place a b h = refl
  with_twice (bank_place i) a b h = λ t. record { lane = h.lane; banks = λ j. twice_at h.banks i a b j t; shards = h.shards; timers = h.timers; ready = h.ready }
  with_twice (shard_place i) a b h = λ t. record { lane = h.lane; banks = h.banks; shards = λ j. twice_at h.shards i a b j t; timers = h.timers; ready = h.ready }
  with_twice timers_place a b h = refl
  with_twice (ready_place r) a b h = λ t. record { lane = h.lane; banks = h.banks; shards = h.shards; timers = h.timers; ready = λ j. twice_at h.ready r a b j t }

  pub part_here : (z : Place) (o : Option X) (h : Carries X) → part_at z (with_at z o h) ≡ o
  part_here lane_place o h = refl
  part_here (bank_place i) o h = ap (λ b. cond b o (h.banks i)) (eq-eqb i i refl)
  part_here (shard_place i) o h = ap (λ b. cond b o (h.shards i)) (eq-eqb i i refl)
  part_here timers_place o h = refl
  part_here (ready_place r) o h = ap (λ b. cond b o (h.ready r)) (eq-eqb r r refl)

  module _ (P : X → Type 0) where
    in_cond : (b : Bool) (o q : Option X) (y : X) → (o ≡ Some y → P y) → (q ≡ Some y → P y) → cond b o q ≡ Some y → P y
    in_cond true o q y p h e = p e
    in_cond false o q y p h e = h e

    of_one : (x : X) → P x → (y : X) → Some x ≡ Some y → P y
    of_one x p y e = subst P (some_same x y e) p

    of_none : (y : X) → None ≡ Some y → P y
    of_none y e = absurd (let k : None ≡ Some y = e in cc)

    pub each_nothing : EachCarried P nothing_carried
    each_nothing = record { lane = of_none; banks = λ i. of_none; shards = λ i. of_none; timers = of_none; ready = λ r. of_none }

    each_change : (z : Place) (o : Option X) (h : Carries X) → ((x : X) → o ≡ Some x → P x) → EachCarried P h → EachCarried P (with_at z o h)
    each_change lane_place o h p s = record { lane = p; banks = s.banks; shards = s.shards; timers = s.timers; ready = s.ready }
    each_change (bank_place i) o h p s = record { lane = s.lane; banks = λ j y. in_cond (eqb i j) o (h.banks j) y (p y) (s.banks j y); shards = s.shards; timers = s.timers; ready = s.ready }
    each_change (shard_place i) o h p s = record { lane = s.lane; banks = s.banks; shards = λ j y. in_cond (eqb i j) o (h.shards j) y (p y) (s.shards j y); timers = s.timers; ready = s.ready }
    each_change timers_place o h p s = record { lane = s.lane; banks = s.banks; shards = s.shards; timers = p; ready = s.ready }
    each_change (ready_place r) o h p s = record { lane = s.lane; banks = s.banks; shards = s.shards; timers = s.timers; ready = λ j y. in_cond (eqb r j) o (h.ready j) y (p y) (s.ready j y) }

    pub each_with : (z : Place) (x : X) (h : Carries X) → P x → EachCarried P h → EachCarried P (with_at z (Some x) h)
    each_with z x h p s = each_change z (Some x) h (of_one x p) s

    pub each_without : (z : Place) (h : Carries X) → EachCarried P h → EachCarried P (with_at z None h)
    each_without z h s = each_change z None h of_none s

    -- what is carried there has it
    pub each_there : (z : Place) (h : Carries X) (x : X) → EachCarried P h → part_at z h ≡ Some x → P x
    each_there lane_place h x s e = s.lane x e
    each_there (bank_place i) h x s e = s.banks i x e
    each_there (shard_place i) h x s e = s.shards i x e
    each_there timers_place h x s e = s.timers x e
    each_there (ready_place r) h x s e = s.ready r x e

    in_lane : (b : Bool) (o : Option X) (x : X) → (o ≡ Some x → P x) → cond b o None ≡ Some x → P x
    in_lane true o x h e = h e
    in_lane false o x h e = absurd (let k : None ≡ Some x = e in cc)

    pub each_at : (n w : ℕ) (h : Carries X) → EachCarried P h → (j : ℕ) (x : X) → at_places n w h j ≡ Some x → P x
    each_at n w h s = everywhere n (λ (j : ℕ). (x : X) → at_places n w h j ≡ Some x → P x)
        (λ j lt x e. in_lane (eqb w j) h.lane x (s.lane x) (sym (below_n n w h j lt) ∙ e))
        (λ i lt x e. s.banks i x (sym (at_bank n w h i lt) ∙ e))
        (λ i lt x e. s.shards i x (sym (at_shard n w h i lt) ∙ e))
        (λ x e. s.timers x (sym (at_timers n w h) ∙ e))
        (λ r x e. s.ready r x (sym (at_ready n w h r) ∙ e))

module _ {X : Type 0} (P Q : X → Type 0) (f : (x : X) → P x → Q x) where
  pub each_weaker : (h : Carries X) → EachCarried P h → EachCarried Q h
  each_weaker h s = record { lane = λ x e. f x (s.lane x e); banks = λ i x e. f x (s.banks i x e); shards = λ i x e. f x (s.shards i x e); timers = λ x e. f x (s.timers x e); ready = λ r x e. f x (s.ready r x e) }

module _ {X Y : Type 0} (f : Option X → Option Y) where
  push : (b : Bool) (o : Option X) → f None ≡ None → cond b (f o) None ≡ f (cond b o None)
  push true o e = refl
  push false o e = sym e

  pub at_each : (n w : ℕ) (h : Carries X) → f None ≡ None → (j : ℕ) → at_places n w (each_by f h) j ≡ f (at_places n w h j)
  at_each n w h e = everywhere n (λ (j : ℕ). at_places n w (each_by f h) j ≡ f (at_places n w h j))
      (λ j lt. below_n n w (each_by f h) j lt ∙ push (eqb w j) h.lane e ∙ ap f (sym (below_n n w h j lt)))
      (λ i lt. at_bank n w (each_by f h) i lt ∙ ap f (sym (at_bank n w h i lt)))
      (λ i lt. at_shard n w (each_by f h) i lt ∙ ap f (sym (at_shard n w h i lt)))
      (at_timers n w (each_by f h) ∙ ap f (sym (at_timers n w h)))
      (λ r. at_ready n w (each_by f h) r ∙ ap f (sym (at_ready n w h r)))

  under : (b : Bool) (o q : Option X) → f (cond b o q) ≡ cond b (f o) (f q)
  under true o q = refl
  under false o q = refl

  pub each_by_with : (z : Place) (o : Option X) (h : Carries X) → each_by f (with_at z o h) ≡ with_at z (f o) (each_by f h)
  each_by_with lane_place o h = refl
  each_by_with (bank_place i) o h = λ t. record { lane = f h.lane; banks = λ j. under (eqb i j) o (h.banks j) t; shards = λ j. f (h.shards j); timers = f h.timers; ready = λ j. f (h.ready j) }
  each_by_with (shard_place i) o h = λ t. record { lane = f h.lane; banks = λ j. f (h.banks j); shards = λ j. under (eqb i j) o (h.shards j) t; timers = f h.timers; ready = λ j. f (h.ready j) }
  each_by_with timers_place o h = refl
  each_by_with (ready_place r) o h = λ t. record { lane = f h.lane; banks = λ j. f (h.banks j); shards = λ j. f (h.shards j); timers = f h.timers; ready = λ j. under (eqb r j) o (h.ready j) t }

module _ {A X : Type 0} (f : X → Content A) where
  abbrev HasKind : Kind → X → Type 0
  HasKind k x = kind_of_part (f x).held ≡ k

  pub sorted_nothing : AreSorted f nothing_carried
  sorted_nothing = record { lane = of_none (HasKind lane_kind); banks = λ i. of_none (HasKind bank_kind); shards = λ i. of_none (HasKind shard_kind); timers = of_none (HasKind timers_kind); ready = λ r. of_none (HasKind ready_kind); few_banks = λ i le. refl; few_shards = λ i le. refl }

  sorted_change : (z : Place) (o : Option X) (h : Carries X) → IsPlace z → ((x : X) → o ≡ Some x → HasKind (kind_there z) x) → AreSorted f h → AreSorted f (with_at z o h)
  sorted_change lane_place o h is p s = record { lane = p; banks = s.banks; shards = s.shards; timers = s.timers; ready = s.ready; few_banks = s.few_banks; few_shards = s.few_shards }
  sorted_change (bank_place i) o h is p s = record {
    lane = s.lane;
    banks = λ j y. in_cond (HasKind bank_kind) (eqb i j) o (h.banks j) y (p y) (s.banks j y);
    shards = s.shards;
    timers = s.timers;
    ready = s.ready;
    few_banks = λ j le. sym (stays i j o (h.banks j) (λ e. omega (arith, e, is, le))) ∙ s.few_banks j le;
    few_shards = s.few_shards;
  }
  sorted_change (shard_place i) o h is p s = record {
    lane = s.lane;
    banks = s.banks;
    shards = λ j y. in_cond (HasKind shard_kind) (eqb i j) o (h.shards j) y (p y) (s.shards j y);
    timers = s.timers;
    ready = s.ready;
    few_banks = s.few_banks;
    few_shards = λ j le. sym (stays i j o (h.shards j) (λ e. omega (arith, e, is, le))) ∙ s.few_shards j le;
  }
  sorted_change timers_place o h is p s = record { lane = s.lane; banks = s.banks; shards = s.shards; timers = p; ready = s.ready; few_banks = s.few_banks; few_shards = s.few_shards }
  sorted_change (ready_place r) o h is p s = record {
    lane = s.lane;
    banks = s.banks;
    shards = s.shards;
    timers = s.timers;
    ready = λ j y. in_cond (HasKind ready_kind) (eqb r j) o (h.ready j) y (p y) (s.ready j y);
    few_banks = s.few_banks;
    few_shards = s.few_shards;
  }

  pub sorted_with : (z : Place) (x : X) (h : Carries X) → IsPlace z → HasKind (kind_there z) x → AreSorted f h → AreSorted f (with_at z (Some x) h)
  sorted_with z x h is p s = sorted_change z (Some x) h is (of_one (HasKind (kind_there z)) x p) s

  pub sorted_without : (z : Place) (h : Carries X) → IsPlace z → AreSorted f h → AreSorted f (with_at z None h)
  sorted_without z h is s = sorted_change z None h is (of_none (HasKind (kind_there z))) s

  -- what is carried there is of that kind
  pub sorted_at : (z : Place) (h : Carries X) (x : X) → AreSorted f h → part_at z h ≡ Some x → HasKind (kind_there z) x
  sorted_at lane_place h x s e = s.lane x e
  sorted_at (bank_place i) h x s e = s.banks i x e
  sorted_at (shard_place i) h x s e = s.shards i x e
  sorted_at timers_place h x s e = s.timers x e
  sorted_at (ready_place r) h x s e = s.ready r x e

  -- what is of the same kinds is sorted too
  pub sorted_alike : (g : X → Content A) (h : Carries X) → AreSorted f h → EachCarried (λ x. kind_of_part (g x).held ≡ kind_of_part (f x).held) h → AreSorted g h
  sorted_alike g h s a = record {
    lane = λ x e. a.lane x e ∙ s.lane x e;
    banks = λ i x e. a.banks i x e ∙ s.banks i x e;
    shards = λ i x e. a.shards i x e ∙ s.shards i x e;
    timers = λ x e. a.timers x e ∙ s.timers x e;
    ready = λ r x e. a.ready r x e ∙ s.ready r x e;
    few_banks = s.few_banks;
    few_shards = s.few_shards;
  }

module _ {P C : Type 0} (content : P → C) (R : P × C → Type 0) (keeps : (x : P × C) → R x → R (x.0, content x.0)) where
  settled_has : (o : Option (P × C)) → ((x : P × C) → o ≡ Some x → R x) → (y : P × C) → settled_one content o ≡ Some y → R y
  settled_has None h y e = absurd (let z : None ≡ Some y = e in cc)
  settled_has (Some x) h y e = subst R (some_same (x.0, content x.0) y e) (keeps x (h x refl))

  -- what has it keeps it once it is settled
  pub each_settled : (h : Carries (P × C)) → EachCarried R h → EachCarried R (each_by (settled_one content) h)
  each_settled h s = record {
    lane = settled_has h.lane s.lane;
    banks = λ i. settled_has (h.banks i) (s.banks i);
    shards = λ i. settled_has (h.shards i) (s.shards i);
    timers = settled_has h.timers s.timers;
    ready = λ r. settled_has (h.ready r) (s.ready r);
  }

module _ {A P C : Type 0} (view : C → Content A) (content : P → C) where
  kind_settled : (k : Kind) (o : Option (P × C)) → ((x : P × C) → o ≡ Some x → kind_of_part (view (content x.0)).held ≡ k) → (y : P × C) → settled_one content o ≡ Some y → kind_of_part (view y.1).held ≡ k
  kind_settled k None h y e = absurd (let z : None ≡ Some y = e in cc)
  kind_settled k (Some x) h y e = subst (λ (y : P × C). kind_of_part (view y.1).held ≡ k) (some_same (x.0, content x.0) y e) (h x refl)

  -- what is sorted as it is, is sorted once it is settled so
  pub sorted_settled : (h : Carries (P × C)) → AreSorted (λ x. view (content x.0)) h → AreSorted (λ x. view x.1) (each_by (settled_one content) h)
  sorted_settled h s = record {
    lane = kind_settled lane_kind h.lane s.lane;
    banks = λ i. kind_settled bank_kind (h.banks i) (s.banks i);
    shards = λ i. kind_settled shard_kind (h.shards i) (s.shards i);
    timers = kind_settled timers_kind h.timers s.timers;
    ready = λ r. kind_settled ready_kind (h.ready r) (s.ready r);
    few_banks = λ i le. ap (settled_one content) (s.few_banks i le);
    few_shards = λ i le. ap (settled_one content) (s.few_shards i le);
  }
