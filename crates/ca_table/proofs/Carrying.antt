-- What a worker holds, by the numbers of the parts, is what the definitions of a run have.
use Rattle.std.proofs.Common.{◌≡◌, ◌∙◌, ⊎_elim, ℕ, ◌+◌, ◌-◌, ◌<◌, ◌≤◌, refl, sym, ap, subst, arith, Bool, true, false, cond, Option, Some, None, eqb, ne_eqb, eq-eqb}
use Rattle.std.specs.Prelude.{nat_lt, option_map}
use Rattle.std.proofs.lemmas.Bool.{cases_lt, le-ltb, lt-ltb}
use Rattle.ca_commit.specs.Contents.{Content, PartContents, a_bank, a_lane, a_ready, a_shard, away, the_timers}
use Rattle.ca_commit.specs.Gathered.{Kind, bank_kind, bank_of, channels_of, kind_of_part, lane_kind, lane_of, parts_of, ready_kind, ready_of, registries_of, shard_kind, shard_of, sorted, timers_kind, timers_of}
use Rattle.ca_table.specs.Carrying.{AreSorted, Carries, IsKind, at_places, carried}

module _ {X : Type 0} (n w : ℕ) (h : Carries X) where
  abbrev tests : Bool → Bool → Bool → Bool → ℕ → Option X
  tests a b c d j = cond a (cond (eqb w j) h.lane None) (cond b (h.banks (j - n)) (cond c (h.shards (j - (n + 16))) (cond d h.timers (h.ready (j - (n + 33))))))

  pub below_n : (j : ℕ) → j < n → at_places n w h j ≡ cond (eqb w j) h.lane None
  below_n j lt = ap (λ a. tests a (nat_lt j (n + 16)) (nat_lt j (n + 32)) (nat_lt j (n + 33)) j) (lt-ltb j n lt)

  from_n : (j : ℕ) → n ≤ j → at_places n w h j ≡ tests false (nat_lt j (n + 16)) (nat_lt j (n + 32)) (nat_lt j (n + 33)) j
  from_n j le = ap (λ a. tests a (nat_lt j (n + 16)) (nat_lt j (n + 32)) (nat_lt j (n + 33)) j) (le-ltb j n le)

  from_banks : (j : ℕ) → n + 16 ≤ j → at_places n w h j ≡ tests false false (nat_lt j (n + 32)) (nat_lt j (n + 33)) j
  from_banks j le = from_n j (omega (arith, le)) ∙ ap (λ b. tests false b (nat_lt j (n + 32)) (nat_lt j (n + 33)) j) (le-ltb j (n + 16) le)

  from_shards : (j : ℕ) → n + 32 ≤ j → at_places n w h j ≡ tests false false false (nat_lt j (n + 33)) j
  from_shards j le = from_banks j (omega (arith, le)) ∙ ap (λ c. tests false false c (nat_lt j (n + 33)) j) (le-ltb j (n + 32) le)

  pub at_lane : w < n → at_places n w h w ≡ h.lane
  at_lane lt = below_n w lt ∙ ap (λ b. cond b h.lane None) (eq-eqb w w refl)

  pub at_bank : (i : ℕ) → i < 16 → at_places n w h (n + i) ≡ h.banks i
  at_bank i lt = from_n (n + i) (omega arith) ∙ ap (λ b. tests false b (nat_lt (n + i) (n + 32)) (nat_lt (n + i) (n + 33)) (n + i)) (lt-ltb (n + i) (n + 16) (omega (arith, lt))) ∙ ap h.banks (let e : n + i - n ≡ i = omega arith in e)

  pub at_shard : (i : ℕ) → i < 16 → at_places n w h (n + 16 + i) ≡ h.shards i
  at_shard i lt = from_banks (n + 16 + i) (omega arith) ∙ ap (λ c. tests false false c (nat_lt (n + 16 + i) (n + 33)) (n + 16 + i)) (lt-ltb (n + 16 + i) (n + 32) (omega (arith, lt))) ∙ ap h.shards (let e : n + 16 + i - (n + 16) ≡ i = omega arith in e)

  pub at_timers : at_places n w h (n + 32) ≡ h.timers
  at_timers = from_shards (n + 32) (omega arith) ∙ ap (λ d. tests false false false d (n + 32)) (lt-ltb (n + 32) (n + 33) (omega arith))

  pub at_ready : (r : ℕ) → at_places n w h (n + 33 + r) ≡ h.ready r
  at_ready r = from_shards (n + 33 + r) (omega arith) ∙ ap (λ d. tests false false false d (n + 33 + r)) (le-ltb (n + 33 + r) (n + 33) (omega arith)) ∙ ap h.ready (let e : n + 33 + r - (n + 33) ≡ r = omega arith in e)

module _ {A X : Type 0} (f : X → Content A) where
  lane_by : (c : Content A) (k : Kind) → kind_of_part c.held ≡ k → (k ≡ lane_kind → ⊥) → lane_of c.held ≡ None
  lane_by c k e ne = by c.held (λ l. ne (sym e ∙ l)) where
    by : (x : PartContents A) → (kind_of_part x ≡ lane_kind → ⊥) → lane_of x ≡ None
    by (a_lane l) other = absurd (other refl)
    by (a_bank b) other = refl
    by (a_shard s) other = refl
    by (the_timers t) other = refl
    by (a_ready q) other = refl
    by away other = refl

  bank_by : (c : Content A) (k : Kind) → kind_of_part c.held ≡ k → (k ≡ bank_kind → ⊥) → bank_of c.held ≡ None
  bank_by c k e ne = by c.held (λ l. ne (sym e ∙ l)) where
    by : (x : PartContents A) → (kind_of_part x ≡ bank_kind → ⊥) → bank_of x ≡ None
    by (a_bank b) other = absurd (other refl)
    by (a_lane l) other = refl
    by (a_shard s) other = refl
    by (the_timers t) other = refl
    by (a_ready q) other = refl
    by away other = refl

  shard_by : (c : Content A) (k : Kind) → kind_of_part c.held ≡ k → (k ≡ shard_kind → ⊥) → shard_of c.held ≡ None
  shard_by c k e ne = by c.held (λ l. ne (sym e ∙ l)) where
    by : (x : PartContents A) → (kind_of_part x ≡ shard_kind → ⊥) → shard_of x ≡ None
    by (a_shard s) other = absurd (other refl)
    by (a_lane l) other = refl
    by (a_bank b) other = refl
    by (the_timers t) other = refl
    by (a_ready q) other = refl
    by away other = refl

  not_lane : (k : Kind) → (k ≡ lane_kind → ⊥) → (o : Option X) → IsKind f k o → sorted lane_of (option_map f o) ≡ None
  not_lane k ne None is = refl
  not_lane k ne (Some x) is = lane_by (f x) k (is x refl) ne

  not_bank : (k : Kind) → (k ≡ bank_kind → ⊥) → (o : Option X) → IsKind f k o → sorted bank_of (option_map f o) ≡ None
  not_bank k ne None is = refl
  not_bank k ne (Some x) is = bank_by (f x) k (is x refl) ne

  not_shard : (k : Kind) → (k ≡ shard_kind → ⊥) → (o : Option X) → IsKind f k o → sorted shard_of (option_map f o) ≡ None
  not_shard k ne None is = refl
  not_shard k ne (Some x) is = shard_by (f x) k (is x refl) ne

  module _ (n w : ℕ) (below : w < n) (h : Carries X) (s : AreSorted f h) where
    abbrev here : ℕ → Option (Content A)
    here j = option_map f (at_places n w h j)

    abbrev All : (Option X → Type 0) → ℕ → Type 0
    All P j = P (at_places n w h j)

    -- beyond a place it is a shard, the timers or a ready part
    beyond : (P : Option X → Type 0) → ((i : ℕ) → P (h.shards i)) → P h.timers → ((r : ℕ) → P (h.ready r)) → (j : ℕ) → n + 16 ≤ j → P (at_places n w h j)
    beyond P a b c j le = ⊎_elim
        (λ lt. let k = j - (n + 16) in let e : j ≡ n + 16 + k = omega (arith, le) in subst (λ (j : ℕ). P (at_places n w h j)) (sym e) (subst P (sym (at_shard n w h k (omega (arith, lt, le)))) (a k)))
        (λ ge. ⊎_elim (λ lt. let e : j ≡ n + 32 = omega (arith, ge, lt) in subst (λ (j : ℕ). P (at_places n w h j)) (sym e) (subst P (sym (at_timers n w h)) b))
        (λ ge. let k = j - (n + 33) in let e : j ≡ n + 33 + k = omega (arith, ge) in subst (λ (j : ℕ). P (at_places n w h j)) (sym e) (subst P (sym (at_ready n w h k)) (c k))) (cases_lt j (n + 33)))
        (cases_lt j (n + 32))

    abbrev NoLane : Option X → Type 0
    NoLane o = sorted lane_of (option_map f o) ≡ None

    abbrev NoBank : Option X → Type 0
    NoBank o = sorted bank_of (option_map f o) ≡ None

    no_lane_beyond : (j : ℕ) → n + 16 ≤ j → NoLane (at_places n w h j)
    no_lane_beyond j le = beyond NoLane (λ i. not_lane shard_kind (λ e. absurd cc) (h.shards i) (s.shards i)) (not_lane timers_kind (λ e. absurd cc) h.timers s.timers) (λ r. not_lane ready_kind (λ e. absurd cc) (h.ready r) (s.ready r)) j le

    no_bank_beyond : (j : ℕ) → n + 16 ≤ j → NoBank (at_places n w h j)
    no_bank_beyond j le = beyond NoBank (λ i. not_bank shard_kind (λ e. absurd cc) (h.shards i) (s.shards i)) (not_bank timers_kind (λ e. absurd cc) h.timers s.timers) (λ r. not_bank ready_kind (λ e. absurd cc) (h.ready r) (s.ready r)) j le

    of_cond : (b : Bool) → sorted lane_of (option_map f (cond b h.lane None)) ≡ cond b (sorted lane_of (option_map f h.lane)) None
    of_cond true = refl
    of_cond false = refl

    lanes : (v : ℕ) → sorted lane_of (here v) ≡ cond (eqb w v) (sorted lane_of (option_map f h.lane)) None
    lanes v = ⊎_elim
        (λ lt. ap (λ o. sorted lane_of (option_map f o)) (below_n n w h v lt) ∙ of_cond (eqb w v))
        (λ le. outside v le ∙ ap (λ b. cond b (sorted lane_of (option_map f h.lane)) None) (sym (ne_eqb w v (λ e. omega (arith, e, le, below)))))
        (cases_lt v n) where
          outside : (v : ℕ) → n ≤ v → sorted lane_of (here v) ≡ None
          outside v le = ⊎_elim
              (λ lt. let i = v - n in let e : v ≡ n + i = omega (arith, le) in subst (λ (v : ℕ). NoLane (at_places n w h v)) (sym e) (subst NoLane (sym (at_bank n w h i (omega (arith, lt, le)))) (not_lane bank_kind (λ e. absurd cc) (h.banks i) (s.banks i))))
              (λ ge. no_lane_beyond v ge) (cases_lt v (n + 16))

    banks : (i : ℕ) → sorted bank_of (here (n + i)) ≡ sorted bank_of (option_map f (h.banks i))
    banks i = ⊎_elim (λ lt. ap (λ o. sorted bank_of (option_map f o)) (at_bank n w h i lt))
        (λ le. no_bank_beyond (n + i) (omega (arith, le)) ∙ sym (ap (λ o. sorted bank_of (option_map f o)) (s.few_banks i le)))
        (cases_lt i 16)

    shards : (i : ℕ) → sorted shard_of (here (n + 16 + i)) ≡ sorted shard_of (option_map f (h.shards i))
    shards i = ⊎_elim (λ lt. ap (λ o. sorted shard_of (option_map f o)) (at_shard n w h i lt))
        (λ le. ⊎_elim
        (λ lt. let e : n + 16 + i ≡ n + 32 = omega (arith, le, lt) in ap (λ (j : ℕ). sorted shard_of (here j)) e ∙ ap (λ o. sorted shard_of (option_map f o)) (at_timers n w h) ∙ not_shard timers_kind (λ e. absurd cc) h.timers s.timers)
        (λ ge. let k = i - 17 in let e : n + 16 + i ≡ n + 33 + k = omega (arith, ge) in ap (λ (j : ℕ). sorted shard_of (here j)) e ∙ ap (λ o. sorted shard_of (option_map f o)) (at_ready n w h k) ∙ not_shard ready_kind (λ e. absurd cc) (h.ready k) (s.ready k))
        (cases_lt i 17) ∙ sym (ap (λ o. sorted shard_of (option_map f o)) (s.few_shards i le)))
        (cases_lt i 16)

    pub parts_carried : parts_of n here ≡ carried f w h
    parts_carried = λ t. record {
      lane = λ v. lanes v t;
      bank = λ i. channels_of (banks i t);
      registry = λ i. registries_of (banks i t);
      shard = λ i. shards i t;
      ready = λ r. sorted ready_of (option_map f (at_ready n w h r t));
      timers = sorted timers_of (option_map f (at_timers n w h t));
    }
