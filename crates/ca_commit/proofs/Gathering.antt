-- The contents of what an event touches, as held parts: they are parts of all, and what the event leaves, laid over
-- the others, is all that there is afterwards.
use Rattle.std.proofs.Common.{◌≡◌, ℕ, ◌<◌, ◌+◌, List, [], ◌∷◌, refl, sym, ap, ◌∙◌, subst, Bool, true, false, cond, Option, Some, None, eqb, eqb-true, is_some}
use Rattle.ca_meaning.specs.Registry.{Registry}
use Rattle.ca_commit.specs.Contents.{BankView, Content, PartContents, Kept, a_bank, a_lane, a_ready, a_shard, away, the_timers}
use Rattle.ca_commit.specs.Gathered.{Alike, AllAlike, away_kind, bank_kind, bank_of, channels_of, kind_at, kind_of_part, lane_kind, lane_of, parts_of, pick, ready_kind, ready_of, registries_of, shard_kind, shard_of, sorted, timers_kind, timers_of}
use Rattle.ca_commit.specs.Running.{AreAt, or_was, contents_written}
use Rattle.ca_commit.proofs.Laid.{IsPart, Within, laid, laid_parts, same_map}

module _ {C : Type 0} where
  pub picks_within : (now : ℕ → Option C) (is : List ℕ) (cs : List C) → AreAt now is cs → Within (pick is cs) now
  picks_within now [] cs r n x e = absurd (let k : None ≡ Some x = e in cc)
  picks_within now (i ∷ is) [] r n x e = absurd r
  picks_within now (i ∷ is) (c ∷ cs) r n x e = by (eqb i n) refl (picks_within now is cs r.1 n x) e where
    by : (b : Bool) → eqb i n ≡ b → (pick is cs n ≡ Some x → now n ≡ Some x) → cond b (Some c) (pick is cs n) ≡ Some x → now n ≡ Some x
    by true same ih e = ap now (sym (eqb-true i n same)) ∙ r.0 ∙ e
    by false same ih e = ih e

module _ {A : Type 0} where
  -- what an event left at a place is of the kind of what was there
  pub alike_at : (n : ℕ) (now : ℕ → Option (Content A)) (is : List ℕ) (before after : List (Content A)) → AreAt now is before → AllAlike n before after → (i : ℕ) (c : Content A) → pick is after i ≡ Some c → (b : Content A) × (now i ≡ Some b) × Alike n b c
  alike_at n now [] before after r a i c e = absurd (let k : None ≡ Some c = e in cc)
  alike_at n now (j ∷ is) [] after r a i c e = absurd r
  alike_at n now (j ∷ is) (b ∷ before) [] r a i c e = absurd (let k : None ≡ Some c = e in cc)
  alike_at n now (j ∷ is) (b ∷ before) (d ∷ after) r a i c e = by (eqb j i) refl (alike_at n now is before after r.1 a.1 i c) e where
    by : (t : Bool) → eqb j i ≡ t → (pick is after i ≡ Some c → (b : Content A) × (now i ≡ Some b) × Alike n b c) → cond t (Some d) (pick is after i) ≡ Some c → (b : Content A) × (now i ≡ Some b) × Alike n b c
    by true same ih e = (b, ap now (sym (eqb-true j i same)) ∙ r.0, subst (λ (c : Content A). Alike n b c) (let k : d ≡ c = cc in k) a.0)
    by false same ih e = ih e

  has_lane : (y : PartContents A) → kind_of_part y ≡ lane_kind → lane_of y ≡ None → ⊥
  has_lane (a_lane l) e f = let z : Some l ≡ None = f in absurd cc
  has_lane (a_bank b) e f = let z : bank_kind ≡ lane_kind = e in absurd cc
  has_lane (a_shard g) e f = let z : shard_kind ≡ lane_kind = e in absurd cc
  has_lane (the_timers t) e f = let z : timers_kind ≡ lane_kind = e in absurd cc
  has_lane (a_ready q) e f = let z : ready_kind ≡ lane_kind = e in absurd cc
  has_lane away e f = let z : away_kind ≡ lane_kind = e in absurd cc

  no_lane : (x y : PartContents A) → kind_of_part y ≡ kind_of_part x → lane_of y ≡ None → lane_of x ≡ None
  no_lane (a_lane l) y e f = absurd (has_lane y e f)
  no_lane (a_bank b) y e f = refl
  no_lane (a_shard g) y e f = refl
  no_lane (the_timers t) y e f = refl
  no_lane (a_ready q) y e f = refl
  no_lane away y e f = refl

  has_bank : (y : PartContents A) → kind_of_part y ≡ bank_kind → bank_of y ≡ None → ⊥
  has_bank (a_lane l) e f = let z : lane_kind ≡ bank_kind = e in absurd cc
  has_bank (a_bank b) e f = let z : Some b ≡ None = f in absurd cc
  has_bank (a_shard g) e f = let z : shard_kind ≡ bank_kind = e in absurd cc
  has_bank (the_timers t) e f = let z : timers_kind ≡ bank_kind = e in absurd cc
  has_bank (a_ready q) e f = let z : ready_kind ≡ bank_kind = e in absurd cc
  has_bank away e f = let z : away_kind ≡ bank_kind = e in absurd cc

  no_bank : (x y : PartContents A) → kind_of_part y ≡ kind_of_part x → bank_of y ≡ None → bank_of x ≡ None
  no_bank (a_lane l) y e f = refl
  no_bank (a_bank b) y e f = absurd (has_bank y e f)
  no_bank (a_shard g) y e f = refl
  no_bank (the_timers t) y e f = refl
  no_bank (a_ready q) y e f = refl
  no_bank away y e f = refl

  has_shard : (y : PartContents A) → kind_of_part y ≡ shard_kind → shard_of y ≡ None → ⊥
  has_shard (a_lane l) e f = let z : lane_kind ≡ shard_kind = e in absurd cc
  has_shard (a_bank b) e f = let z : bank_kind ≡ shard_kind = e in absurd cc
  has_shard (a_shard g) e f = let z : Some g ≡ None = f in absurd cc
  has_shard (the_timers t) e f = let z : timers_kind ≡ shard_kind = e in absurd cc
  has_shard (a_ready q) e f = let z : ready_kind ≡ shard_kind = e in absurd cc
  has_shard away e f = let z : away_kind ≡ shard_kind = e in absurd cc

  no_shard : (x y : PartContents A) → kind_of_part y ≡ kind_of_part x → shard_of y ≡ None → shard_of x ≡ None
  no_shard (a_lane l) y e f = refl
  no_shard (a_bank b) y e f = refl
  no_shard (a_shard g) y e f = absurd (has_shard y e f)
  no_shard (the_timers t) y e f = refl
  no_shard (a_ready q) y e f = refl
  no_shard away y e f = refl

  has_timers : (y : PartContents A) → kind_of_part y ≡ timers_kind → timers_of y ≡ None → ⊥
  has_timers (a_lane l) e f = let z : lane_kind ≡ timers_kind = e in absurd cc
  has_timers (a_bank b) e f = let z : bank_kind ≡ timers_kind = e in absurd cc
  has_timers (a_shard g) e f = let z : shard_kind ≡ timers_kind = e in absurd cc
  has_timers (the_timers t) e f = let z : Some t ≡ None = f in absurd cc
  has_timers (a_ready q) e f = let z : ready_kind ≡ timers_kind = e in absurd cc
  has_timers away e f = let z : away_kind ≡ timers_kind = e in absurd cc

  no_timers : (x y : PartContents A) → kind_of_part y ≡ kind_of_part x → timers_of y ≡ None → timers_of x ≡ None
  no_timers (a_lane l) y e f = refl
  no_timers (a_bank b) y e f = refl
  no_timers (a_shard g) y e f = refl
  no_timers (the_timers t) y e f = absurd (has_timers y e f)
  no_timers (a_ready q) y e f = refl
  no_timers away y e f = refl

  has_ready : (y : PartContents A) → kind_of_part y ≡ ready_kind → ready_of y ≡ None → ⊥
  has_ready (a_lane l) e f = let z : lane_kind ≡ ready_kind = e in absurd cc
  has_ready (a_bank b) e f = let z : bank_kind ≡ ready_kind = e in absurd cc
  has_ready (a_shard g) e f = let z : shard_kind ≡ ready_kind = e in absurd cc
  has_ready (the_timers t) e f = let z : timers_kind ≡ ready_kind = e in absurd cc
  has_ready (a_ready q) e f = let z : Some q ≡ None = f in absurd cc
  has_ready away e f = let z : away_kind ≡ ready_kind = e in absurd cc

  no_ready : (x y : PartContents A) → kind_of_part y ≡ kind_of_part x → ready_of y ≡ None → ready_of x ≡ None
  no_ready (a_lane l) y e f = refl
  no_ready (a_bank b) y e f = refl
  no_ready (a_shard g) y e f = refl
  no_ready (the_timers t) y e f = refl
  no_ready (a_ready q) y e f = absurd (has_ready y e f)
  no_ready away y e f = refl

  abbrev AtKind : Option (Content A) → Option (Content A) → Type 0
  AtKind o h = (c : Content A) → h ≡ Some c → (b : Content A) × (o ≡ Some b) × (kind_of_part c.held ≡ kind_of_part b.held)

  sorted_or : {X : Type 0} (as_kind : PartContents A → Option X) → ((x y : PartContents A) → kind_of_part y ≡ kind_of_part x → as_kind y ≡ None → as_kind x ≡ None) → (o h : Option (Content A)) → AtKind o h → sorted as_kind (or_was h o) ≡ or_was (sorted as_kind h) (sorted as_kind o)
  sorted_or as_kind same o None k = refl
  sorted_or {X} as_kind same o (Some c) k = by (as_kind c.held) refl where
    by : (x : Option X) → as_kind c.held ≡ x → x ≡ or_was x (sorted as_kind o)
    by (Some y) e = refl
    by None e = let b = k c refl in sym (ap (sorted as_kind) b.1 ∙ same b.0.held c.held b.2 e)

  sorted_in : {X : Type 0} (as_kind : PartContents A → Option X) (o p : Option (Content A)) (x : X) → ((c : Content A) → o ≡ Some c → p ≡ Some c) → sorted as_kind o ≡ Some x → sorted as_kind p ≡ Some x
  sorted_in as_kind None p x f e = absurd (let k : None ≡ Some x = e in cc)
  sorted_in as_kind (Some c) p x f e = ap (sorted as_kind) (f c refl) ∙ e

channels_or : (a b : Option BankView) → channels_of (or_was a b) ≡ or_was (channels_of a) (channels_of b)
channels_or None b = refl
channels_or (Some a) b = refl

registries_or : (a b : Option BankView) → registries_of (or_was a b) ≡ or_was (registries_of a) (registries_of b)
registries_or None b = refl
registries_or (Some a) b = refl

channels_in : (a b : Option BankView) (f : ℕ → Option Kept) → ((x : BankView) → a ≡ Some x → b ≡ Some x) → channels_of a ≡ Some f → channels_of b ≡ Some f
channels_in None b f h e = absurd (let k : None ≡ Some f = e in cc)
channels_in (Some x) b f h e = ap channels_of (h x refl) ∙ e

registries_in : (a b : Option BankView) (f : ℕ → Option Registry) → ((x : BankView) → a ≡ Some x → b ≡ Some x) → registries_of a ≡ Some f → registries_of b ≡ Some f
registries_in None b f h e = absurd (let k : None ≡ Some f = e in cc)
registries_in (Some x) b f h e = ap registries_of (h x refl) ∙ e

module _ {A : Type 0} where
  -- the parts after an event are those that it left, laid over the others
  pub parts_laid : (n : ℕ) (now : ℕ → Option (Content A)) (is : List ℕ) (before after : List (Content A)) → AreAt now is before → AllAlike n before after
      → parts_of n (contents_written now is after) ≡ laid_parts (parts_of n now) (parts_of n (pick is after))
  parts_laid n now is before after r a = λ i. record {
    lane = lanes i;
    bank = banks i;
    registry = registries i;
    shard = shards i;
    ready = readys i;
    timers = clocks i;
  } where
    h : ℕ → Option (Content A)
    h = pick is after

    at : (i : ℕ) (c : Content A) → h i ≡ Some c → (b : Content A) × (now i ≡ Some b) × (kind_of_part c.held ≡ kind_of_part b.held)
    at i c e = let b = alike_at n now is before after r a i c e in (b.0, b.1, b.2.2)

    lanes : (λ w. sorted lane_of (or_was (h w) (now w))) ≡ laid (λ w. sorted lane_of (now w)) (λ w. sorted lane_of (h w))
    lanes = same_map _ _ (λ w. sorted_or lane_of no_lane (now w) (h w) (at w))

    bank_at : (i : ℕ) → sorted bank_of (or_was (h (n + i)) (now (n + i))) ≡ or_was (sorted bank_of (h (n + i))) (sorted bank_of (now (n + i)))
    bank_at i = sorted_or bank_of no_bank (now (n + i)) (h (n + i)) (at (n + i))

    banks : (λ i. channels_of (sorted bank_of (or_was (h (n + i)) (now (n + i))))) ≡ laid (λ i. channels_of (sorted bank_of (now (n + i)))) (λ i. channels_of (sorted bank_of (h (n + i))))
    banks = same_map _ _ (λ i. ap channels_of (bank_at i) ∙ channels_or (sorted bank_of (h (n + i))) (sorted bank_of (now (n + i))))

    registries : (λ i. registries_of (sorted bank_of (or_was (h (n + i)) (now (n + i))))) ≡ laid (λ i. registries_of (sorted bank_of (now (n + i)))) (λ i. registries_of (sorted bank_of (h (n + i))))
    registries = same_map _ _ (λ i. ap registries_of (bank_at i) ∙ registries_or (sorted bank_of (h (n + i))) (sorted bank_of (now (n + i))))

    shards : (λ i. sorted shard_of (or_was (h (n + 16 + i)) (now (n + 16 + i)))) ≡ laid (λ i. sorted shard_of (now (n + 16 + i))) (λ i. sorted shard_of (h (n + 16 + i)))
    shards = same_map _ _ (λ i. sorted_or shard_of no_shard (now (n + 16 + i)) (h (n + 16 + i)) (at (n + 16 + i)))

    readys : (λ i. sorted ready_of (or_was (h (n + 33 + i)) (now (n + 33 + i)))) ≡ laid (λ i. sorted ready_of (now (n + 33 + i))) (λ i. sorted ready_of (h (n + 33 + i)))
    readys = same_map _ _ (λ i. sorted_or ready_of no_ready (now (n + 33 + i)) (h (n + 33 + i)) (at (n + 33 + i)))

    clocks : sorted timers_of (or_was (h (n + 32)) (now (n + 32))) ≡ or_was (sorted timers_of (h (n + 32))) (sorted timers_of (now (n + 32)))
    clocks = sorted_or timers_of no_timers (now (n + 32)) (h (n + 32)) (at (n + 32))

  -- what is held is there
  pub parts_in : (n : ℕ) (f g : ℕ → Option (Content A)) → Within f g → IsPart (parts_of n f) (parts_of n g)
  parts_in n f g w = record {
    lanes = λ i x. sorted_in lane_of (f i) (g i) x (w i);
    banks = λ i x. channels_in (sorted bank_of (f (n + i))) (sorted bank_of (g (n + i))) x (λ b. sorted_in bank_of (f (n + i)) (g (n + i)) b (w (n + i)));
    registries = λ i x. registries_in (sorted bank_of (f (n + i))) (sorted bank_of (g (n + i))) x (λ b. sorted_in bank_of (f (n + i)) (g (n + i)) b (w (n + i)));
    shards = λ i x. sorted_in shard_of (f (n + 16 + i)) (g (n + 16 + i)) x (w (n + 16 + i));
    readys = λ i x. sorted_in ready_of (f (n + 33 + i)) (g (n + 33 + i)) x (w (n + 33 + i));
    clocks = λ x. sorted_in timers_of (f (n + 32)) (g (n + 32)) x (w (n + 32));
  }

  -- each part stays where it belongs
  pub kinds_stay : (n : ℕ) (now : ℕ → Option (Content A)) (is : List ℕ) (before after : List (Content A)) → AreAt now is before → AllAlike n before after → ((i : ℕ) (c : Content A) → now i ≡ Some c → (c.workers ≡ n) × (kind_of_part c.held ≡ kind_at n i))
      → (i : ℕ) (c : Content A) → contents_written now is after i ≡ Some c → (c.workers ≡ n) × (kind_of_part c.held ≡ kind_at n i)
  kinds_stay n now is before after r a h i c e = by (pick is after i) refl e where
    by : (o : Option (Content A)) → pick is after i ≡ o → or_was o (now i) ≡ Some c → (c.workers ≡ n) × (kind_of_part c.held ≡ kind_at n i)
    by None p e = h i c e
    by (Some d) p e = let k : d ≡ c = cc in let b = alike_at n now is before after r a i c (p ∙ ap (λ (z : Content A). Some z) k) in (b.2.1, b.2.2 ∙ (h i b.0 b.1).1)

  pub stay_there : (now : ℕ → Option (Content A)) (is : List ℕ) (after : List (Content A)) (i : ℕ) → is_some (now i) ≡ true → is_some (contents_written now is after i) ≡ true
  stay_there now is after i e = by (pick is after i) where
    by : (o : Option (Content A)) → is_some (or_was o (now i)) ≡ true
    by None = e
    by (Some c) = refl

  pub none_more : (n k : ℕ) (now : ℕ → Option (Content A)) (is : List ℕ) (before after : List (Content A)) → AreAt now is before → AllAlike n before after → ((i : ℕ) (c : Content A) → now i ≡ Some c → i < k + 33 + k)
      → (i : ℕ) (c : Content A) → contents_written now is after i ≡ Some c → i < k + 33 + k
  none_more n k now is before after r a h i c e = by (pick is after i) refl e where
    by : (o : Option (Content A)) → pick is after i ≡ o → or_was o (now i) ≡ Some c → i < k + 33 + k
    by None p e = h i c e
    by (Some d) p e = let b = alike_at n now is before after r a i d p in h i b.0 b.1
