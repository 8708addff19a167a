-- What is carried before and after an event, kind by kind, from what its parts were and are.
use Rattle.std.proofs.Common.{◌≡◌, ◌∙◌, ℕ, List, refl, sym, ap, cond, Option, Some, None, eqb, eq-eqb, ne_eqb}
use Rattle.std.specs.Prelude.{option_map}
use Rattle.ca_commit.specs.Contents.{BankView, Content, PartContents, LaneView, Parked, TimersPart}
use Rattle.ca_commit.specs.Gathered.{bank_of, channels_of, lane_of, ready_of, registries_of, shard_of, sorted, timers_of}
use Rattle.ca_commit.specs.Moves.{Becomes, Stays}
use Rattle.ca_table.specs.Carrying.{Carries, carried}

module _ {A X : Type 0} (f : X → Content A) (w : ℕ) (h : Carries X) where
  pub lane_is : (v : X) (l : LaneView A) → h.lane ≡ Some v → lane_of (f v).held ≡ Some l → (carried f w h).lane w ≡ Some l
  lane_is v l e is = ap (λ b. cond b (sorted lane_of (option_map f h.lane)) None) (eq-eqb w w refl) ∙ ap (λ o. sorted lane_of (option_map f o)) e ∙ is

  pub no_other_lane : (j : ℕ) → (j ≡ w → ⊥) → (carried f w h).lane j ≡ None
  no_other_lane j ne = ap (λ b. cond b (sorted lane_of (option_map f h.lane)) None) (ne_eqb w j (λ e. ne (sym e)))

  pub bank_is : (i : ℕ) (v : X) (b : BankView) → h.banks i ≡ Some v → bank_of (f v).held ≡ Some b → ((carried f w h).bank i ≡ Some b.channels) × ((carried f w h).registry i ≡ Some b.registries)
  bank_is i v b e is = let there = ap (λ o. sorted bank_of (option_map f o)) e ∙ is in (ap channels_of there, ap registries_of there)

  pub shard_is : (i : ℕ) (v : X) (s : ℕ → Option (Parked A)) → h.shards i ≡ Some v → shard_of (f v).held ≡ Some s → (carried f w h).shard i ≡ Some s
  shard_is i v s e is = ap (λ o. sorted shard_of (option_map f o)) e ∙ is

  pub timers_is : (v : X) (t : TimersPart) → h.timers ≡ Some v → timers_of (f v).held ≡ Some t → (carried f w h).timers ≡ Some t
  timers_is v t e is = ap (λ o. sorted timers_of (option_map f o)) e ∙ is

  pub ready_is : (r : ℕ) (v : X) (q : List (ℕ × A)) → h.ready r ≡ Some v → ready_of (f v).held ≡ Some q → (carried f w h).ready r ≡ Some q
  ready_is r v q e is = ap (λ o. sorted ready_of (option_map f o)) e ∙ is

module _ {A X : Type 0} (f g : X → Content A) (w : ℕ) (h : Carries X) where
  -- a part that the event leaves as it was
  abbrev Same : X → Type 0
  Same x = (g x).held ≡ (f x).held

  same_sorted : {Y : Type 0} (as_kind : PartContents A → Option Y) (o : Option X) → ((x : X) → o ≡ Some x → Same x) → sorted as_kind (option_map g o) ≡ sorted as_kind (option_map f o)
  same_sorted as_kind None s = refl
  same_sorted as_kind (Some x) s = ap as_kind (s x refl)

  pub lane_becomes : (v : X) (l m : LaneView A) → h.lane ≡ Some v → lane_of (f v).held ≡ Some l → lane_of (g v).held ≡ Some m → Becomes (carried f w h).lane (carried g w h).lane w l m
  lane_becomes v l m e a b = record { was = lane_is f w h v l e a; is = lane_is g w h v m e b; others = λ j ne. no_other_lane g w h j ne ∙ sym (no_other_lane f w h j ne) }

  pub lanes_stay : ((x : X) → h.lane ≡ Some x → Same x) → Stays (carried f w h).lane (carried g w h).lane
  lanes_stay s j = ap (λ o. cond (eqb w j) o None) (same_sorted lane_of h.lane s)

  pub banks_stay : ((i : ℕ) (x : X) → h.banks i ≡ Some x → Same x) → Stays (carried f w h).bank (carried g w h).bank
  banks_stay s i = ap channels_of (same_sorted bank_of (h.banks i) (s i))

  pub registries_stay : ((i : ℕ) (x : X) → h.banks i ≡ Some x → Same x) → Stays (carried f w h).registry (carried g w h).registry
  registries_stay s i = ap registries_of (same_sorted bank_of (h.banks i) (s i))

  pub shards_stay : ((i : ℕ) (x : X) → h.shards i ≡ Some x → Same x) → Stays (carried f w h).shard (carried g w h).shard
  shards_stay s i = same_sorted shard_of (h.shards i) (s i)

  pub timers_stay : ((x : X) → h.timers ≡ Some x → Same x) → (carried g w h).timers ≡ (carried f w h).timers
  timers_stay s = same_sorted timers_of h.timers s

  pub readys_stay : ((r : ℕ) (x : X) → h.ready r ≡ Some x → Same x) → Stays (carried f w h).ready (carried g w h).ready
  readys_stay s r = same_sorted ready_of (h.ready r) (s r)

  pub ready_becomes : (r : ℕ) (v : X) (q q2 : List (ℕ × A)) → h.ready r ≡ Some v → ready_of (f v).held ≡ Some q → ready_of (g v).held ≡ Some q2 → ((i : ℕ) (x : X) → (i ≡ r → ⊥) → h.ready i ≡ Some x → Same x) → Becomes (carried f w h).ready (carried g w h).ready r q q2
  ready_becomes r v q q2 e a b s = record { was = ready_is f w h r v q e a; is = ready_is g w h r v q2 e b; others = λ i ne. same_sorted ready_of (h.ready i) (λ x. s i x ne) }

  -- one bank alone changes
  pub bank_becomes : (i : ℕ) (v : X) (b c : BankView) → h.banks i ≡ Some v → bank_of (f v).held ≡ Some b → bank_of (g v).held ≡ Some c → ((j : ℕ) (x : X) → (j ≡ i → ⊥) → h.banks j ≡ Some x → Same x) → Becomes (carried f w h).bank (carried g w h).bank i b.channels c.channels
  bank_becomes i v b c e x y s = record { was = (bank_is f w h i v b e x).0; is = (bank_is g w h i v c e y).0; others = λ j ne. ap channels_of (same_sorted bank_of (h.banks j) (λ x. s j x ne)) }

  pub shard_becomes : (i : ℕ) (v : X) (a b : ℕ → Option (Parked A)) → h.shards i ≡ Some v → shard_of (f v).held ≡ Some a → shard_of (g v).held ≡ Some b → ((j : ℕ) (x : X) → (j ≡ i → ⊥) → h.shards j ≡ Some x → Same x) → Becomes (carried f w h).shard (carried g w h).shard i a b
  shard_becomes i v a b e x y s = record { was = shard_is f w h i v a e x; is = shard_is g w h i v b e y; others = λ j ne. same_sorted shard_of (h.shards j) (λ x. s j x ne) }
