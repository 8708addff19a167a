-- The parts that a table is opened with are the opening parts of a run.
use Rattle.std.proofs.Common.{◌≡◌, ◌∙◌, ℕ, zero, suc, ◌+◌, ◌-◌, ◌<◌, ◌≤◌, ⊎_elim, List, [], ◌∷◌, ◌++◌, replicate, refl, sym, ap, subst, arith, Option, Some, None, Bool, true, false, cond, eqb, eqb-true, eq-eqb, nat_lt}
use Rattle.std.specs.Prelude.{option_map}
use Rattle.std.proofs.lemmas.Bool.{cases_lt, lt-ltb, le-ltb}
use Rattle.std.specs.FinMap as map
use Rattle.std.specs.Ordering.{nat_cmp}
use Rattle.ca_term.specs.Program.{ProgramParts, program_view}
use Rattle.ca_states.specs.Code.{CodeView}
use Rattle.ca_meaning.specs.Registry.{Registry}
use Rattle.ca_commit.specs.Agents.{TaskAgent}
use Rattle.ca_commit.specs.Contents.{Content, PartContents, Kept, Parked, TimersPart, a_bank, a_ready, a_shard}
use Rattle.ca_commit.specs.Gathered.{Kind, bank_kind, kind_at, lane_kind, parts_of, ready_kind, shard_kind, sorted, timers_kind, timers_of}
use Rattle.ca_commit.specs.Opening.{main_agent, part_opened, opening_parts}
use Rattle.ca_table.specs.Opening.{empty_bank, empty_shard, idle_lane, main_ready, none_ready, opening_list, seen_part}
use Rattle.ca_table.specs.Running.{lying_at, contents_at}
use Rattle.ca_table.specs.Seen.{PartSeen, content_of, seen_timers}

module _ {X : Type 0} where
  rep_in : (n i : ℕ) (x : X) (ys : List X) → i < n → lying_at (replicate n x ++ ys) i ≡ Some x
  rep_in zero i x ys lt = absurd (omega (arith, lt))
  rep_in (suc n) zero x ys lt = refl
  rep_in (suc n) (suc i) x ys lt = rep_in n i x ys (omega (arith, lt))

  rep_after : (n i j : ℕ) (x : X) (ys : List X) → i ≡ n + j → lying_at (replicate n x ++ ys) i ≡ lying_at ys j
  rep_after zero i j x ys e = ap (lying_at ys) (let k : i ≡ j = omega (arith, e) in k)
  rep_after (suc n) zero j x ys e = absurd (omega (arith, e))
  rep_after (suc n) (suc i) j x ys e = rep_after n i j x ys (let k : i ≡ n + j = omega (arith, e) in k)

  rep_past : (n i : ℕ) (x : X) → n ≤ i → lying_at (replicate n x) i ≡ None
  rep_past zero i x le = refl
  rep_past (suc n) zero x le = absurd (omega (arith, le))
  rep_past (suc n) (suc i) x le = rep_past n i x (omega (arith, le))

  rep_at : (n i : ℕ) (x : X) → i < n → lying_at (replicate n x) i ≡ Some x
  rep_at zero i x lt = absurd (omega (arith, lt))
  rep_at (suc n) zero x lt = refl
  rep_at (suc n) (suc i) x lt = rep_at n i x (omega (arith, lt))

module _ {A : Type 0} (n : ℕ) (code : CodeView) (texts : ProgramParts) (main : A) (clock : TimersPart) (some : 0 < n) where
  abbrev list : List (PartSeen A)
  list = opening_list n code texts main clock

  abbrev lane : PartSeen A
  lane = idle_lane n code texts

  abbrev after_shards : List (PartSeen A)
  after_shards = seen_part n code (seen_timers clock) ∷ (main_ready n code main ∷ replicate (n - 1) (none_ready n code))

  abbrev after_banks : List (PartSeen A)
  after_banks = replicate 16 (empty_shard n code) ++ after_shards

  abbrev after_lanes : List (PartSeen A)
  after_lanes = replicate 16 (empty_bank n code) ++ after_banks

  abbrev opened_at : ℕ → Kind → PartContents (TaskAgent A)
  opened_at i k = part_opened n (program_view texts) main clock i k

  abbrev said : Bool → ℕ → Kind → Option (Content (TaskAgent A))
  said b i k = cond b (Some (record { workers = n; held = opened_at i k })) None

  abbrev view_of : Option (PartSeen A) → Option (Content (TaskAgent A))
  view_of None = None
  view_of (Some p) = Some (content_of p)

  same_view : (i : ℕ) → contents_at list i ≡ view_of (lying_at list i)
  same_view i = by (lying_at list i) where
    by : (o : Option (PartSeen A)) → option_map content_of o ≡ view_of o
    by None = refl
    by (Some p) = refl

  abbrev no_ports : PartContents (TaskAgent A)
  no_ports = a_bank (record { channels = λ p. None; registries = λ p. None })

  abbrev no_waits : PartContents (TaskAgent A)
  no_waits = a_shard (λ w. None)

  bank_said : content_of (empty_bank n code) ≡ record { workers = n; held = no_ports }
  bank_said = λ i. record { workers = n; held = a_bank (record { channels = λ p. map.get-empty {X = Kept} nat_cmp p i; registries = λ p. map.get-empty {X = Registry} nat_cmp p i }) }

  shard_said : content_of (empty_shard n code) ≡ record { workers = n; held = no_waits }
  shard_said = λ i. record { workers = n; held = a_shard (λ w. map.get-empty {X = Parked (TaskAgent A)} nat_cmp w i) }

  in_lanes : (i : ℕ) → i < n → view_of (lying_at list i) ≡ said true i lane_kind
  in_lanes i lt = ap view_of (rep_in n i lane after_lanes lt)

  in_banks : (i j : ℕ) → i ≡ n + j → j < 16 → view_of (lying_at list i) ≡ said true i bank_kind
  in_banks i j e lt = ap view_of (rep_after n i j lane after_lanes e ∙ rep_in 16 j (empty_bank n code) after_banks lt) ∙ ap Some bank_said

  in_shards : (i j : ℕ) → i ≡ n + (16 + j) → j < 16 → view_of (lying_at list i) ≡ said true i shard_kind
  in_shards i j e lt = ap view_of (rep_after n i (16 + j) lane after_lanes e ∙ rep_after 16 (16 + j) j (empty_bank n code) after_banks refl ∙ rep_in 16 j (empty_shard n code) after_shards lt) ∙ ap Some shard_said

  later : (i j : ℕ) → i ≡ n + (16 + (16 + j)) → lying_at list i ≡ lying_at after_shards j
  later i j e = rep_after n i (16 + (16 + j)) lane after_lanes e ∙ rep_after 16 (16 + (16 + j)) (16 + j) (empty_bank n code) after_banks refl ∙ rep_after 16 (16 + j) j (empty_shard n code) after_shards refl

  in_timers : (i : ℕ) → i ≡ n + 32 → view_of (lying_at list i) ≡ said true i timers_kind
  in_timers i e = ap view_of (later i 0 (let k : i ≡ n + (16 + (16 + 0)) = omega (arith, e) in k))

  -- the timers are as they were given
  pub opening_timers : (parts_of n (contents_at list)).timers ≡ Some clock
  opening_timers = ap (sorted timers_of) (same_view (n + 32) ∙ in_timers (n + 32) refl)

  in_first : (i : ℕ) → i ≡ n + 33 → view_of (lying_at list i) ≡ said true i ready_kind
  in_first i e = ap view_of (later i 1 (let k : i ≡ n + (16 + (16 + 1)) = omega (arith, e) in k)) ∙ ap (λ b. Some (record { workers = n; held = a_ready (cond b ((0, main_agent main) ∷ []) []) })) (sym (ap (λ (j : ℕ). eqb j (n + 33)) e ∙ eq-eqb (n + 33) (n + 33) refl))

  beyond : (r : ℕ) → lying_at after_shards (2 + r) ≡ lying_at (replicate (n - 1) (none_ready n code)) r
  beyond r = ap (lying_at after_shards) (let e : 2 + r ≡ suc (suc r) = omega arith in e)

  in_others : (i r : ℕ) → i ≡ n + (16 + (16 + (2 + r))) → r < n - 1 → view_of (lying_at list i) ≡ said true i ready_kind
  in_others i r e lt = ap view_of (later i (2 + r) e ∙ beyond r ∙ rep_at (n - 1) r (none_ready n code) lt) ∙ ap (λ b. Some (record { workers = n; held = a_ready (cond b ((0, main_agent main) ∷ []) []) })) (sym (other (eqb i (n + 33)) refl)) where
    other : (b : Bool) → eqb i (n + 33) ≡ b → eqb i (n + 33) ≡ false
    other false is = is
    other true is = absurd (let k = eqb-true i (n + 33) is in omega (arith, k, e))

  past : (i r : ℕ) → i ≡ n + (16 + (16 + (2 + r))) → n - 1 ≤ r → view_of (lying_at list i) ≡ None
  past i r e le = ap view_of (later i (2 + r) e ∙ beyond r ∙ rep_past (n - 1) r (none_ready n code) le)

  abbrev kinds : Bool → Bool → Bool → Bool → Kind
  kinds a b c d = cond a lane_kind (cond b bank_kind (cond c shard_kind (cond d timers_kind ready_kind)))

  abbrev IsSaid : ℕ → Type 0
  IsSaid i = view_of (lying_at list i) ≡ opening_parts n (program_view texts) main clock i

  within : (i : ℕ) (k : Kind) → i < n + 33 + n → kind_at n i ≡ k → view_of (lying_at list i) ≡ said true i k → IsSaid i
  within i k lt is h = h ∙ ap (said true i) (sym is) ∙ ap (λ b. said b i (kind_at n i)) (sym (lt-ltb i (n + 33 + n) lt))

  lanes : (i : ℕ) → i < n → IsSaid i
  lanes i lt = within i lane_kind (omega (arith, lt)) (ap (λ a. kinds a (nat_lt i (n + 16)) (nat_lt i (n + 32)) (nat_lt i (n + 33))) (lt-ltb i n lt)) (in_lanes i lt)

  not_lane : (i : ℕ) → n ≤ i → kind_at n i ≡ kinds false (nat_lt i (n + 16)) (nat_lt i (n + 32)) (nat_lt i (n + 33))
  not_lane i le = ap (λ a. kinds a (nat_lt i (n + 16)) (nat_lt i (n + 32)) (nat_lt i (n + 33))) (le-ltb i n le)

  not_bank : (i : ℕ) → n + 16 ≤ i → kind_at n i ≡ kinds false false (nat_lt i (n + 32)) (nat_lt i (n + 33))
  not_bank i le = not_lane i (omega (arith, le)) ∙ ap (λ b. kinds false b (nat_lt i (n + 32)) (nat_lt i (n + 33))) (le-ltb i (n + 16) le)

  not_shard : (i : ℕ) → n + 32 ≤ i → kind_at n i ≡ kinds false false false (nat_lt i (n + 33))
  not_shard i le = not_bank i (omega (arith, le)) ∙ ap (λ c. kinds false false c (nat_lt i (n + 33))) (le-ltb i (n + 32) le)

  is_ready : (i : ℕ) → n + 33 ≤ i → kind_at n i ≡ ready_kind
  is_ready i le = not_shard i (omega (arith, le)) ∙ ap (λ d. kinds false false false d) (le-ltb i (n + 33) le)

  banks : (j : ℕ) → j < 16 → IsSaid (n + j)
  banks j lt = within (n + j) bank_kind (omega (arith, lt)) (not_lane (n + j) (omega arith) ∙ ap (λ b. kinds false b (nat_lt (n + j) (n + 32)) (nat_lt (n + j) (n + 33))) (lt-ltb (n + j) (n + 16) (omega (arith, lt)))) (in_banks (n + j) j refl lt)

  shards : (j : ℕ) → j < 16 → IsSaid (n + (16 + j))
  shards j lt = within (n + (16 + j)) shard_kind (omega (arith, lt)) (not_bank (n + (16 + j)) (omega arith) ∙ ap (λ c. kinds false false c (nat_lt (n + (16 + j)) (n + 33))) (lt-ltb (n + (16 + j)) (n + 32) (omega (arith, lt)))) (in_shards (n + (16 + j)) j refl lt)

  the_timers : IsSaid (n + 32)
  the_timers = within (n + 32) timers_kind (omega arith) (not_shard (n + 32) (omega arith) ∙ ap (λ d. kinds false false false d) (lt-ltb (n + 32) (n + 33) (omega arith))) (in_timers (n + 32) refl)

  first : IsSaid (n + 33)
  first = within (n + 33) ready_kind (omega (arith, some)) (is_ready (n + 33) (omega arith)) (in_first (n + 33) refl)

  abbrev other_place : ℕ → ℕ
  other_place r = n + (16 + (16 + (2 + r)))

  others : (r : ℕ) → IsSaid (other_place r)
  others r = ⊎_elim
      (λ lt. within (other_place r) ready_kind (omega (arith, lt)) (is_ready (other_place r) (omega arith)) (in_others (other_place r) r refl lt))
      (λ le. past (other_place r) r refl le ∙ ap (λ b. said b (other_place r) (kind_at n (other_place r))) (sym (le-ltb (other_place r) (n + 33 + n) (omega (arith, le)))))
      (cases_lt r (n - 1))

  abbrev From : ℕ → ℕ → Type 0
  From i m = (j : ℕ) × (i ≡ m + j)

  from : (i m : ℕ) → m ≤ i → From i m
  from i m le = (i - m, omega (arith, le))

  place : (i : ℕ) → IsSaid i
  place i = ⊎_elim (λ lt. lanes i lt) (λ le. let j = from i n le in subst IsSaid (sym j.1) (after_lane j.0)) (cases_lt i n) where
    after_lane : (j : ℕ) → IsSaid (n + j)
    after_lane j = ⊎_elim (λ lt. banks j lt) (λ le. let k = from j 16 le in subst (λ (j : ℕ). IsSaid (n + j)) (sym k.1) (after_bank k.0)) (cases_lt j 16) where
      after_shard : (j : ℕ) → IsSaid (n + (16 + (16 + j)))
      after_shard zero = subst IsSaid (let e : n + 32 ≡ n + (16 + (16 + 0)) = omega arith in e) the_timers
      after_shard (suc zero) = subst IsSaid (let e : n + 33 ≡ n + (16 + (16 + 1)) = omega arith in e) first
      after_shard (suc (suc r)) = subst IsSaid (let e : other_place r ≡ n + (16 + (16 + suc (suc r))) = omega arith in e) (others r)

      after_bank : (j : ℕ) → IsSaid (n + (16 + j))
      after_bank j = ⊎_elim (λ lt. shards j lt) (λ le. let k = from j 16 le in subst (λ (j : ℕ). IsSaid (n + (16 + j))) (sym k.1) (after_shard k.0)) (cases_lt j 16)

  pub opens : contents_at list ≡ opening_parts n (program_view texts) main clock
  opens = λ i k. (same_view k ∙ place k) i
