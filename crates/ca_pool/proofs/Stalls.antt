-- A worker that holds all parts, in which nothing can go on, may draw that it leaves the run.
use Rattle.std.proofs.Common.{◌≡◌, ◌∙◌, ⊎_elim, ℕ, zero, suc, ◌+◌, ◌<◌, ◌≤◌, List, [], ◌∷◌, map, refl, sym, ap, subst, arith, Bool, true, false, cond, Option, Some, None, eqb, eq-eqb, eqb-true, ne_eqb}
use Rattle.std.specs.Prelude.{option_map}
use Rattle.std.proofs.lemmas.Bool.{cases_lt, lt-ltb}
use mathlib.Core.Logic.{dite}
use native.Mathlib.Decide.{ℕ_discrete}
use Rattle.ca_value.specs.Tree.{Tree}
use Rattle.ca_term.specs.Operation.{SeedView}
use Rattle.ca_term.specs.Program.{ProgramView}
use Rattle.ca_meaning.specs.Body.{At}
use Rattle.ca_states.specs.Code.{CodeView}
use Rattle.ca_turns.specs.Hands.{Held as Hand}
use Rattle.ca_commit.specs.Agents.{TaskAgent}
use Rattle.ca_commit.specs.Contents.{Content, PartContents, Kept, LaneView, Parts, TimersPart, a_bank, a_lane, a_ready, a_shard, at_key, away, home, the_timers}
use Rattle.ca_commit.specs.Gathered.{AllAlike, bank_of, channels_of, gather, lane_of, parts_of, pick, ready_of, sorted, timers_of}
use Rattle.ca_commit.specs.Moving.{Moves}
use Rattle.ca_commit.specs.SilentMoves.{MovesStall}
use Rattle.ca_commit.specs.Touched as said
use Rattle.ca_table.specs.Covering.{plain_drawn}
use Rattle.ca_table.specs.Draws.{drawn_code, drawn_moves, drawn_touches, drawn_view}
use Rattle.ca_table.specs.Grips.{Grips, HasAll, add_settled, add_value, is_place_among, settle, settled_contents, settled_one, values}
use Rattle.ca_table.specs.OneCode.{AllCoded, HaveCode, advances_over, gives_over, starts_over}
use Rattle.ca_table.specs.Parts.{part_seen}
use Rattle.ca_table.specs.Seen.{PartSeen, content_of}
use Rattle.ca_table.specs.Workers.{part_count}
use Rattle.ca_table.specs.declared.drawn.Drawn.{Drawn}
use Rattle.ca_table.specs.declared.part.Part.{Part}
use Rattle.ca_pool.specs.Surveys.{Fulls, HasNoDeadline, IsStill, IsStillAt, IsUndatedAt, ChannelRests, Surveys, as_settled}
use Rattle.ca_pool.proofs.AllParts.{lies_at, some_same, there_is}

-- all places from k on, so many
abbrev pub places : ℕ → ℕ → List ℕ
places k c = said.wanted (λ i. true) 0 k c

in_places : (k c j : ℕ) → k ≤ j → j < k + c → is_place_among j (places k c) ≡ true
in_places k zero j le lt = absurd (omega (arith, le, lt))
in_places k (suc c) j le lt = dite (ℕ_discrete k j)
    (λ e. ap (λ b. cond b true (is_place_among j (places (suc k) c))) (eq-eqb (0 + k) j (omega (arith, e))))
    (λ ne. later (eqb (0 + k) j) (in_places (suc k) c j (omega (arith, le, ne)) (omega (arith, lt)))) where
      later : (b : Bool) → is_place_among j (places (suc k) c) ≡ true → cond b true (is_place_among j (places (suc k) c)) ≡ true
      later true e = refl
      later false e = e

out_places : (k c j : ℕ) → k + c ≤ j → is_place_among j (places k c) ≡ false
out_places k zero j le = refl
out_places k (suc c) j le = ap (λ b. cond b true (is_place_among j (places (suc k) c))) (ne_eqb (0 + k) j (λ e. omega (arith, e, le))) ∙ out_places (suc k) c j (omega (arith, le))

module _ {P C : Type 0} (at : ℕ → Option (P × C)) where
  all_places : (k c : ℕ) → ((i : ℕ) → k ≤ i → i < k + c → (x : P × C) × (at i ≡ Some x)) → HasAll at (places k c)
  all_places k zero h = tt
  all_places k (suc c) h = (h (0 + k) (omega arith) (omega arith), all_places (suc k) c (λ i le lt. h i (omega (arith, le)) (omega (arith, lt))))

  -- what an event finds at these places is what lies there
  picked : {D : Type 0} (f : C → D) (is : List ℕ) → HasAll at is → (j : ℕ) → pick is (map f (settled_contents at is)) j ≡ cond (is_place_among j is) (option_map (λ x. f x.1) (at j)) None
  picked f [] h j = refl
  picked f (i ∷ is) h j = let x = h.0.0 in
      ap (λ o. pick (i ∷ is) (map f (add_settled o (settled_contents at is))) j) h.0.1 ∙ by (eqb i j) refl (picked f is h.1 j) where
        by : (b : Bool) → eqb i j ≡ b → pick is (map f (settled_contents at is)) j ≡ cond (is_place_among j is) (option_map (λ (x : P × C). f x.1) (at j)) None
            → cond b (Some (f h.0.0.1)) (pick is (map f (settled_contents at is)) j) ≡ cond (cond b true (is_place_among j is)) (option_map (λ x. f x.1) (at j)) None
        by true e r = sym (ap (option_map (λ (x : P × C). f x.1)) (ap at (sym (eqb-true i j e)) ∙ h.0.1))
        by false e r = r

-- where each is settled as it is
module _ {P C : Type 0} (content : P → C) (g : ℕ → Option P) where
  abbrev pub paired : ℕ → Option (P × C)
  paired i = option_map (λ x. (x, content x)) (g i)

  settled_values : (is : List ℕ) → settled_contents paired is ≡ map content (values paired is)
  settled_values [] = refl
  settled_values (i ∷ is) = by (g i) (settled_values is) where
    by : (o : Option P) → settled_contents paired is ≡ map content (values paired is) → add_settled (option_map (λ (x : P). (x, content x)) o) (settled_contents paired is) ≡ map content (add_value (option_map (λ (x : P). (x, content x)) o) (values paired is))
    by None r = r
    by (Some x) r = ap (λ cs. content x ∷ cs) r

  -- settling changes nothing
  settle_same : (is : List ℕ) (j : ℕ) → settle content is paired j ≡ paired j
  settle_same is j = by (is_place_among j is) (g j) where
    by : (b : Bool) (o : Option P) → cond b (settled_one content (option_map (λ (x : P). (x, content x)) o)) (option_map (λ x. (x, content x)) o) ≡ option_map (λ x. (x, content x)) o
    by true None = refl
    by true (Some x) = refl
    by false o = refl

module _ {A : Type 0} where
  -- what is true of all that is settled
  each_settled : {P : Type 0} (at : ℕ → Option (P × PartSeen A)) (is : List ℕ) (n : ℕ) (code : CodeView) → ((i : ℕ) (x : P × PartSeen A) → at i ≡ Some x → (x.1.workers ≡ n) × (x.1.code ≡ code))
      → HaveCode code (settled_contents at is) × AllAlike {A = TaskAgent A} n (map content_of (settled_contents at is)) (map content_of (settled_contents at is))
  each_settled at [] n code h = (tt, tt)
  each_settled {P} at (i ∷ is) n code h = by (at i) (h i) (each_settled at is n code h) where
    by : (o : Option (P × PartSeen A)) → ((x : P × PartSeen A) → o ≡ Some x → (x.1.workers ≡ n) × (x.1.code ≡ code)) → HaveCode code (settled_contents at is) × AllAlike {A = TaskAgent A} n (map content_of (settled_contents at is)) (map content_of (settled_contents at is))
        → HaveCode code (add_settled o (settled_contents at is)) × AllAlike {A = TaskAgent A} n (map content_of (add_settled o (settled_contents at is))) (map content_of (add_settled o (settled_contents at is)))
    by None k r = r
    by (Some x) k r = let z = k x refl in ((z.1, r.0), ((z.0, z.0, refl), r.1))

module _ {A : Type 0} where
  still_lane : (h : PartContents A) (l : LaneView A) → IsStill h → lane_of h ≡ Some l → l.task ≡ None
  still_lane (a_lane m) l s e = sym (ap (λ (k : LaneView A). k.task) (some_same m l e)) ∙ s
  still_lane (a_bank b) l s e = absurd (let z : None ≡ Some l = e in cc)
  still_lane (a_shard f) l s e = absurd (let z : None ≡ Some l = e in cc)
  still_lane (the_timers t) l s e = absurd (let z : None ≡ Some l = e in cc)
  still_lane (a_ready q) l s e = absurd (let z : None ≡ Some l = e in cc)
  still_lane away l s e = absurd (let z : None ≡ Some l = e in cc)

  still_ready : (h : PartContents A) (q : List (ℕ × A)) → IsStill h → ready_of h ≡ Some q → q ≡ []
  still_ready (a_ready r) q s e = sym (some_same r q e) ∙ s
  still_ready (a_bank b) q s e = absurd (let z : None ≡ Some q = e in cc)
  still_ready (a_shard f) q s e = absurd (let z : None ≡ Some q = e in cc)
  still_ready (the_timers t) q s e = absurd (let z : None ≡ Some q = e in cc)
  still_ready (a_lane l) q s e = absurd (let z : None ≡ Some q = e in cc)
  still_ready away q s e = absurd (let z : None ≡ Some q = e in cc)

  still_bank : (h : PartContents A) (p : ℕ) (k : Kept) → IsStill h → at_key (channels_of (bank_of h)) p ≡ Some k → ChannelRests k
  still_bank (a_bank b) p k s e = s p k e
  still_bank (a_ready r) p k s e = absurd (let z : None ≡ Some k = e in cc)
  still_bank (a_shard f) p k s e = absurd (let z : None ≡ Some k = e in cc)
  still_bank (the_timers t) p k s e = absurd (let z : None ≡ Some k = e in cc)
  still_bank (a_lane l) p k s e = absurd (let z : None ≡ Some k = e in cc)
  still_bank away p k s e = absurd (let z : None ≡ Some k = e in cc)

  undated_timers : (h : PartContents A) (c : TimersPart) → HasNoDeadline h → timers_of h ≡ Some c → c.deadlines ≡ []
  undated_timers (the_timers t) c s e = sym (ap (λ (k : TimersPart). k.deadlines) (some_same t c e)) ∙ s
  undated_timers (a_bank b) c s e = absurd (let z : None ≡ Some c = e in cc)
  undated_timers (a_shard f) c s e = absurd (let z : None ≡ Some c = e in cc)
  undated_timers (a_ready r) c s e = absurd (let z : None ≡ Some c = e in cc)
  undated_timers (a_lane l) c s e = absurd (let z : None ≡ Some c = e in cc)
  undated_timers away c s e = absurd (let z : None ≡ Some c = e in cc)

  -- a part that is there, as what it stands for
  sorted_there : {Y : Type 0} (as_kind : PartContents A → Option Y) (o : Option (Content A)) (y : Y) → sorted as_kind o ≡ Some y → (c : Content A) × (o ≡ Some c) × (as_kind c.held ≡ Some y)
  sorted_there as_kind None y e = absurd (let z : None ≡ Some y = e in cc)
  sorted_there as_kind (Some c) y e = (c, refl, e)

  bank_there : (o : Option (Content A)) (p : ℕ) (k : Kept) → at_key (channels_of (sorted bank_of o)) p ≡ Some k → (c : Content A) × (o ≡ Some c) × (at_key (channels_of (bank_of c.held)) p ≡ Some k)
  bank_there None p k e = absurd (let z : None ≡ Some k = e in cc)
  bank_there (Some c) p k e = (c, refl, e)

module _ {A C : Type 0} (over : CodeView → A → Type 0) (place : A → At) (advances : ProgramView → A → A → Type 0) (gives : A → Tree → A → Type 0) (starts : ProgramView → SeedView → A → Type 0) (least faults : C → ℕ) (readings : C → Option (List ℕ)) (n w : ℕ) (code : CodeView) (lt : w < n)
    (hand : Hand (Part A C) (PartSeen A) Drawn) (g : ℕ → Option (Part A C)) (s : Surveys (part_seen least faults readings) n code hand g) (full : Fulls (part_count n) g) where
  abbrev seen : Part A C → PartSeen A
  seen = part_seen least faults readings

  abbrev at : ℕ → Option (Part A C × PartSeen A)
  at = as_settled seen g

  abbrev is : List ℕ
  is = places 0 (part_count n)

  touched_is : said.touches (plain_drawn w n said.stalls) ≡ is
  touched_is = ap (λ b. cond b is []) (lt-ltb w n lt)

  has_all : HasAll at is
  has_all = all_places at 0 (part_count n) (λ i le lt. let x = there_is (g i) (full.there i (omega (arith, lt))) in ((x.0, seen x.0), ap (option_map (λ x. (x, seen x))) x.1))

  -- each part that is there, as contracts see it
  abbrev shown : ℕ → Option (Content (TaskAgent A))
  shown j = option_map (λ x. content_of (seen x)) (g j)

  covered : (j : ℕ) → cond (is_place_among j is) (option_map (λ (x : Part A C × PartSeen A). content_of x.1) (at j)) None ≡ shown j
  covered j = ⊎_elim
      (λ lt. ap (λ b. cond b (option_map (λ (x : Part A C × PartSeen A). content_of x.1) (at j)) None) (in_places 0 (part_count n) j (omega arith) (omega (arith, lt))) ∙ twice (g j))
      (λ le. ap (λ b. cond b (option_map (λ (x : Part A C × PartSeen A). content_of x.1) (at j)) None) (out_places 0 (part_count n) j (omega (arith, le))) ∙ sym (ap (option_map (λ x. content_of (seen x))) (full.no_more j le)))
      (cases_lt j (part_count n)) where
        twice : (o : Option (Part A C)) → option_map (λ (x : Part A C × PartSeen A). content_of x.1) (option_map (λ (x : Part A C). (x, seen x)) o) ≡ option_map (λ x. content_of (seen x)) o
        twice None = refl
        twice (Some x) = refl

  abbrev cs : List (Content (TaskAgent A))
  cs = map content_of (settled_contents at is)

  gathered : gather (plain_drawn w n said.stalls) cs ≡ parts_of n shown
  gathered = ap (λ (l : List ℕ). parts_of n (pick l cs)) touched_is ∙ ap (parts_of n) (λ t j. (picked at content_of is has_all j ∙ covered j) t)

  module _ (still : (i : ℕ) → i < part_count n → IsStillAt least faults readings hand i) (undated : IsUndatedAt least faults readings hand (n + 32)) where
    -- what lies there
    lies : (i : ℕ) (c : Content (TaskAgent A)) → shown i ≡ Some c → (x : Part A C) × (g i ≡ Some x) × (c ≡ content_of (seen x))
    lies i c e = by (g i) refl e where
      by : (o : Option (Part A C)) → g i ≡ o → option_map (λ (x : Part A C). content_of (seen x)) o ≡ Some c → (x : Part A C) × (g i ≡ Some x) × (c ≡ content_of (seen x))
      by None k e = absurd (let z : None ≡ Some c = e in cc)
      by (Some x) k e = (x, k, sym (some_same (content_of (seen x)) c e))

    in_range : (i : ℕ) (x : Part A C) → g i ≡ Some x → i < part_count n
    in_range i x e = ⊎_elim (λ lt. lt) (λ le. absurd (let z : None ≡ Some x = sym (full.no_more i le) ∙ e in cc)) (cases_lt i (part_count n))

    is_still : (i : ℕ) (c : Content (TaskAgent A)) → shown i ≡ Some c → IsStill c.held
    is_still i c e = let x = lies i c e in subst (λ (c : Content (TaskAgent A)). IsStill c.held) (sym x.2) (still i (in_range i x.0 x.1) x.0 (lies_at seen n code hand hand g s i x.0 x.1).0)

    is_undated : (c : Content (TaskAgent A)) → shown (n + 32) ≡ Some c → HasNoDeadline c.held
    is_undated c e = let x = lies (n + 32) c e in subst (λ (c : Content (TaskAgent A)). HasNoDeadline c.held) (sym x.2) (undated x.0 (lies_at seen n code hand hand g s (n + 32) x.0 x.1).0)

    stalls : MovesStall (parts_of n shown) (parts_of n shown)
    stalls = record {
      idle = λ v l e. let c = sorted_there lane_of (shown v) l e in still_lane c.0.held l (is_still v c.0 c.1) c.2;
      none_ready = λ r q e. let c = sorted_there ready_of (shown (n + 33 + r)) q e in still_ready c.0.held q (is_still (n + 33 + r) c.0 c.1) c.2;
      none_settles = λ p k e. let c = bank_there (shown (n + home p)) p k e in still_bank c.0.held p k (is_still (n + home p) c.0 c.1) c.2 _;
      none_open = λ c e. let d = sorted_there timers_of (shown (n + 32)) c e in undated_timers d.0.held c (is_undated d.0 d.1) d.2;
      lanes = λ i. refl;
      readys = λ i. refl;
      others = record { banks = λ i. refl; registries = λ i. refl; shards = λ i. refl; timers = refl };
    }

    -- the event, as the table draws it
    pub stall_moves : (d : Drawn) → drawn_view d ≡ plain_drawn w n said.stalls → drawn_code d ≡ code → HasAll at (drawn_touches d) × drawn_moves over place advances gives starts d (settled_contents at (drawn_touches d)) (map seen (values at (drawn_touches d)))
    stall_moves d view of = let t : drawn_touches d ≡ is = ap said.touches view ∙ touched_is in
        subst (λ (l : List ℕ). HasAll at l × drawn_moves over place advances gives starts d (settled_contents at l) (map seen (values at l))) (sym t) (has_all, subst (λ l. drawn_moves over place advances gives starts d (settled_contents at is) l) (settled_values seen g is) both) where
          each : HaveCode code (settled_contents at is) × AllAlike {A = TaskAgent A} n cs cs
          each = each_settled at is n code (λ i x e. of_part i x (g i) refl e) where
            of_part : (i : ℕ) (x : Part A C × PartSeen A) (o : Option (Part A C)) → g i ≡ o → option_map (λ (x : Part A C). (x, seen x)) o ≡ Some x → (x.1.workers ≡ n) × (x.1.code ≡ code)
            of_part i x None k e = absurd (let z : None ≡ Some x = e in cc)
            of_part i x (Some y) k e = subst (λ (z : Part A C × PartSeen A). (z.1.workers ≡ n) × (z.1.code ≡ code)) (some_same (y, seen y) x e) (s.of i y k)

          moves : Moves place (advances_over over (drawn_code d) advances) (gives_over over (drawn_code d) gives) (starts_over over (drawn_code d) starts) (plain_drawn w n said.stalls) cs cs
          moves = (lt, each.1, subst (λ (p : Parts (TaskAgent A)). MovesStall p p) (sym gathered) stalls)

          both : drawn_moves over place advances gives starts d (settled_contents at is) (settled_contents at is)
          both = (subst (λ (k : CodeView). AllCoded k (settled_contents at is) (settled_contents at is)) (sym of) (each.0, each.0), subst (λ (v : said.Drawn). Moves place (advances_over over (drawn_code d) advances) (gives_over over (drawn_code d) gives) (starts_over over (drawn_code d) starts) v cs cs) (sym view) moves)

  -- and all is held as before
  pub stall_keeps : (new : Hand (Part A C) (PartSeen A) Drawn) (ts : List ℕ) → Grips new (settle seen ts at) → Surveys seen n code new g
  stall_keeps new ts grips = record {
    grips = subst (λ (f : ℕ → Option (Part A C × PartSeen A)). Grips new f) (λ t j. settle_same seen g ts j t) grips;
    of = s.of;
  }
