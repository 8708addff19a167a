-- Where a worker carries what an event touches, the parts that it touches are those that are carried.
use Rattle.std.proofs.Common.{◌≡◌, ◌≢◌, ◌∙◌, ℕ, zero, suc, ◌+◌, ◌<◌, ◌≤◌, List, [], ◌∷◌, ◌++◌, refl, sym, ap, arith, Bool, true, false, cond, Option, Some, None, eqb, ne_eqb, eq-eqb, is_some}
use Rattle.std.proofs.lemmas.Bool.{lt-ltb}
use mathlib.Core.Logic.{dite}
use native.Mathlib.Decide.{ℕ_discrete}
use Rattle.ca_commit.specs.Touched.{Drawn, NamedParts, Turn, asks_clock, fails, halts, homes, listed_if, picks, prunes, ready_at, shown, stalls, stops, touched, touches, turn_touches, wanted, yields}
use Rattle.ca_table.specs.Carrying.{Carries, at_places}
use Rattle.ca_table.specs.Covering.{Covers, is_named_one, turn_names}
use Rattle.ca_table.specs.Grips.{is_place_among}
use Rattle.ca_table.proofs.Carried.{everywhere, shifted}
use Rattle.ca_table.proofs.Carrying.{at_bank, at_ready, at_shard, at_timers, below_n}

skip : (j : ℕ) (xs ys : List ℕ) → is_place_among j xs ≡ false → is_place_among j (xs ++ ys) ≡ is_place_among j ys
skip j [] ys e = refl
skip j (x ∷ xs) ys e = by (eqb x j) (skip j xs ys) e where
  by : (b : Bool) → (is_place_among j xs ≡ false → is_place_among j (xs ++ ys) ≡ is_place_among j ys) → cond b true (is_place_among j xs) ≡ false → cond b true (is_place_among j (xs ++ ys)) ≡ is_place_among j ys
  by true more e = absurd (let z : true ≡ false = e in cc)
  by false more e = more e

stop : (j : ℕ) (xs ys : List ℕ) → is_place_among j ys ≡ false → is_place_among j (xs ++ ys) ≡ is_place_among j xs
stop j [] ys e = e
stop j (x ∷ xs) ys e = ap (λ b. cond (eqb x j) true b) (stop j xs ys e)

one_in : (b : Bool) (w j : ℕ) → is_place_among j (listed_if b w) ≡ cond (eqb w j) b false
one_in true w j = refl
one_in false w j = by (eqb w j) where
  by : (b : Bool) → false ≡ cond b false false
  by true = refl
  by false = refl

one_out : (b : Bool) (w j : ℕ) → (w ≡ j → ⊥) → is_place_among j (listed_if b w) ≡ false
one_out b w j ne = one_in b w j ∙ ap (λ c. cond c b false) (ne_eqb w j ne)

wanted_out : (t : ℕ → Bool) (base k c j : ℕ) → ((i : ℕ) → k ≤ i → i < k + c → base + i ≡ j → ⊥) → is_place_among j (wanted t base k c) ≡ false
wanted_out t base k zero j h = refl
wanted_out t base k (suc c) j h = by (t k) (ne_eqb (base + k) j (h k (omega arith) (omega arith))) (wanted_out t base (suc k) c j (λ i le lt. h i (omega (arith, le)) (omega (arith, lt)))) where
  by : (b : Bool) → eqb (base + k) j ≡ false → is_place_among j (wanted t base (suc k) c) ≡ false → is_place_among j (cond b ((base + k) ∷ wanted t base (suc k) c) (wanted t base (suc k) c)) ≡ false
  by true e r = ap (λ z. cond z true (is_place_among j (wanted t base (suc k) c))) e ∙ r
  by false e r = r

wanted_in : (t : ℕ → Bool) (base k c i : ℕ) → k ≤ i → i < k + c → is_place_among (base + i) (wanted t base k c) ≡ t i
wanted_in t base k zero i le lt = absurd (omega (arith, le, lt))
wanted_in t base k (suc c) i le lt = dite (ℕ_discrete k i)
    (λ same. first (t k) refl same)
    (λ ne. later (t k) (ne_eqb (base + k) (base + i) (λ e. ne (let z : k ≡ i = omega (arith, e) in z))) (wanted_in t base (suc k) c i (omega (arith, le, ne)) (omega (arith, lt)))) where
      first : (b : Bool) → t k ≡ b → k ≡ i → is_place_among (base + i) (cond b ((base + k) ∷ wanted t base (suc k) c) (wanted t base (suc k) c)) ≡ t i
      first true is same = ap (λ z. cond z true (is_place_among (base + i) (wanted t base (suc k) c))) (eq-eqb (base + k) (base + i) (ap (λ (z : ℕ). base + z) same)) ∙ sym (ap t (sym same) ∙ is)
      first false is same = wanted_out t base (suc k) c (base + i) (λ j le lt e. omega (arith, le, e, same)) ∙ sym (ap t (sym same) ∙ is)

      later : (b : Bool) → eqb (base + k) (base + i) ≡ false → is_place_among (base + i) (wanted t base (suc k) c) ≡ t i → is_place_among (base + i) (cond b ((base + k) ∷ wanted t base (suc k) c) (wanted t base (suc k) c)) ≡ t i
      later true e r = ap (λ z. cond z true (is_place_among (base + i) (wanted t base (suc k) c))) e ∙ r
      later false e r = r

same_cond : (b : Bool) → cond b true false ≡ b
same_cond true = refl
same_cond false = refl

ready_in : (n r : ℕ) (o : Option ℕ) → is_place_among (n + 33 + r) (ready_at n o) ≡ is_named_one o r
ready_in n r None = refl
ready_in n r (Some q) = ap (λ b. cond b true false) (shifted (n + 33) q r) ∙ same_cond (eqb q r)

ready_out : (n j : ℕ) (o : Option ℕ) → j < n + 33 → is_place_among j (ready_at n o) ≡ false
ready_out n j None lt = refl
ready_out n j (Some q) lt = ap (λ b. cond b true false) (ne_eqb (n + 33 + q) j (λ e. omega (arith, e, lt)))

module _ {X : Type 0} (d : Drawn) (h : Carries X) (lt : d.worker < d.workers) (c : Covers d h) where
  abbrev w : ℕ
  w = d.worker

  abbrev n : ℕ
  n = d.workers

  abbrev x : NamedParts
  x = turn_names d.worker d.what

  abbrev of_banks : List ℕ
  of_banks = wanted (homes (x.ports ++ d.ports)) n 0 16

  abbrev of_shards : List ℕ
  of_shards = wanted (homes (x.waits ++ d.looked)) (n + 16) 0 16

  abbrev of_timers : List ℕ
  of_timers = listed_if x.timers (n + 32)

  abbrev of_ready : List ℕ
  of_ready = ready_at n x.ready

  not_bank : (j : ℕ) → ((i : ℕ) → i < 16 → n + i ≡ j → ⊥) → is_place_among j of_banks ≡ false
  not_bank j out = wanted_out (homes (x.ports ++ d.ports)) n 0 16 j (λ i le lt. out i (omega (arith, lt)))

  not_shard : (j : ℕ) → ((i : ℕ) → i < 16 → n + 16 + i ≡ j → ⊥) → is_place_among j of_shards ≡ false
  not_shard j out = wanted_out (homes (x.waits ++ d.looked)) (n + 16) 0 16 j (λ i le lt. out i (omega (arith, lt)))

  -- below the timers only the lane, the banks and the shards count
  none_from_timers : (j : ℕ) → j < n + 32 → is_place_among j (of_timers ++ of_ready) ≡ false
  none_from_timers j below = skip j of_timers of_ready (one_out x.timers (n + 32) j (λ e. omega (arith, e, below))) ∙ ready_out n j x.ready (omega (arith, below))

  none_from_shards : (j : ℕ) → j < n + 16 → is_place_among j (of_shards ++ (of_timers ++ of_ready)) ≡ false
  none_from_shards j below = skip j of_shards (of_timers ++ of_ready) (not_shard j (λ i lt e. omega (arith, e, below))) ∙ none_from_timers j (omega (arith, below))

  none_from_banks : (j : ℕ) → j < n → is_place_among j (of_banks ++ (of_shards ++ (of_timers ++ of_ready))) ≡ false
  none_from_banks j below = skip j of_banks (of_shards ++ (of_timers ++ of_ready)) (not_bank j (λ i lt e. omega (arith, e, below))) ∙ none_from_shards j (omega (arith, below))

  past_lanes : (j : ℕ) → n ≤ j → is_place_among j (touched w n d.ports d.looked x) ≡ is_place_among j (of_banks ++ (of_shards ++ (of_timers ++ of_ready)))
  past_lanes j le = skip j (listed_if x.lane w) (of_banks ++ (of_shards ++ (of_timers ++ of_ready))) (one_out x.lane w j (λ e. omega (arith, e, le, lt)))

  past_banks : (j : ℕ) → n + 16 ≤ j → is_place_among j (touched w n d.ports d.looked x) ≡ is_place_among j (of_shards ++ (of_timers ++ of_ready))
  past_banks j le = past_lanes j (omega (arith, le)) ∙ skip j of_banks (of_shards ++ (of_timers ++ of_ready)) (not_bank j (λ i lt e. omega (arith, e, lt, le)))

  past_shards : (j : ℕ) → n + 32 ≤ j → is_place_among j (touched w n d.ports d.looked x) ≡ is_place_among j (of_timers ++ of_ready)
  past_shards j le = past_banks j (omega (arith, le)) ∙ skip j of_shards (of_timers ++ of_ready) (not_shard j (λ i lt e. omega (arith, e, lt, le)))

  own : (b : Bool) (l : Bool) (o : Option X) → l ≡ is_some o → cond b l false ≡ is_some (cond b o None)
  own true l o e = e
  own false l o e = refl

  named_there : (j : ℕ) → is_place_among j (touched w n d.ports d.looked x) ≡ is_some (at_places n w h j)
  named_there = everywhere n (λ (j : ℕ). is_place_among j (touched w n d.ports d.looked x) ≡ is_some (at_places n w h j))
      (λ j below. stop j (listed_if x.lane w) (of_banks ++ (of_shards ++ (of_timers ++ of_ready))) (none_from_banks j below) ∙ one_in x.lane w j ∙ own (eqb w j) x.lane h.lane c.lane ∙ ap is_some (sym (below_n n w h j below)))
      (λ i few. past_lanes (n + i) (omega arith) ∙ stop (n + i) of_banks (of_shards ++ (of_timers ++ of_ready)) (none_from_shards (n + i) (omega (arith, few))) ∙ wanted_in (homes (x.ports ++ d.ports)) n 0 16 i (omega arith) (omega (arith, few)) ∙ c.banks i few ∙ ap is_some (sym (at_bank n w h i few)))
      (λ i few. past_banks (n + 16 + i) (omega arith) ∙ stop (n + 16 + i) of_shards (of_timers ++ of_ready) (none_from_timers (n + 16 + i) (omega (arith, few))) ∙ wanted_in (homes (x.waits ++ d.looked)) (n + 16) 0 16 i (omega arith) (omega (arith, few)) ∙ c.shards i few ∙ ap is_some (sym (at_shard n w h i few)))
      (past_shards (n + 32) (omega arith) ∙ stop (n + 32) of_timers of_ready (ready_out n (n + 32) x.ready (omega arith)) ∙ one_in x.timers (n + 32) (n + 32) ∙ ap (λ b. cond b x.timers false) (eq-eqb (n + 32) (n + 32) refl) ∙ c.timers ∙ ap is_some (sym (at_timers n w h)))
      (λ r. past_shards (n + 33 + r) (omega arith) ∙ skip (n + 33 + r) of_timers of_ready (one_out x.timers (n + 32) (n + 33 + r) (λ e. omega (arith, e))) ∙ ready_in n r x.ready ∙ c.ready r ∙ ap is_some (sym (at_ready n w h r)))

  named : (what : Turn) → what ≢ stalls → turn_touches w n d.ports d.looked what ≡ touched w n d.ports d.looked (turn_names w what)
  named (shown e) ne = refl
  named (picks r) ne = refl
  named yields ne = refl
  named (prunes side p wait) ne = refl
  named asks_clock ne = refl
  named fails ne = refl
  named stops ne = refl
  named halts ne = refl
  named stalls ne = absurd (ne refl)

  pub covered : (j : ℕ) → is_place_among j (touches d) ≡ is_some (at_places n w h j)
  covered j = ap (is_place_among j) (ap (λ b. cond b (turn_touches w n d.ports d.looked d.what) []) (lt-ltb w n lt) ∙ named d.what c.some) ∙ named_there j
