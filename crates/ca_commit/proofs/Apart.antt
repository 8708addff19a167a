-- No drawn event touches a part twice, and the parts ascend.
use Rattle.std.proofs.Common.{◌≡◌, ◌≢◌, ℕ, zero, suc, ◌+◌, ◌≤◌, ◌<◌, List, [], ◌∷◌, ◌++◌, refl, arith, Bool, true, false, cond, Option, Some, None, nat_lt, ltb-true}
use Rattle.ca_commit.specs.Touched.{AllHave, Drawn, NoneTwice, NamedParts, Rises, Turn, asks_clock, event_names, fails, halts, homes, listed_if, only_timers, picks, prunes, ready_at, shown, stalls, stops, touched, touches, turn_touches, wanted, yields}

-- all below the bound
abbrev Below : ℕ → List ℕ → Type 0
Below hi xs = AllHave (λ x. x < hi) xs

rises_less : (lo lo2 : ℕ) (xs : List ℕ) → lo ≤ lo2 → Rises lo2 xs → Rises lo xs
rises_less lo lo2 [] le r = tt
rises_less lo lo2 (x ∷ xs) le r = (let k = r.0 in omega (arith, le, k), r.1)

rises_append : (lo hi : ℕ) (xs ys : List ℕ) → lo ≤ hi → Rises lo xs → Below hi xs → Rises hi ys → Rises lo (xs ++ ys)
rises_append lo hi [] ys le a b c = rises_less lo hi ys le c
rises_append lo hi (x ∷ xs) ys le a b c = (a.0, rises_append (suc x) hi xs ys (let k = b.0 in omega (arith, k)) a.1 b.1 c)

wanted_rises : (t : ℕ → Bool) (base i c : ℕ) → Rises (base + i) (wanted t base i c)
wanted_rises t base i zero = tt
wanted_rises t base i (suc c) = by (t i) (wanted_rises t base (suc i) c) where
  more : Rises (base + suc i) (wanted t base (suc i) c) → Rises (base + i) (wanted t base (suc i) c)
  more r = rises_less (base + i) (base + suc i) (wanted t base (suc i) c) (omega arith) r

  by : (b : Bool) → Rises (base + suc i) (wanted t base (suc i) c) → Rises (base + i) (cond b ((base + i) ∷ wanted t base (suc i) c) (wanted t base (suc i) c))
  by true r = (omega arith, rises_less (suc (base + i)) (base + suc i) (wanted t base (suc i) c) (omega arith) r)
  by false r = more r

wanted_below : (t : ℕ → Bool) (base i c hi : ℕ) → base + i + c ≤ hi → Below hi (wanted t base i c)
wanted_below t base i zero hi le = tt
wanted_below t base i (suc c) hi le = by (t i) (wanted_below t base (suc i) c hi (omega (arith, le))) where
  by : (b : Bool) → Below hi (wanted t base (suc i) c) → Below hi (cond b ((base + i) ∷ wanted t base (suc i) c) (wanted t base (suc i) c))
  by true r = (omega (arith, le), r)
  by false r = r

one_rises : (b : Bool) (i : ℕ) → Rises i (listed_if b i)
one_rises true i = (omega arith, tt)
one_rises false i = tt

one_below : (b : Bool) (i hi : ℕ) → i < hi → Below hi (listed_if b i)
one_below true i hi lt = (lt, tt)
one_below false i hi lt = tt

ready_rises : (n : ℕ) (r : Option ℕ) → Rises (n + 33) (ready_at n r)
ready_rises n None = tt
ready_rises n (Some r) = (omega arith, tt)

touched_rises : (w n : ℕ) (ports looked : List ℕ) (x : NamedParts) → w < n → Rises w (touched w n ports looked x)
touched_rises w n ports looked x lt = rises_append w n (listed_if x.lane w) rest1 (omega (arith, lt)) (one_rises x.lane w) (one_below x.lane w n lt)
    (rises_less n (n + 0) rest1 (omega arith)
    (rises_append (n + 0) (n + 16 + 0) (wanted (homes (x.ports ++ ports)) n 0 16) rest2 (omega arith) (wanted_rises (homes (x.ports ++ ports)) n 0 16) (wanted_below (homes (x.ports ++ ports)) n 0 16 (n + 16 + 0) (omega arith))
    (rises_append (n + 16 + 0) (n + 32) (wanted (homes (x.waits ++ looked)) (n + 16) 0 16) rest3 (omega arith) (wanted_rises (homes (x.waits ++ looked)) (n + 16) 0 16) (wanted_below (homes (x.waits ++ looked)) (n + 16) 0 16 (n + 32) (omega arith))
    (rises_append (n + 32) (n + 33) (listed_if x.timers (n + 32)) (ready_at n x.ready) (omega arith) (one_rises x.timers (n + 32)) (one_below x.timers (n + 32) (n + 33) (omega arith)) (ready_rises n x.ready))))) where
      rest3 : List ℕ
      rest3 = listed_if x.timers (n + 32) ++ ready_at n x.ready

      rest2 : List ℕ
      rest2 = wanted (homes (x.waits ++ looked)) (n + 16) 0 16 ++ rest3

      rest1 : List ℕ
      rest1 = wanted (homes (x.ports ++ ports)) n 0 16 ++ rest2

turn_rises : (w n : ℕ) (ports looked : List ℕ) (what : Turn) → w < n → Rises 0 (turn_touches w n ports looked what)
turn_rises w n ports looked what lt = by what where
  few : (x : NamedParts) → Rises 0 (touched w n ports looked x)
  few x = rises_less 0 w (touched w n ports looked x) (omega arith) (touched_rises w n ports looked x lt)

  by : (what : Turn) → Rises 0 (turn_touches w n ports looked what)
  by (shown e) = few (event_names w e)
  by (picks r) = few (record { lane = true; ports = []; waits = []; timers = false; ready = Some r })
  by yields = few (record { lane = true; ports = []; waits = []; timers = false; ready = Some w })
  by (prunes side p wait) = few (record { lane = false; ports = p ∷ []; waits = wait ∷ []; timers = false; ready = None })
  by asks_clock = few only_timers
  by fails = few only_timers
  by stops = few only_timers
  by halts = few only_timers
  by stalls = rises_less 0 (0 + 0) (wanted (λ i. true) 0 0 (n + 33 + n)) (omega arith) (wanted_rises (λ i. true) 0 0 (n + 33 + n))

pub touches_rise : (d : Drawn) → Rises 0 (touches d)
touches_rise d = by (nat_lt d.worker d.workers) refl where
  by : (b : Bool) → nat_lt d.worker d.workers ≡ b → Rises 0 (cond b (turn_touches d.worker d.workers d.ports d.looked d.what) [])
  by true is = turn_rises d.worker d.workers d.ports d.looked d.what (ltb-true d.worker d.workers is)
  by false is = tt

all_apart : (i lo : ℕ) (xs : List ℕ) → i < lo → Rises lo xs → AllHave (λ j. i ≢ j) xs
all_apart i lo [] lt r = tt
all_apart i lo (x ∷ xs) lt r = let le = r.0 in ((λ e. omega (arith, lt, le, e)), all_apart i (suc x) xs (omega (arith, lt, le)) r.1)

pub rises_distinct : (lo : ℕ) (xs : List ℕ) → Rises lo xs → NoneTwice xs
rises_distinct lo [] r = tt
rises_distinct lo (x ∷ xs) r = (all_apart x (suc x) xs (omega arith) r.1, rises_distinct (suc x) xs r.1)

pub touches_distinct : (d : Drawn) → NoneTwice (touches d)
touches_distinct d = rises_distinct 0 (touches d) (touches_rise d)
